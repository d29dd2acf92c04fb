-- What the single steps of a round are, as 02 says it: "every other going station takes one whole step, a write and its
-- collect".
-- Relies on the rounds and on the paper's lines of a collect; proofs/Bridge/SettledAgain.antt proves `WholeSteps`.
use Rattle.std.specs.Prelude.{true, List, [], ◌∷◌, ◌++◌, ℕ, zero, suc, ◌+◌, ◌*◌, ◌-◌, ◌≤◌, replicate, ◌≡◌, ◌<◌}
use Rattle.std.proofs.Math.Option.{none, some}
use Rattle.model.specs.Figure.{Figure, figures}
use Rattle.model.specs.Listing.{Turn, Register, Array, array, entry, writing, active, wrote, read, refused, Move}
use Rattle.model.specs.Collects.{Ends}
use Rattle.model.specs.Layout.{row_of, register_of, record_of}
use Rattle.model.specs.Calls.{stations, islands, station_at, not_going, step}
use Rattle.model.specs.Claims.{Passes}
use Rattle.model.specs.Runs.{after, answers}
use Rattle.model.specs.Rounds.{rounds_steps, all_settled}

-- the k registers of an array from position p on, as they stand on a board
unfoldable pub registers_from : (n : ℕ) → Array → (p k : ℕ) → List ℕ → List (Register Figure)
registers_from n a p zero b = []
registers_from n a p (suc k) b = register_of n a p b ∷ registers_from n a (p + 1) k b

-- One whole step of station number i, from the board b to the board d.
pub record WholeStep (i : ℕ) (b d : List ℕ) : Type 0 where
  pub v : Figure
  pub turn : Turn
  pub c : ℕ
  pub x : Figure
  pub end : Move Figure
  -- the station stood before a write, and stands as the end of its collect leaves it
  pub stood : station_at i b ≡ active v (writing turn c x)
  pub stands : station_at i d ≡ active v end.stage
  -- "a write": its own register of one array, and no other register
  pub written : register_of (stations b) (array turn c) (i - 1) d ≡ entry turn c x
  pub unwritten : (a : Array) (j : ℕ) → row_of a < 1 + 2 * islands b → j < stations b
      → ((a ≡ array turn c) × (j ≡ i - 1) → ⊥)
      → register_of (stations b) a j d ≡ register_of (stations b) a j b
  -- "and its collect": the end is that of the paper's lines on all n registers of that array
  pub collects : Ends figures (islands b) (registers_from (stations b) (array turn c) 0 (stations b) d) c turn end
  -- the single steps answer so: the write, a read for each register but the last, and the end of the collect
  pub answered : answers step b (replicate (stations b + 1) i)
      ≡ wrote ∷ (replicate (stations b - 1) read ++ (end.answer ∷ []))
  -- and no other station's record is touched
  pub others : (j : ℕ) → j < stations b → (i - 1 ≡ j → ⊥)
      → record_of (stations b) (islands b) j d ≡ record_of (stations b) (islands b) j b

pub record WholeSteps : Type 0 where
  -- on a board that passes 18, the n + 1 single steps of a going station are one whole step
  pub whole : (i : ℕ) (b : List ℕ) → Passes b → all_settled b ≡ true → 1 ≤ i → i ≤ stations b
      → not_going (station_at i b) ≡ none → WholeStep i b (after step b (replicate (stations b + 1) i))
  -- those of any other station are refused, and change nothing
  pub passed : (i : ℕ) (b : List ℕ) → Passes b → 1 ≤ i → i ≤ stations b → (k : ℕ) → not_going (station_at i b) ≡ some k
      → (steps : ℕ)
      → (answers step b (replicate steps i) ≡ replicate steps (refused k)) × (after step b (replicate steps i) ≡ b)
  -- after any rounds the board passes 18 again, so that 18 need be tested but once
  pub settled_again : (rs : List (List ℕ)) (b : List ℕ) → Passes b → all_settled b ≡ true
      → all_settled (after step b (rounds_steps (stations b) rs)) ≡ true
