-- Two of 02 on lists of calls: what planners read in a saved board is how many steps a station has taken.
-- Relies on the calls, on the lists of demand 3 and on a sheet's lines as such a list; proofs/Bridge/StepCount.antt and
-- proofs/Sheet/StepsOfLines.antt prove the two claims.
use Rattle.std.specs.Prelude.{◌&&◌, cond, List, [], ◌∷◌, ℕ, ◌+◌, ◌*◌, ◌≤◌, eqb, length, take, ◌≡◌, map}
use Rattle.std.proofs.Math.Option.{none}
use Rattle.std.specs.Int.{w32}
use Rattle.std.proofs.Common.{SFits}
use Rattle.model.specs.Figure.{Figure}
use Rattle.model.specs.Listing.{accepted}
use Rattle.model.specs.Layout.{board_length}
use Rattle.model.specs.Calls.{stations, islands, steps_taken, lay, propose, step, run}
use Rattle.model.specs.Rounds.{rounds_refusal, rounds_steps, rounds}
use Rattle.model.specs.Proposals.{Proposal, AllFit, propose_all}
use Rattle.model.specs.Claims.{Passes}
use Rattle.model.specs.Sheet.{play_board}
use Rattle.model.specs.AnyList.{Call, laying, proposing, stepping, called, after, AllAllowed}
use Rattle.model.specs.SheetList.{play_lines, board_of, lines_calls, AllStay}

-- the accepted steps of station number i among the calls of a list, each lent the board as the call before left it
unfoldable pub steps_by : (i : ℕ) → Call → List ℕ → ℕ
steps_by i (laying n K) b = 0
steps_by i (proposing j v) b = 0
steps_by i (stepping j) b = cond (eqb i j && accepted (step j b).answer.did) 1 0

unfoldable pub steps_in : (i : ℕ) → List Call → List ℕ → ℕ
steps_in i [] b = 0
steps_in i (c ∷ cs) b = steps_by i c b + steps_in i cs (called c b)

pub record StepCount : Type 0 where
  -- From any sound board, reached from a fresh one or not, a list adds the station's accepted steps in it, and nothing
  -- else: no refused call, no step of another station.
  pub adds : (b : List ℕ) → Passes b → (i : ℕ) → 1 ≤ i → i ≤ stations b → (cs : List Call) → AllAllowed cs b
      → steps_taken i (after cs b) ≡ steps_taken i b + steps_in i cs b
  -- "the station's own accepted steps since its proposal": after it the count is that of the list behind it
  pub since : (b : List ℕ) → Passes b → (i : ℕ) (v : Figure) → SFits w32 v → (propose i v b).answer ≡ none
      → (cs : List Call) → AllAllowed cs (propose i v b).bytes
      → steps_taken i (after cs (propose i v b).bytes) ≡ steps_in i cs (propose i v b).bytes
  -- and so it is of a list from the laid board, where a station takes no step before its proposal
  pub laid : (n K : ℕ) (lent : List ℕ) → (lay n K lent).answer ≡ none → (i : ℕ) → 1 ≤ i → i ≤ n
      → (cs : List Call) → AllAllowed cs (lay n K lent).bytes
      → steps_taken i (after cs (lay n K lent).bytes) ≡ steps_in i cs (lay n K lent).bytes
  -- a run, and rounds that are played, add what their single steps add
  pub running : (b : List ℕ) → Passes b → (i : ℕ) → 1 ≤ i → i ≤ stations b → (is : List ℕ) → length is ≤ 65536
      → steps_taken i (run is b).bytes ≡ steps_taken i b + steps_in i (map stepping is) b
  pub playing : (b : List ℕ) → Passes b → (i : ℕ) → 1 ≤ i → i ≤ stations b → (k : ℕ) (rs : List (List ℕ))
      → rounds_refusal k rs b ≡ none
      → steps_taken i (rounds k rs b).bytes
      ≡ steps_taken i b + steps_in i (map stepping (rounds_steps (stations b) rs)) b
  -- proposals put in together add none
  pub together : (b : List ℕ) → Passes b → (i : ℕ) → 1 ≤ i → i ≤ stations b → (ps : List Proposal) → AllFit ps
      → steps_taken i (propose_all ps b).bytes ≡ steps_taken i b
  -- "so it always fits"
  pub fits : (b : List ℕ) → Passes b → (i : ℕ) → 1 ≤ i → i ≤ stations b
      → (steps_taken i b ≤ 3 * (stations b + 1) * islands b) × (steps_taken i b ≤ 3264)

-- The same of a sheet, from an accepted `board n K` on: its lines, runs and rounds among them, count as the single
-- steps that they are.
unfoldable pub SheetStepCount : Type 0
SheetStepCount =
    (laid : ℕ) (m : List ℕ) (n K : ℕ) → (lay n K (take (board_length n K) m)).answer ≡ none
    → (ls : List (List ℕ)) → AllStay ls (play_board laid m n K) → (i : ℕ) → 1 ≤ i → i ≤ n
    → steps_taken i (board_of (play_lines ls (play_board laid m n K)))
    ≡ steps_in i (lines_calls ls (play_board laid m n K)) (board_of (play_board laid m n K))
