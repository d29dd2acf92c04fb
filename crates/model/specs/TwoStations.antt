-- 02, Eight, saved boards of two stations: every list of calls from such a board, fresh but for the two proposals.
-- Relies on the calls, on the lists of demand 3 and on stations left running; proofs/TwoStations.antt proves
-- `SavedBoards` for every list.
use Rattle.std.specs.Prelude.{List, ℕ, ◌+◌, ◌*◌, ◌≤◌, ◌≡◌}
use Rattle.std.specs.Int.{w32}
use Rattle.std.proofs.Common.{SFits}
use Rattle.model.specs.Figure.{Figure}
use Rattle.model.specs.Layout.{fresh_board}
use Rattle.model.specs.Listing.{proposed}
use Rattle.model.specs.Calls.{stations, station_at, put_proposal}
use Rattle.model.specs.Claims.{Passes}
use Rattle.model.specs.AnyList.{Call, after, AllAllowed, Some, Steps, Decides}
use Rattle.model.specs.LeftRunning.{RoomAbove, GoingOn, DecidesWithin}

-- "on such a board, fresh but for the two proposals": v of station 1 and w of station 2. No call makes it, so it is put
-- together here.
unfoldable pub start : (K : ℕ) (v w : Figure) → List ℕ
start K v w = put_proposal 2 K 1 w (put_proposal 2 K 0 v (fresh_board 2 K))

-- the board b "holds" v "as the proposal of a station", of number i, which has taken no step since
pub record Holds (i : ℕ) (v : Figure) (b : List ℕ) : Type 0 where
  pub low : 1 ≤ i
  pub high : i ≤ stations b
  pub proposal : station_at i b ≡ proposed v

-- "all decisions made are one figure, which the start holds as the proposal of a station that took a step"
pub record Settles (b : List ℕ) (cs : List Call) : Type 0 where
  pub agreement : (i j : ℕ) (x y : Figure) → Some (Decides i x) cs b → Some (Decides j y) cs b → x ≡ y
  pub validity : (i : ℕ) (x : Figure) → Some (Decides i x) cs b → (j : ℕ) × Holds j x b × Some (Steps j) cs b
  -- and as Six has it of boards that can be laid: "a going station that alone takes steps decides within 9(n + 1)"
  pub alone : RoomAbove (after cs b) → (i : ℕ) → GoingOn i (after cs b) → (steps : ℕ) → 9 * (2 + 1) ≤ steps
      → DecidesWithin steps i (after cs b)

-- What is said of such a board: it is sound, it holds the two figures, and so it is of every list from it, with refused
-- calls anywhere.
pub record SavedBoard (v w : Figure) (b : List ℕ) : Type 0 where
  pub sound : Passes b
  pub first : Holds 1 v b
  pub second : Holds 2 w b
  pub settles : (cs : List Call) → AllAllowed cs b → Settles b cs

-- "from a start like that, whatever K, the two figures and the steps"
unfoldable pub SavedBoards : Type 0
SavedBoards =
    (K : ℕ) → 2 ≤ K → K ≤ 64 → (v w : Figure) → SFits w32 v → SFits w32 w → SavedBoard v w (start K v w)
