-- Six of 02 on lists of calls: a station that is left alone gets to a decision, and with one figure proposed by all
-- each decides on island 0, whoever else moves. The field's term is termination.
-- Relies on the calls and on the lists of demand 3; proofs/LeftRunning.antt proves `LeftRunning` for every list.
use Rattle.std.specs.Prelude.{List, ℕ, ◌+◌, ◌*◌, ◌-◌, ◌≤◌, replicate, take, ◌≡◌, ◌<◌}
use Rattle.std.proofs.Math.Option.{none}
use Rattle.std.specs.Int.{w32}
use Rattle.std.proofs.Common.{SFits}
use Rattle.model.specs.Figure.{Figure}
use Rattle.model.specs.Listing.{Register, empty, filled, in_m, decided, goes_on, outcome}
use Rattle.model.specs.Layout.{board_length, register_of}
use Rattle.model.specs.Calls.{stations, islands, station_at, not_going, lay, propose, step, run}
use Rattle.model.specs.Standing.{Standing, stands_idle, stands_going, stands_decided, stands_spent, standing_of}
use Rattle.model.specs.AnyList.{Call, after, AllAllowed, Some, Proposes, Decides, until}
use Rattle.model.specs.Sheet.{play_board}
use Rattle.model.specs.SheetList.{board_of, lines_calls, AllStay}
use Rattle.model.specs.StepCount.{steps_in}

-- ---- "a going station that alone takes steps decides within 9(n + 1) of them"

-- a register that has no island above k; an empty one has none
unfoldable pub UpTo : (k : ℕ) → Register Figure → Type 0
UpTo k empty = Unit {0}
UpTo k (filled f j x) = j ≤ k

-- "the highest island in m is at most K − 2 or m is empty"
unfoldable pub RoomAbove : List ℕ → Type 0
RoomAbove b = (j : ℕ) → j < stations b → UpTo (islands b - 2) (register_of (stations b) in_m j b)

-- a station that stands on no island above k, as `show` tells it; an idle one stands on none
unfoldable pub StandsUpTo : (k : ℕ) → Standing → Type 0
StandsUpTo k stands_idle = Unit {0}
StandsUpTo k (stands_going c x) = c ≤ k
StandsUpTo k (stands_decided c x) = c ≤ k
StandsUpTo k (stands_spent c x) = c ≤ k

-- "m is empty": nobody has taken a step
unfoldable pub NobodyStepped : List ℕ → Type 0
NobodyStepped b = (j : ℕ) → j < stations b → register_of (stations b) in_m j b ≡ empty

-- "a going station", of those numbered 1 to n: one that is idle, has decided or is spent is not spoken of
pub record GoingOn (i : ℕ) (b : List ℕ) : Type 0 where
  pub low : 1 ≤ i
  pub high : i ≤ stations b
  pub going : not_going (station_at i b) ≡ none

-- The station is stepped and nobody else: its steps are accepted, and one of the first `steps` answers *decided*.
-- (`until` ends with the first answer that is *decided*, *spent* or a refusal, or when so many steps have been taken.)
unfoldable pub DecidesWithin : (steps i : ℕ) → List ℕ → Type 0
DecidesWithin steps i b = (k : ℕ) × (v : Figure) × ((until steps i b).answer.did ≡ decided k v)

-- ---- "With one figure proposed by all, it decides on island 0 after exactly 3(n + 1) own steps, whoever else moves."

-- every proposal that the list accepts, at whatever time, is of v
unfoldable pub OneFigure : (v : Figure) → List Call → List ℕ → Type 0
OneFigure v cs b = (j : ℕ) (w : Figure) → Some (Proposes j w) cs b → w ≡ v

-- How station number i gets on in a list of calls from the board b, by the own steps that it took in it. The list is
-- any one, so this speaks of every moment of a run.
pub record Unanimous (n : ℕ) (b : List ℕ) (cs : List Call) (v : Figure) (i : ℕ) : Type 0 where
  -- a step of a station that has proposed is accepted and does not end it, before the one of that number
  pub earlier : Some (Proposes i v) cs b → steps_in i cs b + 1 < 3 * (n + 1)
      → outcome (step i (after cs b)).answer.did ≡ goes_on
  -- which decides
  pub exactly : Some (Proposes i v) cs b → steps_in i cs b + 1 ≡ 3 * (n + 1)
      → (step i (after cs b)).answer.did ≡ decided 0 v
  -- and however the list goes on, the station stands decided there and takes no step more
  pub ever_after : 3 * (n + 1) ≤ steps_in i cs b
      → (standing_of (station_at i (after cs b)) ≡ stands_decided 0 v) × (steps_in i cs b ≡ 3 * (n + 1))
  -- no answer of the list is *decided* at another number of own steps, or with another figure
  pub only_then : (w : Figure) → Some (Decides i w) cs b → (steps_in i cs b ≡ 3 * (n + 1)) × (w ≡ v)

-- ---- both, of a list of calls from the board b

pub record Terminates (n : ℕ) (b : List ℕ) (cs : List Call) : Type 0 where
  -- "On a board reached from a fresh one, if the highest island in m is at most K − 2 or m is empty"
  pub alone : RoomAbove (after cs b) → (i : ℕ) → GoingOn i (after cs b) → (steps : ℕ) → 9 * (n + 1) ≤ steps
      → DecidesWithin steps i (after cs b)
  -- and so a run of that many steps of the station leaves it standing decided
  pub run_alone : RoomAbove (after cs b) → (i : ℕ) → GoingOn i (after cs b)
      → (k : ℕ) × (v : Figure)
      × (standing_of (station_at i (run (replicate (9 * (n + 1)) i) (after cs b)).bytes) ≡ stands_decided k v)
  -- That there is room can be seen without a look at m: where every station stands up to island K − 2, there is.
  pub shown_room : ((j : ℕ) → 1 ≤ j → j ≤ n
      → StandsUpTo (islands (after cs b) - 2) (standing_of (station_at j (after cs b)))) → RoomAbove (after cs b)
  -- Where m is empty a third of it is enough, and the figure is the station's own.
  pub nobody_stepped : NobodyStepped (after cs b) → (i : ℕ) (v : Figure) → Some (Proposes i v) cs b
      → (steps : ℕ) → 3 * (n + 1) ≤ steps → (until steps i (after cs b)).answer.did ≡ decided 0 v
  pub one_figure : (v : Figure) → OneFigure v cs b → (i : ℕ) → 1 ≤ i → i ≤ n → Unanimous n b cs v i

-- for every board that can be laid
unfoldable pub LeftRunning : Type 0
LeftRunning =
    (n K : ℕ) (lent : List ℕ) → (lay n K lent).answer ≡ none → (cs : List Call) → AllAllowed cs (lay n K lent).bytes
    → Terminates n (lay n K lent).bytes cs

-- The same of a sheet, from an accepted `board n K` on: its lines, runs and rounds among them, stand in the list as the
-- single calls that they make, and leave the board as those do (`SheetDemand3`).
unfoldable pub SheetLeftRunning : Type 0
SheetLeftRunning =
    (laid : ℕ) (m : List ℕ) (n K : ℕ) → (lay n K (take (board_length n K) m)).answer ≡ none
    → (ls : List (List ℕ)) → AllStay ls (play_board laid m n K)
    → Terminates n (board_of (play_board laid m n K)) (lines_calls ls (play_board laid m n K))

-- What users read of it: a fresh board leaves room, and a single station on it decides its own figure on island 0.
pub record Single (n K : ℕ) (b : List ℕ) : Type 0 where
  pub room : RoomAbove b
  pub decides : (i : ℕ) → 1 ≤ i → i ≤ n → (v : Figure) → SFits w32 v → (steps : ℕ) → 3 * (n + 1) ≤ steps
      → (until steps i (propose i v b).bytes).answer.did ≡ decided 0 v

unfoldable pub OnFresh : Type 0
OnFresh = (n K : ℕ) (lent : List ℕ) → (lay n K lent).answer ≡ none → Single n K (lay n K lent).bytes
