-- What the inner functions of a step promise, for a record f that stands for a going station.
-- Relies on the model's calls and on the place of a station; the contracts of the step's inner functions rely on it.
use Rattle.std.specs.Prelude.{◌≡◌, List, ℕ, ◌+◌, ◌≤◌, ◌<◌, length, get_or}
use Rattle.std.proofs.Math.Option.{none}
use Rattle.model.specs.declared.Record.{Record}
use Rattle.model.specs.declared.StepAnswer.{StepAnswer}
use Rattle.model.specs.Bytes.{part}
use Rattle.model.specs.Figure.{Figure, figures}
use Rattle.model.specs.Listing.{Register, Stage, active, place_array, place_column, Move, move}
use Rattle.model.specs.Filled.{filled_in, met_with, met_kept_at, report}
use Rattle.model.specs.Layout.{board_length, register_at, record_at, lay_record, record_fields, record_value, register_of}
use Rattle.model.specs.Sound.{most_met}
use Rattle.model.specs.Calls.{put_record, put_register, board_refusal, step_on}
use Rattle.model.specs.Told.{told}
use Rattle.codec.specs.Parts.{meeting, met_read}
use Rattle.soundness.specs.Placed.{On}

-- the offset r of the one register that station index j touches next
unfoldable pub Touches : (n j : ℕ) (f : Record) (r : ℕ) → Type 0
Touches n j f r =
    (s : Stage Figure) → record_value f ≡ active f.proposal s → r ≡ register_at n (place_array s) (place_column j s)

-- the one register that station index j, at stage s, touches on the board b, and the listing's move over it
abbrev pub register_on : (n j : ℕ) → Stage Figure → List ℕ → Register Figure
register_on n j s b = register_of n (place_array s) (place_column j s) b

abbrev pub move_on : (n K j : ℕ) → Stage Figure → List ℕ → Move Figure
move_on n K j s b = move figures n K s (register_on n j s b)

-- the filled registers that its collect has met with that access, where the record at `at` counts those before, and the
-- record that the move leaves of f, in which the steps are as they were
abbrev pub total_on : (n j at : ℕ) → Stage Figure → List ℕ → ℕ
total_on n j at s b = met_with s (register_on n j s b) (met_read at b)

abbrev pub record_on : (n K j at : ℕ) → Record → Stage Figure → List ℕ → Record
record_on n K j at f s b =
    let m = move_on n K j s b in
    record_fields (active f.proposal m.stage) (meeting (met_kept_at m.stage (total_on n j at s b)) f)

-- the answer r and the bytes d that this move gives: its register, and its record
unfoldable pub Accesses : (n K j at : ℕ) (f : Record) (b : List ℕ) (r : StepAnswer) (d : List ℕ) → Type 0
Accesses n K j at f b r d =
    (s : Stage Figure) → record_value f ≡ active f.proposal s → let m = move_on n K j s b in
    (told r ≡ report m.answer (filled_in (register_on n j s b)) (total_on n j at s b))
    × (d ≡ put_record n K j (record_on n K j at f s b) (put_register n (place_array s) j m.written b))

-- the size of a board and a station index on it
pub record OnSize (n K j : ℕ) (b : List ℕ) : Type 0 where
  pub stations : n ≤ 16
  pub islands : K ≤ 64
  pub own : j < n
  pub len : length b ≡ board_length n K

-- the record f of station index j stands at the offset `at` of the board b, but for what it has met, which is no more
-- than it has read
pub record Stands (n K j at : ℕ) (f : Record) (b : List ℕ) : Type 0 where
  pub place : at ≡ record_at n K j
  pub laid : part at 24 b ≡ lay_record (meeting (met_read at b) f)
  pub met : met_read at b ≤ most_met (record_value f)

-- the station with index j has its record at `at`, on a sound board b whose head says n and K
pub record Known (n K j at : ℕ) (b : List ℕ) : Type 0 where
  pub sound : board_refusal b none ≡ none
  pub on : On (j + 1) b j at
  pub stations : n ≡ get_or b 0 0
  pub islands : K ≡ get_or b 1 0

-- a step's answer r and bytes d, as the model's step on a sound board gives them
unfoldable pub StepsOn : (i : ℕ) (b : List ℕ) (r : StepAnswer) (d : List ℕ) → Type 0
StepsOn i b r d = (told r ≡ (step_on i b).answer) × (d ≡ (step_on i b).bytes)
