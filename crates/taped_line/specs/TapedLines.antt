-- The tape of one line of a sheet, put into a lent buffer: its entries one after another, as far as lines are wanted.
-- Relies on the model's tape of single calls and on a tape as it is written; the contracts of the crate rely on it, and
-- so do those of the algorithm's own line and of the tape of a sheet.
use Rattle.std.specs.Prelude.{◌≡◌, cond, List, [], ◌∷◌, ℕ, ◌+◌, ◌*◌, ◌≤◌, ◌<◌, eqb, length, take}
use Rattle.std.specs.declared.result.Result.{Result}
use Rattle.model.specs.declared.refusal.Refusal.{Refusal}
use Rattle.model.specs.Forms.{word_place, read_line}
use Rattle.model.specs.Sheet.{play_line}
use Rattle.model.specs.AnyList.{Call, after}
use Rattle.model.specs.SheetList.{calls_of}
use Rattle.model.specs.Tape.{Entry, tape_of}
use Rattle.line_run.specs.LineRuns.{LineCounts}
use Rattle.sheet.specs.declared.form.LineForm.{LineForm}
use Rattle.sheet.specs.LineForms.{told, line_form}
use Rattle.taping.specs.declared.Taped.{Taped}
use Rattle.taping.specs.Taping.{Taping, line_taken, slot, taping}
use Rattle.taped_line.specs.declared.TapedLine.{TapedLine}

-- the tape's next line, where one more is wanted; the board plays no part here
unfoldable pub entry_taped : Entry → Taping → Taping
entry_taped e s = cond (eqb s.room 0) s (line_taken e s.board s)

unfoldable pub entries_taped : List Entry → Taping → Taping
entries_taped [] s = s
entries_taped (e ∷ es) s = entries_taped es (entry_taped e s)

-- the buffer with the code's numbers
abbrev pub window : (out : List ℕ) → Taped → Taping
window out t = taping [] out t

-- what is asked: room in the buffer for all the lines that are wanted
unfoldable pub Room : (out : List ℕ) → Taped → Type 0
Room out t = t.len + slot * t.room ≤ length out

-- f is what the code reads the line as
abbrev pub IsRead : Result LineForm Refusal → (line : List ℕ) → Type 0
IsRead f line = told f ≡ line_form (word_place line) (read_line line)

-- Single calls on the board b were taped: their entries, and the board that they leave, as long as more lines are
-- wanted.
pub record CallsTaped (cs : List Call) (b out : List ℕ) (t r : Taped) (d o : List ℕ) : Type 0 where
  pub taped : window o r ≡ entries_taped (tape_of cs b) (window out t)
  pub board : 1 ≤ r.room → d ≡ after cs b

-- those of a line, whatever form it was read as
unfoldable pub LineCallsTaped : (line b out : List ℕ) (t r : Taped) (d o : List ℕ) → Type 0
LineCallsTaped line b out t r d o = CallsTaped (calls_of b (read_line line)) b out t r d o

-- and none of them is put in: any buffer stays as it is
unfoldable pub LinePassed : (line b : List ℕ) (t r : Taped) (d : List ℕ) → Type 0
LinePassed line b t r d = (out : List ℕ) → LineCallsTaped line b out t r d out

-- A line that was read as `steps` with its items from `at` on, none of whose steps is wanted: they are few enough to
-- run, and no more than there are lines to pass over before the next one that is wanted.
pub record Passable (line : List ℕ) (at : ℕ) (t : Taped) : Type 0 where
  pub count : ℕ
  pub counts : LineCounts line at count
  pub few : count ≤ 65536
  pub below : count ≤ t.left
  pub wanted : 0 < t.room

-- what a line adds to the tape, where so many bytes of the memory are the board that was laid last
unfoldable pub line_tape : (laid : ℕ) (m line : List ℕ) → List Entry
line_tape laid m l = tape_of (calls_of (take laid m) (read_line l)) (take laid m)

-- A line on a memory was taped, and played as long as more lines are wanted.
pub record LineTaped (line : List ℕ) (laid : ℕ) (m out : List ℕ) (t : Taped) (r : TapedLine) (d o : List ℕ)
    : Type 0 where
  pub taped : window o r.taped ≡ entries_taped (line_tape laid m line) (window out t)
  pub board : 1 ≤ r.taped.room → r.laid ≡ (play_line laid m line).laid
  pub memory : 1 ≤ r.taped.room → d ≡ (play_line laid m line).memory
