-- The tape of a sheet in parts: what is written next from a line on, some lines of whose tape were written before.
-- Relies on the tape of a line; the contract of the next part relies on it, and proofs/Laws/Whole.antt proves
-- `TapeWritten`.
use Rattle.std.specs.Prelude.{◌≡◌, Bool, false, cond, List, [], ◌∷◌, ◌++◌, map, ℕ, zero, suc, ◌+◌, ◌≤◌, ◌<◌, ltb, length, take, drop, replicate}
use Rattle.model.specs.Layout.{board_length}
use Rattle.model.specs.Sheet.{play_line, lines_of}
use Rattle.model.specs.Tape.{Entry, entry_text, sheet_tape, tape_text}
use Rattle.std.specs.declared.result.Result.{Result}
use Rattle.model.specs.declared.refusal.Refusal.{Refusal}
use Rattle.sheet.specs.declared.form.LineForm.{LineForm}
use Rattle.taping.specs.declared.Taped.{Taped}
use Rattle.taped_line.specs.declared.TapedLine.{TapedLine}
use Rattle.taped_line.specs.TapedLines.{IsRead, line_tape, LineTaped}
use Rattle.taped_sheet.specs.declared.SheetPart.{SheetPart}

-- the lines of entries, each with its LF
abbrev pub text_of : List Entry → List ℕ
text_of es = tape_text (map entry_text es)

-- what is written; the place of the sheet to go on from, and how many lines of the tape of the line there are written
-- already; the board in force, and the memory
pub record Part : Type 0 where
  pub text : List ℕ
  pub next : ℕ
  pub done : ℕ
  pub laid : ℕ
  pub memory : List ℕ

module _ (rooms : ℕ) (s : List ℕ) (at done laid : ℕ) (m : List ℕ) where
  -- Of the line there, as many lines of its tape as there is room for are written. Where that may not be all of them,
  -- the line is gone over once more for those that are left.
  unfoldable pub line_parts : (line : List ℕ) → Part
  line_parts line = of (drop done (line_tape laid m line)) (play_line laid m line).laid (play_line laid m line).memory
    where
      of : List Entry → (laid' : ℕ) (m' : List ℕ) → Part
      of es laid' m' =
          cond (ltb (length es) rooms)
          (record { text = text_of es; next = at + length line + 1; done = 0; laid = laid'; memory = m' })
          (record { text = text_of (take rooms es); next = at; done = done + rooms; laid = laid; memory = m })

  unfoldable pub part_at : Part
  part_at = of (lines_of (drop at s))
    where
      of : List (List ℕ) → Part
      of [] = record { text = []; next = at; done = done; laid = laid; memory = m }
      of (l ∷ ls) = line_parts l

-- more steps than any line takes: 65,536 of `steps`, and fewer of rounds
unfoldable pub most_steps : ℕ
most_steps = 69632

-- The test t of a form: where it fails, the tape of a line that is read so has fewer lines than there is room for.
unfoldable pub MayFill : (rooms : ℕ) → Result LineForm Refusal → (t : Bool) → Type 0
MayFill rooms f t =
    t ≡ false → (line : List ℕ) (laid : ℕ) (m : List ℕ) → IsRead f line → length (line_tape laid m line) < rooms

-- the memory m stands in k, if the tape of a line that is read so fills the room that there is
unfoldable pub Kept : (rooms : ℕ) → Result LineForm Refusal → (m k : List ℕ) → Type 0
Kept rooms f m k = (line : List ℕ) (laid : ℕ) → IsRead f line → rooms ≤ length (line_tape laid m line) → k ≡ m

-- a line was taped, and left the memory as it was where its tape filled the buffer
pub record LineTried (line : List ℕ) (laid : ℕ) (m out : List ℕ) (t : Taped) (r : TapedLine) (d o : List ℕ)
    : Type 0 where
  pub taped : LineTaped line laid m out t r d o
  pub back : r.taped.room ≡ 0 → d ≡ m

-- the part is put at the front of the buffer o, and leaves the memory d
pub record PartIs (p : Part) (r : SheetPart) (d o : List ℕ) : Type 0 where
  pub text : take r.len o ≡ p.text
  pub len : r.len ≡ length p.text
  pub next : r.next ≡ p.next
  pub done : r.done ≡ p.done
  pub laid : r.laid ≡ p.laid
  pub memory : d ≡ p.memory
  -- no line takes more steps, so that the parts of its tape come to an end
  pub few : r.done ≤ most_steps

-- The program's loop: parts are written one after another, each from where the one before says to go on, up to the
-- sheet's end. The fuel bounds the parts.
unfoldable pub tape_all : (fuel rooms : ℕ) (s : List ℕ) (at done laid : ℕ) (m : List ℕ) → List ℕ
tape_all zero rooms s at done laid m = []
tape_all (suc k) rooms s at done laid m =
    cond (ltb at (length s))
    (with' (part_at rooms s at done laid m) (λ next done laid m. tape_all k rooms s next done laid m)) []
  where
    with' : Part → (ℕ → ℕ → ℕ → List ℕ → List ℕ) → List ℕ
    with' p rest = p.text ++ rest p.next p.done p.laid p.memory

-- Started at the sheet's first byte on a memory of zeros, it writes the tape of the sheet, whatever room there is for
-- some line: as many parts as the sheet has bytes and the tape lines, and one more, are enough.
unfoldable pub TapeWritten : Type 0
TapeWritten =
    (s : List ℕ) (rooms fuel : ℕ) → 1 ≤ rooms → length s + length (sheet_tape s) < fuel
    → tape_all fuel rooms s 0 0 0 (replicate (board_length 16 64) 0) ≡ text_of (sheet_tape s)
