-- A tape as it is written: the steps of stations one after another on a sound board, lines passed over first, and then
-- lines put into a lent buffer as long as some are wanted.
-- Relies on the model's tape line and on a step of a sound board; the contracts of one step taped, of items and of
-- rounds rely on it.
use Rattle.std.specs.Prelude.{◌≡◌, cond, List, [], ◌∷◌, ◌++◌, ℕ, ◌+◌, ◌-◌, ◌*◌, ◌≤◌, eqb, length}
use Rattle.std.proofs.Math.Option.{none}
use Rattle.model.specs.Bytes.{splice}
use Rattle.model.specs.Figure.{Figure}
use Rattle.model.specs.Filled.{Report}
use Rattle.model.specs.Listing.{accepted}
use Rattle.model.specs.Calls.{After, board_refusal, step_on}
use Rattle.model.specs.Tape.{Entry, entry_text}
use Rattle.taping.specs.declared.Taped.{Taped}

-- The board and the buffer with what is still to do: lines to pass over, lines to put in, and the bytes put in so far.
pub record Taping : Type 0 where
  pub board : List ℕ
  pub out : List ℕ
  pub left : ℕ
  pub room : ℕ
  pub len : ℕ

-- the text of a line with its LF
unfoldable pub tape_line : Entry → List ℕ
tape_line e = entry_text e ++ (10 ∷ [])

-- the line of a step of station number i
abbrev pub step_line : ℕ → List ℕ → List ℕ
step_line i b = tape_line (record { station = i; report = (step_on i b).answer })

-- a step was taken that is the tape's next line, and left the board d
unfoldable pub line_taken : Entry → (d : List ℕ) → Taping → Taping
line_taken e d s =
    cond (eqb s.left 0)
    (record {
      board = d;
      out = splice s.len (tape_line e) s.out;
      left = 0;
      room = s.room - 1;
      len = s.len + length (tape_line e);
    })
    (record { board = d; out = s.out; left = s.left - 1; room = s.room; len = s.len })

-- One single step of station number i: where no more lines are wanted, and where it is refused, nothing happens.
unfoldable pub taped_one : ℕ → Taping → Taping
taped_one i s = cond (eqb s.room 0) s (stepped (step_on i s.board))
  where
    stepped : After (Report Figure) → Taping
    stepped r =
        cond (accepted r.answer.did) (line_taken (record { station = i; report = r.answer }) r.bytes s) s

-- and the single steps of stations one after another
unfoldable pub taped_steps : List ℕ → Taping → Taping
taped_steps [] s = s
taped_steps (i ∷ is) s = taped_steps is (taped_one i s)

-- the bytes that any line has room in, with its LF
unfoldable pub slot : ℕ
slot = 56

-- What is asked: a sound board, and room in the buffer for all the lines that are wanted.
pub record Ready (s : Taping) : Type 0 where
  pub sound : board_refusal s.board none ≡ none
  pub fits : s.len + slot * s.room ≤ length s.out

-- lent bytes with the code's numbers
abbrev pub taping : (board out : List ℕ) → Taped → Taping
taping b out t = record { board = b; out = out; left = t.left; room = t.room; len = t.len }
