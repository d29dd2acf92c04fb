-- What a sheet promises line by line: what the model plays from one place on, handed back by value.
-- Relies on the model's sheet; the contract of the next answer relies on it, and
-- proofs/Sheets.antt proves `SheetPrinted`.
use Rattle.std.specs.Prelude.{◌≡◌, cond, List, [], ◌∷◌, ◌++◌, ℕ, zero, suc, ◌+◌, ◌<◌, eqb, leb, ltb, length, drop, replicate}
use Rattle.model.specs.Layout.{board_length}
use Rattle.model.specs.Sheet as model
use Rattle.model.specs.Sheet.{refused_text}
use Rattle.answers.specs.declared.SheetAnswer.{SheetAnswer}

-- the line in front, without the LF that ends it
unfoldable pub line_in : List ℕ → List ℕ
line_in [] = []
line_in (b ∷ s) = cond (eqb b 10) [] (b ∷ line_in s)

-- what is printed, the board in force afterwards, the place of the sheet to go on from, and the memory afterwards
pub record Answered : Type 0 where
  pub printed : List ℕ
  pub laid : ℕ
  pub next : ℕ
  pub memory : List ℕ

module _ (sheet : List ℕ) (at laid : ℕ) (m : List ℕ) where
  unfoldable pub ended : Answered
  ended = record { printed = []; laid = laid; next = at; memory = m }

  -- "this alone is printed": the sheet goes on from its end
  unfoldable pub refused_whole : Answered
  refused_whole = record { printed = refused_text 1 ++ (10 ∷ []); laid = laid; next = length sheet; memory = m }

  unfoldable pub line_answered : (line : List ℕ) → Answered
  line_answered line = answered (model.play_line laid m line)
    where
      answered : model.Played → Answered
      answered p =
          record { printed = p.printed ++ (10 ∷ []); laid = p.laid; next = at + length line + 1; memory = p.memory }

  -- the answer to the line that starts at `at`
  unfoldable pub answer_at : Answered
  answer_at =
      cond (leb (length sheet) at) ended
      (cond (leb (length sheet) 32768) (line_answered (line_in (drop at sheet))) refused_whole)

pub record Answers (a : Answered) (r : SheetAnswer) (d : List ℕ) : Type 0 where
  pub line : r.line ≡ a.printed
  pub laid : r.laid ≡ a.laid
  pub next : r.next ≡ a.next
  pub memory : d ≡ a.memory

-- The program's loop: answers are printed one after another, each from where the one before says to go on, up to the
-- sheet's end. The fuel bounds the answers.
unfoldable pub play_all : (fuel : ℕ) (sheet : List ℕ) (at laid : ℕ) (m : List ℕ) → List ℕ
play_all zero s at laid m = []
play_all (suc k) s at laid m =
    cond (ltb at (length s))
    ((answer_at s at laid m).printed
    ++ play_all k s (answer_at s at laid m).next (answer_at s at laid m).laid (answer_at s at laid m).memory)
    []

-- Started at the sheet's first byte on a memory of zeros, it prints what the sheet prints: as many answers as the sheet
-- has bytes and one more are enough.
unfoldable pub SheetPrinted : Type 0
SheetPrinted =
    (s : List ℕ) (fuel : ℕ) → length s < fuel → play_all fuel s 0 0 (replicate (board_length 16 64) 0) ≡ model.play_sheet s
