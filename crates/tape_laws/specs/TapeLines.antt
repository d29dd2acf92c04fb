-- The line of a tape as it is written and as it is read, and the algorithm's own tape.
-- Relies on the model's tape; LinesRead, LinesWritten, OwnTape and Unbroken of proofs/ prove the claims.
use Rattle.std.specs.Prelude.{true, List, ℕ, ◌≤◌, ◌≡◌}
use Rattle.std.proofs.Math.Option.{some}
use Rattle.std.specs.Int.{w32}
use Rattle.std.proofs.Common.{SFits}
use Rattle.model.specs.Figure.{Figure}
use Rattle.model.specs.Listing.{Answer, wrote, read, went, marked, adopted, decided, spent, refused}
use Rattle.model.specs.Sheet.{lines_of}
use Rattle.model.specs.Tape.{Entry, entry_text, entry_in, own_lines, tape_text, taped}

-- the fields of an answer that ends a collect: a number in its range, a figure, and "totals 0 to 99"
unfoldable pub EndInRange : (low high : ℕ) → (c : ℕ) → Figure → (total : ℕ) → Type 0
EndInRange low high c x k = (low ≤ c) × (c ≤ high) × SFits w32 x × (k ≤ 99)

-- "*wrote* has no field, *read* has 1 for a filled register and 0 for an empty one", "the flag as 1 or 2"; "refused
-- steps leave no line"
unfoldable pub AnswerInRange : Answer Figure → (met : ℕ) → Type 0
AnswerInRange wrote k = k ≡ 0
AnswerInRange read k = k ≤ 1
AnswerInRange (went c x) k = EndInRange 0 99 c x k
AnswerInRange (marked f x) k = EndInRange 1 2 f x k
AnswerInRange (adopted c x) k = EndInRange 0 99 c x k
AnswerInRange (decided c x) k = EndInRange 0 99 c x k
AnswerInRange (spent c x) k = EndInRange 0 99 c x k
AnswerInRange (refused number) k = ⊥

unfoldable pub InRange : Entry → Type 0
InRange e = (e.station ≤ 99) × AnswerInRange e.report.did e.report.met

-- The reader finds in the line of a step that step ..
unfoldable pub ReadsWritten : Type 0
ReadsWritten = (e : Entry) → InRange e → entry_in (entry_text e) ≡ some e

-- .. and takes nothing for a step but the line that is written for it, in its ranges.
unfoldable pub WrittenReads : Type 0
WrittenReads = (l : List ℕ) (e : Entry) → entry_in l ≡ some e → (l ≡ entry_text e) × InRange e

-- So to compare the bytes of two step answers is to compare their values.
unfoldable pub SameValues : Type 0
SameValues =
    (k l : List ℕ) (d e : Entry) → entry_in k ≡ some d → entry_in l ≡ some e → (k ≡ l → d ≡ e) × (d ≡ e → k ≡ l)

-- Every line of the algorithm's own tape is a step answer, whatever the sheet.
unfoldable pub OwnTaped : Type 0
OwnTaped = (s : List ℕ) → taped (own_lines s) ≡ true

-- The algorithm's own tape, so written, has the algorithm's own lines.
unfoldable pub OwnWritten : Type 0
OwnWritten = (s : List ℕ) → lines_of (tape_text (own_lines s)) ≡ own_lines s
