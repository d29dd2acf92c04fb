-- How long the line of a tape can be, whatever its numbers are: a decimal number has at most ten digits.
-- Relies on the model's tape line and on the lengths of numbers; the writer of a tape line and its callers rely on it.
use Rattle.model.proofs.Kit.{[], ◌∷◌, ◌++◌, ℕ, ◌≤◌, length, length-append, arith}
use Prim.Native.String.{String}
use Rattle.model.specs.Figure.{Figure}
use Rattle.model.specs.Listing.{Answer, wrote, read, went, marked, adopted, decided, spent, refused}
use Rattle.model.specs.Show.{text, text_from}
use Rattle.model.specs.Tape.{Entry, end_text, kind_text, entry_text}
use Rattle.line_writer.proofs.Decimals.{length_signed}
use Rattle.line_writer.proofs.Decimals.{length_any}

end_short : (word : String) (c : ℕ) (x : Figure) (k : ℕ) → length (text word) ≤ 7 → length (end_text word c x k) ≤ 42
unfolding end_text text text_from
end_short word c x k h = simp length-append (omega (arith, h, length_any c, length_signed x, length_any k))

pub kind_short : (a : Answer Figure) (k : ℕ) → length (kind_text a k) ≤ 42
unfolding kind_text text text_from
kind_short wrote k = omega arith
kind_short read k = simp length-append (omega (arith, length_any k))
kind_short (went c x) k = end_short "went" c x k (omega arith)
kind_short (marked f x) k = end_short "marked" f x k (omega arith)
kind_short (adopted c x) k = end_short "adopted" c x k (omega arith)
kind_short (decided c x) k = end_short "decided" c x k (omega arith)
kind_short (spent c x) k = end_short "spent" c x k (omega arith)
kind_short (refused number) k = omega arith

entry_short : (e : Entry) → length (entry_text e) ≤ 54
unfolding entry_text text text_from
entry_short e =
    simp length-append
    (omega (arith, length_any e.station, kind_short e.report.did e.report.met))

-- and with its LF
pub line_short : (e : Entry) → length (entry_text e ++ (10 ∷ [])) ≤ 55
line_short e = omega (arith, entry_short e, length-append (entry_text e) (10 ∷ []))

-- and of its pieces
pub ruleset lengths = (length-append, length_any, kind_short)
