-- No written line has an LF, and so a tape of such lines, each with an LF behind it, is read back as its lines.
-- Relies on the texts of lines and numbers; that the algorithm's own tape keeps to the algorithm relies on it.
use Rattle.model.proofs.Kit.{◌≡◌, refl, ap, ◌∙◌, Bool, true, cond, ◌&&◌, not, List, [], ◌∷◌, ◌++◌, map, ℕ, zero, suc}
use Rattle.model.proofs.Kit.{◌+◌, ◌/◌, ◌%◌, ne_eqb, eqb, ltb, pos, negsuc, arith}
use Rattle.model.specs.Bytes.{on_first, ended_by}
use Rattle.model.specs.Show.{text, text_from, decimal_in, decimal, signed}
use Rattle.model.specs.Figure.{Figure}
use Rattle.model.specs.Listing.{Answer, wrote, read, went, marked, adopted, decided, spent, refused}
use Rattle.model.specs.Sheet.{lines_of}
use Rattle.model.specs.Tape.{Entry, end_text, kind_text, entry_text, sheet_tape, own_lines, tape_text}
use Rattle.model.proofs.Basics.Tests.{true-T, T_false, cond_case, both_true}
use Rattle.tape_laws.specs.TapeLines.{OwnWritten}

-- no byte is an LF
unfoldable unbroken : List ℕ → Bool
unbroken [] = true
unbroken (b ∷ l) = not (eqb b 10) && unbroken l

Unbroken : List ℕ → Type 0
Unbroken l = unbroken l ≡ true

-- ---- texts

joined : (k l : List ℕ) → Unbroken k → Unbroken l → Unbroken (k ++ l)
unfolding Unbroken unbroken
joined [] l h g = g
joined (b ∷ k) l h g =
    let two = both_true (not (eqb b 10)) (unbroken k) h in rw (two.0, joined k l two.1 g)

digits_unbroken : (fuel x : ℕ) → Unbroken (decimal_in fuel x)
unfolding Unbroken unbroken decimal_in
digits_unbroken zero x = refl
digits_unbroken (suc fuel) x =
    joined (cond (ltb x 10) [] (decimal_in fuel (x / 10))) ((48 + x % 10) ∷ [])
    (cond_case Unbroken (ltb x 10) [] (decimal_in fuel (x / 10)) (λ e. refl) (λ e. digits_unbroken fuel (x / 10)))
    (rw (ne_eqb (48 + x % 10) 10 (λ e. omega arith)))

decimal_unbroken : (x : ℕ) → Unbroken (decimal x)
unfolding decimal
decimal_unbroken x = digits_unbroken 10 x

signed_unbroken : (v : Figure) → Unbroken (signed v)
unfolding signed Unbroken unbroken text text_from
signed_unbroken (pos k) = decimal_unbroken k
signed_unbroken (negsuc k) = decimal_unbroken (suc k)

-- the fields of an answer that ends a collect, behind its word
fields_unbroken : (c : ℕ) (x : Figure) (k : ℕ)
    → Unbroken (text " " ++ (decimal c ++ (text " " ++ (signed x ++ (text " " ++ (decimal k ++ text ")"))))))
unfolding Unbroken unbroken text text_from
fields_unbroken c x k =
    joined (decimal c) _ (decimal_unbroken c) (joined (signed x) _ (signed_unbroken x)
    (joined (decimal k) _ (decimal_unbroken k) refl))

kind_unbroken : (a : Answer Figure) (k : ℕ) → Unbroken (kind_text a k)
unfolding Unbroken unbroken kind_text end_text text text_from
kind_unbroken wrote k = refl
kind_unbroken read k = joined (decimal k) _ (decimal_unbroken k) refl
kind_unbroken (went c x) k = fields_unbroken c x k
kind_unbroken (marked f x) k = fields_unbroken f x k
kind_unbroken (adopted c x) k = fields_unbroken c x k
kind_unbroken (decided c x) k = fields_unbroken c x k
kind_unbroken (spent c x) k = fields_unbroken c x k
kind_unbroken (refused n) k = refl

entry_unbroken : (e : Entry) → Unbroken (entry_text e)
unfolding Unbroken unbroken entry_text text text_from
entry_unbroken e =
    joined (decimal e.station) _ (decimal_unbroken e.station) (kind_unbroken e.report.did e.report.met)

-- ---- lines

line_ends : (l rest : List ℕ) → Unbroken l → lines_of (l ++ (10 ∷ rest)) ≡ l ∷ lines_of rest
unfolding Unbroken unbroken ended_by on_first
line_ends [] rest h = refl
line_ends (b ∷ l) rest h =
    let two = both_true (not (eqb b 10)) (unbroken l) h in
    rw (T_false (eqb b 10) (true-T _ two.0), line_ends l rest two.1)

lines_back : (es : List Entry) → lines_of (tape_text (map entry_text es)) ≡ map entry_text es
unfolding tape_text ended_by
lines_back [] = refl
lines_back (e ∷ es) =
    line_ends (entry_text e) _ (entry_unbroken e) ∙ ap (λ (ls : List (List ℕ)). entry_text e ∷ ls) (lines_back es)

pub own_written_lem : OwnWritten
unfolding OwnWritten own_lines
own_written_lem s = lines_back (sheet_tape s)
