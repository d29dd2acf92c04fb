-- Tapes that keep to the algorithm: no line of theirs is refused, and where one of two does, the other is named.
-- Relies on Compared and on the algorithm's own tape; it proves these claims of specs/TwoTapes.antt.
use Rattle.model.proofs.Kit.{◌≡◌, refl, sym, ap, ◌∙◌, true, false, List, [], ◌∷◌, some, ℕ, zero, suc}
use Rattle.model.specs.Forms.{same}
use Rattle.model.specs.Sheet.{lines_of}
use Rattle.model.specs.Tape.{line_at, own_lines, is_entry, taped, culprit}
use Rattle.model.proofs.Basics.Tests.{true-T, by_test, never, both_true}
use Rattle.model.proofs.Sheet.SameTexts.{same_text, same_self}
use Rattle.tape_laws.specs.TapeLines.{OwnTaped, OwnWritten}
use Rattle.tape_laws.specs.TwoTapes.{NeverDiffer, Own, WrittenOwn, NoCulprit, OwnAlike, FirstIsOwn, SecondIsOwn}
use Rattle.tape_laws.proofs.OwnTape.{own_taped}
use Rattle.tape_laws.proofs.Unbroken.{own_written_lem}
use Rattle.tape_laws.proofs.Compared.{one_line, told, alike_where}

-- ---- lines that are step answers

pub line_taped : (ls : List (List ℕ)) → taped ls ≡ true → (k : ℕ) (l : List ℕ) → line_at k ls ≡ some l → is_entry l ≡ true
unfolding taped line_at
line_taped [] t k l e = never _ e
line_taped (x ∷ ls) t zero l e = never _ e
line_taped (x ∷ ls) t (suc zero) l e = ap is_entry (sym (one_line e)) ∙ (both_true (is_entry x) (taped ls) t).0
line_taped (x ∷ ls) t (suc (suc k)) l e = line_taped ls (both_true (is_entry x) (taped ls) t).1 (suc k) l e

all_taped : (ls : List (List ℕ)) → ((k : ℕ) (l : List ℕ) → line_at (suc k) ls ≡ some l → is_entry l ≡ true)
    → taped ls ≡ true
unfolding taped line_at
all_taped [] h = refl
all_taped (x ∷ ls) h = rw (h 0 x refl, all_taped ls (λ k l e. h (suc k) l e))

own_lines_taped : (s t : List ℕ) → Own s t → taped (lines_of t) ≡ true
unfolding Own OwnTaped
own_lines_taped s t h = all_taped (lines_of t) (λ k l e. line_taped (own_lines s) (own_taped s) (suc k) l (h (suc k) l e))

pub written_own : WrittenOwn
unfolding WrittenOwn Own OwnWritten
written_own s k l e = rw (own_written_lem s) at e

-- ---- both

both_never : (s a b : List ℕ) → Own s a → Own s b → NeverDiffer a b
unfolding Own NeverDiffer
both_never s a b h g k l m p q = one_line (sym (h k l p) ∙ g k m q)

pub no_culprit : NoCulprit
unfolding NoCulprit NeverDiffer
no_culprit s a b h g k t e =
    let d = (told s a b k t e).differs_first in
    d.differ (both_never s a b h g k d.line d.other d.in_first d.in_second)

pub own_alike : OwnAlike
unfolding OwnAlike
own_alike s a b short h g =
    alike_where s a b short (own_lines_taped s a h) (own_lines_taped s b g) (both_never s a b h g)

-- ---- one

pub first_is_own : FirstIsOwn
unfolding FirstIsOwn Own culprit
first_is_own s a b h k t e =
    let c = told s a b k t e in
    let d = c.differs_first in
    c.by ∙ rw (h k d.line d.in_first, d.in_first, same_self d.line)

pub second_is_own : SecondIsOwn
unfolding SecondIsOwn Own culprit
second_is_own s a b h k t e =
    let c = told s a b k t e in
    let d = c.differs_first in
    let unlike : same d.line d.other ≡ false =
    by_test (same d.line d.other) (λ x. absurd (d.differ (same_text _ _ (true-T _ x)))) (λ x. x) in
    c.by ∙ rw (h k d.other d.in_second, d.in_first, unlike)
