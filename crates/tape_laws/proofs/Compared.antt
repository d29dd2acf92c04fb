-- Two tapes compared line by line: the difference that is found is the first, and none is found where there is none.
-- Relies on the model's tape and on the test of two texts; Culprits and Parts rely on it.
use Rattle.model.proofs.Kit.{◌≡◌, refl, sym, ap, subst, ◌∙◌, true, false, ◌&&◌, List, [], ◌∷◌, none, some, Option, ℕ}
use Rattle.model.proofs.Kit.{zero, suc, ◌+◌, ◌≤◌, ◌<◌, le-leb, leb-true, leb, length, arith}
use Rattle.model.specs.Forms.{same}
use Rattle.model.specs.Sheet.{lines_of}
use Rattle.model.specs.Tape.{line_at, differ_from, own_lines, taped, Tap, culprit, Compared, not_compared, alike, differs}
use Rattle.model.specs.Tape.{compare}
use Rattle.model.proofs.Basics.Tests.{true-T, by_test, clash, impossible, never, both_true}
use Rattle.model.proofs.Sheet.SameTexts.{same_text, same_self}
use Rattle.tape_laws.specs.TwoTapes.{NeverDiffer, FirstDifference, DiffersFirst, AlikeIsNever, AlikeItself}

-- ---- lists of lines

pub one_line : {l m : List ℕ} → some l ≡ some m → l ≡ m
one_line e = cc

abbrev Agree : (ls ms : List (List ℕ)) → Type 0
Agree ls ms = (k : ℕ) (l m : List ℕ) → line_at k ls ≡ some l → line_at k ms ≡ some m → l ≡ m

-- where the lines in front are the same, the lines behind them may differ
differ_next : (n : ℕ) (l m : List ℕ) (ls ms : List (List ℕ)) → same l m ≡ true
    → differ_from n (l ∷ ls) (m ∷ ms) ≡ differ_from (suc n) ls ms
unfolding differ_from
differ_next n l m ls ms e = rw e

differ_here : (n : ℕ) (l m : List ℕ) (ls ms : List (List ℕ)) → same l m ≡ false
    → differ_from n (l ∷ ls) (m ∷ ms) ≡ some (suc n)
unfolding differ_from
differ_here n l m ls ms e = rw e

agree_next : (l m : List ℕ) (ls ms : List (List ℕ)) → l ≡ m → Agree ls ms → Agree (l ∷ ls) (m ∷ ms)
unfolding line_at
agree_next l m ls ms e h zero x y p q = never _ p
agree_next l m ls ms e h (suc zero) x y p q = sym (one_line p) ∙ e ∙ one_line q
agree_next l m ls ms e h (suc (suc k)) x y p q = h (suc k) x y p q

none_agree : (n : ℕ) (ls ms : List (List ℕ)) → differ_from n ls ms ≡ none → Agree ls ms
unfolding line_at
none_agree n [] ms e = λ k l m p q. never _ p
none_agree n (x ∷ ls) [] e = λ k l m p q. never _ q
none_agree n (x ∷ ls) (y ∷ ms) e =
    by_test (same x y)
    (λ t. agree_next x y ls ms (same_text x y (true-T _ t))
    (none_agree (suc n) ls ms (sym (differ_next n x y ls ms t) ∙ e)))
    (λ t. impossible (let z = sym (differ_here n x y ls ms t) ∙ e in cc))

pub no_zeroth : (ls : List (List ℕ)) → line_at zero ls ≡ none
unfolding line_at
no_zeroth [] = refl
no_zeroth (l ∷ ls) = refl

agree_later : (x y : List ℕ) (ls ms : List (List ℕ)) → Agree (x ∷ ls) (y ∷ ms) → Agree ls ms
unfolding line_at
agree_later x y ls ms h zero l m p q = never _ (sym (no_zeroth ls) ∙ p)
agree_later x y ls ms h (suc k) l m p q = h (suc (suc k)) l m p q

agree_none : (n : ℕ) (ls ms : List (List ℕ)) → Agree ls ms → differ_from n ls ms ≡ none
unfolding differ_from line_at
agree_none n [] ms h = refl
agree_none n (x ∷ ls) [] h = refl
agree_none n (x ∷ ls) (y ∷ ms) h =
    rw (ap (same x) (sym (h 1 x y refl refl)) ∙ same_self x)
    (agree_none (suc n) ls ms (agree_later x y ls ms h))

differ_at_once : (x y : List ℕ) (ls ms : List (List ℕ)) → same x y ≡ false → FirstDifference (x ∷ ls) (y ∷ ms) 1
unfolding line_at
differ_at_once x y ls ms t = record {
  line = x;
  other = y;
  in_first = refl;
  in_second = refl;
  differ = λ e. clash (sym (same_self x) ∙ ap (same x) e ∙ t);
  before = none_before;
}
  where
    none_before : (j : ℕ) → j < 1 → (l m : List ℕ) → line_at j (x ∷ ls) ≡ some l → line_at j (y ∷ ms) ≡ some m → l ≡ m
    none_before zero h l m p q = never _ p
    none_before (suc j) h l m p q = absurd (omega arith)

differ_later : (x y : List ℕ) (ls ms : List (List ℕ)) → x ≡ y → (j : ℕ) → FirstDifference ls ms (suc j)
    → FirstDifference (x ∷ ls) (y ∷ ms) (suc (suc j))
unfolding line_at
differ_later x y ls ms e j d = record {
  line = d.line;
  other = d.other;
  in_first = d.in_first;
  in_second = d.in_second;
  differ = d.differ;
  before = earlier;
}
  where
    earlier : (k : ℕ) → k < suc (suc j) → (l m : List ℕ) → line_at k (x ∷ ls) ≡ some l → line_at k (y ∷ ms) ≡ some m
        → l ≡ m
    earlier zero h l m p q = never _ p
    earlier (suc zero) h l m p q = sym (one_line p) ∙ e ∙ one_line q
    earlier (suc (suc k)) h l m p q = d.before (suc k) (omega arith) l m p q

-- n lines were alike before these
difference : (n : ℕ) (ls ms : List (List ℕ)) (k : ℕ) → differ_from n ls ms ≡ some k
    → (j : ℕ) × (k ≡ n + suc j) × FirstDifference ls ms (suc j)
unfolding differ_from
difference n [] ms k e = impossible (cc)
difference n (x ∷ ls) [] k e = impossible (cc)
difference n (x ∷ ls) (y ∷ ms) k e =
    by_test (same x y)
    (λ t. let d = difference (suc n) ls ms k (sym (differ_next n x y ls ms t) ∙ e) in
    (suc d.0, omega (arith, d.1), differ_later x y ls ms (same_text x y (true-T _ t)) d.0 d.2))
    (λ t. let z : suc n ≡ k = number_is (sym (differ_here n x y ls ms t) ∙ e) in
    (0, omega arith, differ_at_once x y ls ms t))
  where
    number_is : {i j : ℕ} → some i ≡ some j → i ≡ j
    number_is h = cc

-- ---- the comparison

-- what is answered where nothing is refused
unfoldable pub verdict : (s a : List ℕ) → Option ℕ → Compared
verdict s a none = alike
verdict s a (some k) = differs k (culprit (line_at k (own_lines s)) (line_at k (lines_of a)))

module _ (s a b : List ℕ) where
  pub compared : length s ≤ 32768 → taped (lines_of a) ≡ true → taped (lines_of b) ≡ true
      → (o : Option ℕ) → differ_from 0 (lines_of a) (lines_of b) ≡ o → compare s a b ≡ verdict s a o
  unfolding compare verdict
  compared h p q none e = rw (le-leb (length s) 32768 h, p, q, e)
  compared h p q (some k) e = rw (le-leb (length s) 32768 h, p, q, e)

  too_long : leb (length s) 32768 ≡ false → compare s a b ≡ not_compared 1
  unfolding compare
  too_long h = rw h

  not_taped : leb (length s) 32768 ≡ true → taped (lines_of a) && taped (lines_of b) ≡ false
      → compare s a b ≡ not_compared 21
  unfolding compare
  not_taped h t = rw (h, t)

  -- a comparison is refused, or it answers by the first difference
  pub compare_case : (P : Compared → Type 0) → ((number : ℕ) → compare s a b ≡ not_compared number → P (compare s a b))
      → (length s ≤ 32768 → taped (lines_of a) ≡ true → taped (lines_of b) ≡ true
      → P (verdict s a (differ_from 0 (lines_of a) (lines_of b))))
      → P (compare s a b)
  compare_case P f g =
      by_test (leb (length s) 32768)
      (λ h. by_test (taped (lines_of a) && taped (lines_of b))
      (λ t. let both = both_true _ _ t in
      let short = leb-true (length s) 32768 h in
      subst P (sym (compared short both.0 both.1 _ refl)) (g short both.0 both.1))
      (λ t. f 21 (not_taped h t)))
      (λ h. f 1 (too_long h))

-- what a difference that was told says of the tapes
pub record Told (s a b : List ℕ) (k : ℕ) (t : Tap) : Type 0 where
  pub first_taped : taped (lines_of a) ≡ true
  pub second_taped : taped (lines_of b) ≡ true
  pub differs_first : FirstDifference (lines_of a) (lines_of b) k
  pub by : t ≡ culprit (line_at k (own_lines s)) (line_at k (lines_of a))

pub told : (s a b : List ℕ) (k : ℕ) (t : Tap) → compare s a b ≡ differs k t → Told s a b k t
unfolding verdict
told s a b k t =
    compare_case s a b (λ c. c ≡ differs k t → Told s a b k t)
    (λ n e q. impossible (let z : not_compared n ≡ differs k t = sym e ∙ q in cc))
    (λ h p q. go p q (differ_from 0 (lines_of a) (lines_of b)) refl)
  where
    go : taped (lines_of a) ≡ true → taped (lines_of b) ≡ true → (o : Option ℕ)
        → differ_from 0 (lines_of a) (lines_of b) ≡ o → verdict s a o ≡ differs k t → Told s a b k t
    go p q none e v = impossible (cc)
    go p q (some j) e v =
        let d = difference 0 (lines_of a) (lines_of b) j e in
        let number : j ≡ k = cc in
        let at : suc d.0 ≡ k = omega (arith, d.1) in
        record {
          first_taped = p;
          second_taped = q;
          differs_first = subst (FirstDifference (lines_of a) (lines_of b)) at d.2;
          by = subst (λ (i : ℕ). t ≡ culprit (line_at i (own_lines s)) (line_at i (lines_of a))) number (cc);
        }

pub differs_first : DiffersFirst
unfolding DiffersFirst
differs_first s a b k t e = (told s a b k t e).differs_first

pub alike_is_never : AlikeIsNever
unfolding AlikeIsNever NeverDiffer verdict
alike_is_never s a b = record {
  says =
      compare_case s a b (λ c. c ≡ alike → Agree (lines_of a) (lines_of b))
      (λ n e q. impossible (let z : not_compared n ≡ alike = sym e ∙ q in cc)) (λ h p q. found (differ_from 0 _ _) refl);
  said = λ accepted agree.
      compare_case s a b (λ c. c ≡ alike) (λ n e. absurd (accepted n e))
      (λ h p q. ap (verdict s a) (agree_none 0 (lines_of a) (lines_of b) agree));
}
  where
    found : (o : Option ℕ) → differ_from 0 (lines_of a) (lines_of b) ≡ o → verdict s a o ≡ alike
        → Agree (lines_of a) (lines_of b)
    found none e v = none_agree 0 (lines_of a) (lines_of b) e
    found (some k) e v = impossible (cc)

-- the two tapes are not refused, and never differ
pub alike_where : (s a b : List ℕ) → length s ≤ 32768 → taped (lines_of a) ≡ true → taped (lines_of b) ≡ true
    → NeverDiffer a b → compare s a b ≡ alike
unfolding NeverDiffer verdict
alike_where s a b h p q agree = compared s a b h p q none (agree_none 0 (lines_of a) (lines_of b) agree)

pub alike_itself : AlikeItself
unfolding AlikeItself NeverDiffer
alike_itself s a h p = alike_where s a a h p p (λ k l m x y. one_line (sym x ∙ y))
