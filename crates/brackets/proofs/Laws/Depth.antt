-- Brackets: the depth of the bytes passed.
-- Relies on the model's depth; the proof of `too_deep` relies on it.
use Rattle.model.proofs.Kit.{◌≡◌, refl, sym, ap, ◌∙◌, Bool, true, false, cond, ◌||◌, List, ℕ, suc, ◌+◌}
use Rattle.model.proofs.Kit.{◌≤◌, ◌<◌, lt-ltb, le-ltb, eq-eqb, ne_eqb, eqb, ltb, length, drop}
use Rattle.model.proofs.Kit.{drop_of_length-le, get_or, add-one, arith}
use lib.Seq.{drop-cons}
use Rattle.model.specs.Forms.{one, too_deep}

pub one_more : (asked b x y : ℕ) → b ≡ asked → y ≡ x + 1 → y ≡ x + one asked b
unfolding one
one_more asked b x y e q = q ∙ sym (ap (λ (t : Bool). x + cond t 1 0) (eq-eqb b asked e))

pub no_more : (asked b x y : ℕ) → (b ≡ asked → ⊥) → y ≡ x → y ≡ x + one asked b
unfolding one
no_more asked b x y n q =
    let z : x ≡ x + 0 = omega arith in
    q ∙ z ∙ sym (ap (λ (t : Bool). x + cond t 1 0) (ne_eqb b asked n))

one_small : (asked b : ℕ) → one asked b ≤ 1
unfolding one
one_small asked b = go (eqb b asked)
  where
    go : (t : Bool) → cond t 1 0 ≤ 1
    go true = omega arith
    go false = omega arith

-- o opening and c closing brackets stand in the first i bytes, and at none of those is the line too deep
pub record Passed (line : List ℕ) (o c i : ℕ) : Type 0 where
  pub inside : i ≤ length line
  pub opened : o ≤ i
  pub closed : c ≤ i
  pub rest : too_deep o c (drop i line) ≡ too_deep 0 0 line

pub nothing_passed : (line : List ℕ) → Passed line 0 0 0
nothing_passed line = record { inside = omega arith; opened = omega arith; closed = omega arith; rest = refl }

module _ (line : List ℕ) (o c i o' c' : ℕ) (p : Passed line o c i) (h : i < length line)
    (a : o' ≡ o + one 40 (get_or line i 0))
    (b : c' ≡ c + one 41 (get_or line i 0)) where
  still_opened : o' ≤ i + 1
  still_opened = omega (arith, one_small 40 (get_or line i 0), p.opened)

  pub still_closed : c' ≤ i + 1
  still_closed = omega (arith, one_small 41 (get_or line i 0), p.closed)

  unrolled : too_deep 0 0 line ≡ (ltb (c' + 8) o' || too_deep o' c' (drop (suc i) line))
  unfolding too_deep
  unrolled = sym p.rest ∙ ap (λ (l : List ℕ). too_deep o c l) (drop-cons line i 0 h) ∙ simp (a, b)

  pub exceeds : c' + 8 < o' → true ≡ too_deep 0 0 line
  exceeds d = sym (unrolled ∙ ap (λ (t : Bool). t || too_deep o' c' (drop (suc i) line)) (lt-ltb (c' + 8) o' d))

  pub passes : o' ≤ c' + 8 → Passed line o' c' (i + 1)
  passes d = record {
    inside = omega arith;
    opened = still_opened;
    closed = still_closed;
    rest =
        ap (λ (k : ℕ). too_deep o' c' (drop k line)) (add-one i)
        ∙ sym (unrolled ∙ ap (λ (t : Bool). t || too_deep o' c' (drop (suc i) line)) (le-ltb (c' + 8) o' d));
  }

pub all_passed : (line : List ℕ) (o c i : ℕ) → Passed line o c i → length line ≤ i → false ≡ too_deep 0 0 line
unfolding too_deep
all_passed line o c i p h = sym (ap (λ (l : List ℕ). too_deep o c l) (drop_of_length-le line h)) ∙ p.rest
