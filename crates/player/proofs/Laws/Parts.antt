-- The part of the memory that is lent to a call: the bytes of the board, or all of a shorter memory.
-- Relies on lists alone; the laws of a played line rely on it.
use Rattle.model.proofs.Kit.{◌≡◌, refl, sym, ap, ◌∙◌, Bool, true, false, inl, inr, ⊎_elim, ◌⊎◌, List, ℕ, ◌≤◌, ◌<◌}
use Rattle.model.proofs.Kit.{leb-true, leb-false, leb, length, take, drop, drop_of_length-le, take_all, arith}
use Prim.Native.Nat.{min}
use native.Mathlib.Nat.{min-eq_left}
use lib.Seq.{length-take-le}

-- one of two numbers is the lesser
pub either : (a b : ℕ) → (a ≤ b) ⊎ (b < a)
either a b = by (leb a b) refl
  where
    by : (t : Bool) → leb a b ≡ t → (a ≤ b) ⊎ (b < a)
    by true e = inl (leb-true a b e)
    by false e = inr (leb-false a b e)

module _ (k p : ℕ) (m : List ℕ) (e : p ≡ min k (length m)) where
  pub part_length : p ≡ length (take p m)
  part_length = sym (length-take-le p m (omega arith))

  pub part_inside : p ≤ length m
  part_inside = omega (arith, e)

  pub part_taken : take p m ≡ take k m
  part_taken =
      ⊎_elim (λ (h : k ≤ length m). ap (λ (j : ℕ). take j m) (e ∙ min-eq_left h))
      (λ (h : length m < k). take_all p m (omega arith) ∙ sym (take_all k m (omega arith))) (either k (length m))

  pub part_left : drop p m ≡ drop k m
  part_left =
      ⊎_elim (λ (h : k ≤ length m). ap (λ (j : ℕ). drop j m) (e ∙ min-eq_left h))
      (λ (h : length m < k). drop_of_length-le m {i = p} (omega arith)
      ∙ sym (drop_of_length-le m {i = k} (omega arith)))
      (either k (length m))
