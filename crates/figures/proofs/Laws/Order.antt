-- The order of figures as the code tests it, on the numbers that bits stand for: by the sign of a sum, equality, the
-- larger figure, pairs. Relies on the ranks of figures and on complements; the proofs of the order rely on it.
use Rattle.model.proofs.Kit.{◌≡◌, refl, sym, ap, subst, ◌∙◌, Bool, true, false, not, ⊎_elim, ℕ, suc, ◌-◌, ◌*◌, ◌≤◌, ◌<◌}
use Rattle.model.proofs.Kit.{lt-ltb, le-ltb, lt-leb, le-leb, eq-eqb, ne_eqb, eqb, ltb, T, eqb→eq, pos, negsuc, lt_z}
use Rattle.model.proofs.Kit.{to_z-of_z, w32, to_z, of_z, SFits, eq-or-lt_of_le, arith}
use mathlib.Core.Bool.{beq}
use lib.Signed.{le_z}
use mir.Facts.{yes_eqb}
use Rattle.model.specs.Figure.{Figure, figures, same_figure, above}
use Rattle.model.specs.BySize.{rank}
use Rattle.model.specs.Listing.{larger, pair_above}
use Rattle.model.proofs.Basics.Tests.{both}
use Rattle.model.proofs.Board.Places.{lower, equal, higher, compared}
use Rattle.model.proofs.Listing.Order.{by_size}
use Rattle.model.proofs.Basics.Numbers.{same_is, same_refl}
use Rattle.figures.proofs.Laws.Signs.{not_z, not_bits}

-- ---- above: by the sign of x + y, which is negative where y is at most −x − 1

test_of : (p q : ℕ) (t : Bool) → (p < q → t ≡ true) → (q ≤ p → t ≡ false) → t ≡ ltb p q
test_of p q t f g = elim (compared p q) [
  | lower h ↦ f h ∙ sym (lt-ltb p q h)
  | equal e ↦ g (omega arith) ∙ sym (le-ltb p q (omega arith))
  | higher h ↦ g (omega arith) ∙ sym (le-ltb p q (omega arith))
]

-- Of two numbers the lesser has the higher rank where their sum is negative, and else the greater.
by_sum : (x y : Figure) → (x ≡ y → ⊥) → not (beq (lt_z y x) (le_z y (not_z x))) ≡ ltb (rank y) (rank x)
unfolding rank
by_sum (pos a) (pos b) n =
    test_of (2 * b) (2 * a) _ (λ h. rw (lt-ltb b a (omega arith)) refl) (λ h. rw (le-ltb b a (omega arith)) refl)
by_sum (pos a) (negsuc b) n =
    test_of (suc (2 * b)) (2 * a) _ (λ h. rw (lt-leb a b (omega arith)) refl) (λ h. rw (le-leb a b (omega arith)) refl)
by_sum (negsuc a) (pos b) n =
    test_of (2 * b) (suc (2 * a)) _ (λ h. rw (le-leb b a (omega arith)) refl) (λ h. rw (lt-leb b a (omega arith)) refl)
by_sum (negsuc a) (negsuc b) n =
    test_of (suc (2 * b)) (suc (2 * a)) _ (λ h. rw (le-ltb a b (omega arith)) refl) (λ h. rw (lt-ltb a b (less h)) refl)
  where
    less : suc (2 * a) ≤ suc (2 * b) → a < b
    less h = ⊎_elim (λ (e : a ≡ b). absurd (n (ap negsuc e))) (λ l. l) (eq-or-lt_of_le (omega arith))

module _ (x y : Figure) (f : SFits w32 x) (g : SFits w32 y) where
  bits_same : of_z w32 x ≡ of_z w32 y → x ≡ y
  bits_same e = sym (to_z-of_z f) ∙ ap (to_z w32) e ∙ to_z-of_z g

  pub above_same : of_z w32 x ≡ of_z w32 y → not (eqb (of_z w32 x) (of_z w32 y)) ≡ above x y
  unfolding figures
  above_same e =
      ap not (eq-eqb (of_z w32 x) (of_z w32 y) e)
      ∙ sym (ap (above x) (sym (bits_same e)) ∙ by_size.ordered.irreflexive x)

  pub above_differs : (of_z w32 x ≡ of_z w32 y → ⊥)
      → not (beq (lt_z (to_z w32 (of_z w32 y)) (to_z w32 (of_z w32 x)))
      (le_z (to_z w32 (of_z w32 y)) (to_z w32 (4294967295 - of_z w32 x)))) ≡ above x y
  above_differs n =
      (λ i. not (beq (lt_z (to_z-of_z g i) (to_z-of_z f i)) (le_z (to_z-of_z g i) (not_bits x f i))))
      ∙ by_sum x y (λ e. n (ap (of_z w32) e)) ∙ sym (by_size.in_row x y)

  -- two figures in range are the same where their bits are
  pub same_bits : eqb (of_z w32 x) (of_z w32 y) ≡ same_figure x y
  same_bits = both (eqb (of_z w32 x) (of_z w32 y)) (same_figure x y) there back
    where
      there : T (eqb (of_z w32 x) (of_z w32 y)) → T (same_figure x y)
      there t =
          let e : x ≡ y = bits_same (eqb→eq (of_z w32 x) (of_z w32 y) t) in
          subst (λ (z : Figure). T (same_figure x z)) e (same_refl x)

      back : T (same_figure x y) → T (eqb (of_z w32 x) (of_z w32 y))
      back t = yes_eqb (ap (of_z w32) (same_is x y t))

  module _ (t : Bool) (e : t ≡ above (to_z w32 (of_z w32 y)) (to_z w32 (of_z w32 x))) where
    tested : t ≡ above y x
    tested = e ∙ (λ i. above (to_z-of_z g i) (to_z-of_z f i))

    pub larger_second : t ≡ true → to_z w32 (of_z w32 y) ≡ larger figures x y
    unfolding larger figures
    larger_second h = to_z-of_z g ∙ simp (sym tested ∙ h)

    pub larger_first : t ≡ false → to_z w32 (of_z w32 x) ≡ larger figures x y
    unfolding larger figures
    larger_first h = to_z-of_z f ∙ simp (sym tested ∙ h)

    pub on_one_island : (k j : ℕ) → j ≡ k → t ≡ pair_above figures k y j x
    unfolding pair_above figures
    on_one_island k j q = simp (le-ltb j k (omega arith), eq-eqb j k q) tested

pub lower_island : (k j : ℕ) (y x : Figure) → j < k → ltb j k ≡ pair_above figures k y j x
unfolding pair_above
lower_island k j y x h = simp (lt-ltb j k h)

pub higher_island : (k j : ℕ) (y x : Figure) → k ≤ j → (j ≡ k → ⊥) → eqb j k ≡ pair_above figures k y j x
unfolding pair_above
higher_island k j y x h n = simp (le-ltb j k h, ne_eqb j k n)
