-- The order of figures is strict and total; and pairs by any such order are ordered so too.
-- Relies on Figure's order, whose laws are all drawn from the ranks; only this file changes with it. Collects' laws on
-- the best value rely on it, and so do the proofs of the code's order.
use Rattle.model.proofs.Kit.{◌≡◌, refl, sym, ap, ◌∙◌, true, false, ◌&&◌, not, inl, inr, ⊎_elim, ◌⊎◌}
use Rattle.model.proofs.Kit.{ℕ, suc, ◌*◌, ◌≤◌, ◌<◌, lt-ltb, le-ltb, eq-eqb, ne_eqb, ltb-false, eqb, ltb, T}
use Rattle.model.proofs.Kit.{eqb→eq, ltb→lt, lt→ltb, pos, negsuc, lt_z, w32, SFits, eq-or-lt_of_le, arith}
use lib.IntN.{nat_abs}
use native.Mathlib.Nat.{lt_irrefl, lt_trans}
use Rattle.model.specs.Figure.{Figure, above, figures}
use Rattle.model.specs.BySize.{BySize, rank}
use Rattle.model.specs.Listing.{Order, pair_above}
use Rattle.model.specs.Collects.{Strict}
use Rattle.model.proofs.Basics.Numbers.{same_law, self_law}
use Rattle.model.proofs.Basics.Tests.{and_l, and_r, or_case, true-T, T_true, T_false, no-T}
use Rattle.model.proofs.Board.Places.{lower, equal, higher, compared}

-- ---- figures

-- the rank rises with the size, and of two equal sizes with the number
size_rank : (x y : Figure) → nat_abs y < nat_abs x → rank y < rank x
unfolding rank
size_rank (pos a) (pos b) h = omega arith
size_rank (pos a) (negsuc b) h = omega arith
size_rank (negsuc a) (pos b) h = omega arith
size_rank (negsuc a) (negsuc b) h = omega arith

tie_rank : (x y : Figure) → nat_abs y ≡ nat_abs x → lt_z y x ≡ ltb (rank y) (rank x)
unfolding rank
tie_rank (pos a) (pos b) e = le-ltb b a (omega arith) ∙ sym (le-ltb (2 * b) (2 * a) (omega arith))
tie_rank (pos a) (negsuc b) e = sym (lt-ltb (suc (2 * b)) (2 * a) (omega arith))
tie_rank (negsuc a) (pos b) e = sym (le-ltb (2 * b) (suc (2 * a)) (omega arith))
tie_rank (negsuc a) (negsuc b) e = le-ltb a b (omega arith) ∙ sym (le-ltb (suc (2 * b)) (suc (2 * a)) (omega arith))

above_rank : (x y : Figure) → above x y ≡ ltb (rank y) (rank x)
unfolding above
above_rank x y = elim (compared (nat_abs y) (nat_abs x)) [
  | lower h ↦ rw (lt-ltb (nat_abs y) (nat_abs x) h) (sym (lt-ltb (rank y) (rank x) (size_rank x y h)))
  | equal e ↦ rw (le-ltb (nat_abs y) (nat_abs x) (omega arith), eq-eqb (nat_abs y) (nat_abs x) e) (tie_rank x y e)
  | higher h ↦
      rw (le-ltb (nat_abs y) (nat_abs x) (omega arith), ne_eqb (nat_abs y) (nat_abs x) (λ e. omega arith))
      (sym (le-ltb (rank y) (rank x) (omega (arith, size_rank y x h))))
]

-- no two figures have one rank
rank_one : (x y : Figure) → rank x ≡ rank y → x ≡ y
unfolding rank
rank_one (pos a) (pos b) e = ap pos (omega arith)
rank_one (pos a) (negsuc b) e = absurd (omega arith)
rank_one (negsuc a) (pos b) e = absurd (omega arith)
rank_one (negsuc a) (negsuc b) e = ap negsuc (omega arith)

above_lower : (x y : Figure) → T (above x y) → rank y < rank x
above_lower x y t = ltb→lt (rank y) (rank x) (rw (above_rank x y) at t)

lower_above : (x y : Figure) → rank y < rank x → T (above x y)
lower_above x y h = rw (above_rank x y) (lt→ltb (rank y) (rank x) h)

not_lower : (x y : Figure) → above x y ≡ false → rank x ≤ rank y
not_lower x y e = ltb-false (rank y) (rank x) (sym (above_rank x y) ∙ e)

pub above_irrefl : (x : Figure) → T (above x x) → ⊥
above_irrefl x t = lt_irrefl (rank x) (above_lower x x t)

pub above_trans : (x y z : Figure) → T (above x y) → T (above y z) → T (above x z)
above_trans x y z s t = lower_above x z (lt_trans (above_lower y z t) (above_lower x y s))

above_total : (x y : Figure) → above x y ≡ false → above y x ≡ false → x ≡ y
above_total x y e f = rank_one x y (omega (arith, not_lower x y e, not_lower y x f))

pub strict : Strict figures
unfolding figures
strict = record {
  same_is = same_law;
  same_self = self_law;
  irreflexive = λ x. no-T (above x x) (above_irrefl x);
  transitive = λ x y z s t. T_true (above x z) (above_trans x y z (true-T (above x y) s) (true-T (above y z) t));
  total = above_total;
}

above_or_same : (x y : Figure) → rank y ≤ rank x → (y ≡ x) ⊎ (above x y ≡ true)
above_or_same x y h =
    ⊎_elim (λ (e : rank y ≡ rank x). inl (rank_one y x e)) (λ (l : rank y < rank x). inr (T_true _ (lower_above x y l)))
    (eq-or-lt_of_le h)

first_rank : (x : Figure) → rank (pos 0) ≤ rank x
unfolding rank
first_rank x = omega arith

last_rank : (x : Figure) → SFits w32 x → rank x ≤ rank (negsuc 2147483647)
unfolding rank
last_rank (pos n) h = omega (arith, h.sfits)
last_rank (negsuc n) h = omega (arith, h.sfits)

pub by_size : BySize
by_size = record {
  ordered = strict;
  in_row = above_rank;
  least = λ x. above_or_same x (pos 0) (first_rank x);
  greatest = λ x h. above_or_same (negsuc 2147483647) x (last_rank x h);
}

-- ---- "Pairs (island, figure) compare by island, then by figure."

module _ {F : Type 0} (o : Order F) (s : Strict o) where
  pair_cases : (k : ℕ) (y : F) (j : ℕ) (x : F) → T (pair_above o k y j x) → (j < k) ⊎ ((j ≡ k) × (o.above y x ≡ true))
  unfolding pair_above
  pair_cases k y j x t =
      ⊎_elim (λ l. inl (ltb→lt j k l))
      (λ r. inr (eqb→eq j k (and_l (eqb j k) _ r), T_true _ (and_r (eqb j k) (o.above y x) r)))
      (or_case (ltb j k) (eqb j k && o.above y x) t)

  pair_lower : (k : ℕ) (y : F) (j : ℕ) (x : F) → j < k → T (pair_above o k y j x)
  unfolding pair_above
  pair_lower k y j x h = rw (lt-ltb j k h) tt

  pair_level : (k : ℕ) (y : F) (j : ℕ) (x : F) → j ≡ k → pair_above o k y j x ≡ o.above y x
  unfolding pair_above
  pair_level k y j x e = rw (le-ltb j k (omega arith), eq-eqb j k e)

  pub pair_irrefl : (k : ℕ) (x : F) → T (pair_above o k x k x) → ⊥
  pair_irrefl k x t = rw (pair_level k x k x refl, s.irreflexive x) at t

  -- a pair that is not above another is on no higher island
  pub pair_island : (k : ℕ) (x : F) (j : ℕ) (y : F) → T (not (pair_above o k x j y)) → k ≤ j
  pair_island k x j y t = elim (compared k j) [
    | lower h ↦ omega arith
    | equal e ↦ omega arith
    | higher h ↦ absurd (rw (T_false (pair_above o k x j y) t) at (pair_lower k x j y h))
  ]

  pub pair_trans : (k : ℕ) (x : F) (j : ℕ) (y : F) (l : ℕ) (z : F)
      → T (pair_above o k x j y) → T (pair_above o j y l z) → T (pair_above o k x l z)
  pair_trans k x j y l z p q = go (pair_cases k x j y p) (pair_cases j y l z q)
    where
      go : (j < k) ⊎ ((j ≡ k) × (o.above x y ≡ true)) → (l < j) ⊎ ((l ≡ j) × (o.above y z ≡ true))
          → T (pair_above o k x l z)
      go (inl h) (inl g) = pair_lower k x l z (omega arith)
      go (inl h) (inr g) = pair_lower k x l z (omega arith)
      go (inr h) (inl g) = pair_lower k x l z (omega arith)
      go (inr h) (inr g) = rw (pair_level k x l z (omega arith), s.transitive x y z h.1 g.1) tt

  pub pair_total : (k : ℕ) (x : F) (j : ℕ) (y : F) → pair_above o k x j y ≡ false → pair_above o j y k x ≡ false
      → (k ≡ j) × (x ≡ y)
  pair_total k x j y p q = elim (compared k j) [
    | lower h ↦ absurd (rw q at (pair_lower j y k x h))
    | equal e ↦ (e, s.total x y (sym (pair_level k x j y (sym e)) ∙ p) (sym (pair_level j y k x e) ∙ q))
    | higher h ↦ absurd (rw p at (pair_lower k x j y h))
  ]
