-- What one read does to what a collect has seen, for any kind of register: it brings what its own register holds and
-- keeps it, it is clean exactly if it was and the register is harmless, and its figures are figures that it met.
-- Relies on the words for registers and on the listing's `see`; the moves and the sequential run's collects rely on it.
use Rattle.model.proofs.Kit.{◌≡◌, refl, sym, ◌∙◌, Bool, true, false, cond, ◌&&◌, ◌||◌, inl, inr, ◌⊎◌, ℕ, ◌≤◌}
use Rattle.model.proofs.Kit.{eqb-true, ltb-true, ltb-false, eqb, ltb, arith}
use Rattle.model.specs.Listing.{Order, Flag, adopt, commit, Register, empty, filled, Turn, turn_m, turn_a, turn_b}
use Rattle.model.specs.Listing.{Grade, first, second, third, Seen, nothing, seen, in_m, array, entry, larger}
use Rattle.model.specs.Listing.{pair_above, add, see}
use Rattle.model.proofs.Basics.Tests.{cond_case}
use Rattle.model.proofs.Listing.Collect.{larger_is}
use Rattle.model.proofs.Agreement.Registers.{Says, Marked, Figure, Best, Met, Left, Brought, Clean, Harmless}
use Rattle.model.proofs.Agreement.Registers.{adopt≢commit}

first_or_second : (a b c : Bool) → (a || (b && c)) ≡ true → (a ≡ true) ⊎ (b ≡ true)
first_or_second true b c e = inl refl
first_or_second false true c e = inr refl
first_or_second false false c e = inl e

not_first : (a b : Bool) → (a || b) ≡ false → a ≡ false
not_first true b e = e
not_first false b e = refl

module _ {F : Type 0} where
  pub left_entry : (t : Turn) (c : ℕ) (x : F) → Left t c x (entry t c x)
  unfolding entry
  left_entry turn_m c x = omega arith
  left_entry turn_a c x = refl
  left_entry (turn_b f) c x = (refl, refl)

module _ {F : Type 0} (o : Order F) where
  -- the better of two pairs has an island at least as high as the other
  above_high : (k : ℕ) (y : F) (j : ℕ) (x : F) → pair_above o k y j x ≡ true → j ≤ k
  unfolding pair_above
  above_high k y j x e = go (first_or_second (ltb j k) (eqb j k) (o.above y x) e)
    where
      go : (ltb j k ≡ true) ⊎ (eqb j k ≡ true) → j ≤ k
      go (inl d) = omega (arith, ltb-true j k d)
      go (inr d) = omega (arith, eqb-true j k d)

  not_above_low : (k : ℕ) (y : F) (j : ℕ) (x : F) → pair_above o k y j x ≡ false → k ≤ j
  unfolding pair_above
  not_above_low k y j x e = ltb-false j k (not_first (ltb j k) (eqb j k && o.above y x) e)

  one_of : {A : Type 0} (x y z : F) → A → larger o x y ≡ z → (A × (x ≡ z)) ⊎ (A × (y ≡ z))
  unfolding larger
  one_of {A} x y z h = go (o.above y x)
    where
      go : (t : Bool) → cond t y x ≡ z → (A × (x ≡ z)) ⊎ (A × (y ≡ z))
      go true e = inr (h, e)
      go false e = inl (h, e)

  -- Every figure after a read was seen before it or stood in the register.
  pub located : (t : Turn) (c : ℕ) (a : Seen F) (r : Register F) (k : ℕ) (y : F)
      → Best (array t c) (see o t a r) k y → Best (array t c) a k y ⊎ Figure (array t c) r k y
  unfolding see add array
  located t c a empty k y h = inl h
  located turn_m c nothing (filled f j z) k y h = inr h
  located turn_m c (seen g i x) (filled f j z) k y h = go (pair_above o j z i x) h
    where
      go : (t : Bool) → Best in_m (cond t (seen g j z) (seen g i x)) k y
          → Best in_m (seen g i x) k y ⊎ Figure in_m (filled f j z) k y
      go true h = inr h
      go false h = inl h
  located turn_a c nothing (filled f j z) k y h = inr h
  located turn_a c (seen first i x) (filled f j z) k y h = one_of x z y h.0 h.1
  located turn_a c (seen second i x) (filled f j z) k y h = one_of x z y h.0 h.1
  located turn_a c (seen third i x) (filled f j z) k y h = one_of x z y h.0 h.1
  located (turn_b e) c nothing (filled adopt j z) k y h = inr h
  located (turn_b e) c nothing (filled commit j z) k y h = inr h
  located (turn_b e) c (seen first i x) (filled adopt j z) k y h = one_of x z y h.0 h.1
  located (turn_b e) c (seen first i x) (filled commit j z) k y h = inr h
  located (turn_b e) c (seen second i x) (filled adopt j z) k y h = inl h
  located (turn_b e) c (seen second i x) (filled commit j z) k y h = inl h
  located (turn_b e) c (seen third i x) (filled f j z) k y h = inl h

  -- A commit that a collect of B has met was met before or is in the register.
  pub met : (e : Flag) (a : Seen F) (r : Register F) (y : F)
      → Met (see o (turn_b e) a r) y → Met a y ⊎ (Marked commit r × Says r y)
  unfolding see add
  met e a empty y h = inl h
  met e nothing (filled adopt j z) y h = absurd h
  met e nothing (filled commit j z) y h = inr (refl, h)
  met e (seen first i x) (filled adopt j z) y h = absurd h
  met e (seen first i x) (filled commit j z) y h = inr (refl, h)
  met e (seen second i x) (filled adopt j z) y h = inl h
  met e (seen second i x) (filled commit j z) y h = inl (go (o.same x z) h)
    where
      go : (t : Bool) → Met (seen (cond t second third) i x) y → x ≡ y
      go true h = h
      go false h = h
  met e (seen third i x) (filled f j z) y h = inl h

  module _ (sameIs : (x y : F) → o.same x y ≡ true → x ≡ y) where
    pub kept : (t : Turn) (c : ℕ) (x : F) (a : Seen F) (r : Register F) → Brought t c x a → Brought t c x (see o t a r)
    unfolding see add
    kept t c x a empty h = h
    kept t c x nothing (filled f k y) h = absurd h
    kept turn_m c x (seen g j z) (filled f k y) h =
        cond_case (λ (a : Seen F). Brought turn_m c x a) (pair_above o k y j z) _ _
        (λ e. omega (arith, above_high k y j z e)) (λ e. h)
    kept turn_a c x (seen first j z) (filled f k y) h =
        cond_case (λ (g : Grade). Brought turn_a c x (seen g j (larger o z y))) (o.same z y) _ _
        (λ e. larger_is o (λ (w : F). w ≡ x) z y h (cc (sameIs z y e))) (λ e. tt)
    kept turn_a c x (seen second j z) (filled f k y) h = tt
    kept turn_a c x (seen third j z) (filled f k y) h = tt
    kept (turn_b adopt) c x (seen first j z) (filled adopt k y) h = tt
    kept (turn_b adopt) c x (seen first j z) (filled commit k y) h = tt
    kept (turn_b adopt) c x (seen second j z) (filled f k y) h = absurd h
    kept (turn_b adopt) c x (seen third j z) (filled f k y) h = tt
    kept (turn_b commit) c x (seen first j z) (filled f k y) h = absurd h
    kept (turn_b commit) c x (seen second j z) (filled adopt k y) h = tt
    kept (turn_b commit) c x (seen second j z) (filled commit k y) h =
        cond_case (λ (g : Grade). Brought (turn_b commit) c x (seen g j z)) (o.same z y) _ _ (λ e. h) (λ e. tt)
    kept (turn_b commit) c x (seen third j z) (filled f k y) h = tt

    pub brought : (t : Turn) (c : ℕ) (x : F) (a : Seen F) (r : Register F) → Left t c x r → Brought t c x (see o t a r)
    unfolding see add
    brought turn_m c x a empty h = absurd h
    brought turn_m c x nothing (filled f k y) h = h
    brought turn_m c x (seen g j z) (filled f k y) h =
        cond_case (λ (a : Seen F). Brought turn_m c x a) (pair_above o k y j z) _ _
        (λ e. h) (λ e. omega (arith, not_above_low k y j z e))
    brought turn_a c x a empty h = absurd h
    brought turn_a c x nothing (filled f k y) h = h
    brought turn_a c x (seen first j z) (filled f k y) h =
        cond_case (λ (g : Grade). Brought turn_a c x (seen g j (larger o z y))) (o.same z y) _ _
        (λ e. larger_is o (λ (w : F). w ≡ x) z y (cc (sameIs z y e)) h) (λ e. tt)
    brought turn_a c x (seen second j z) (filled f k y) h = tt
    brought turn_a c x (seen third j z) (filled f k y) h = tt
    brought (turn_b e) c x a empty h = absurd h.0
    brought (turn_b adopt) c x nothing (filled adopt k y) h = tt
    brought (turn_b adopt) c x nothing (filled commit k y) h = absurd (adopt≢commit (sym h.0))
    brought (turn_b adopt) c x (seen first j z) (filled adopt k y) h = tt
    brought (turn_b adopt) c x (seen first j z) (filled commit k y) h = tt
    brought (turn_b adopt) c x (seen second j z) (filled adopt k y) h = tt
    brought (turn_b adopt) c x (seen second j z) (filled commit k y) h = absurd (adopt≢commit (sym h.0))
    brought (turn_b adopt) c x (seen third j z) (filled f k y) h = tt
    brought (turn_b commit) c x nothing (filled adopt k y) h = absurd (adopt≢commit h.0)
    brought (turn_b commit) c x nothing (filled commit k y) h = h.1
    brought (turn_b commit) c x (seen first j z) (filled adopt k y) h = absurd (adopt≢commit h.0)
    brought (turn_b commit) c x (seen first j z) (filled commit k y) h = tt
    brought (turn_b commit) c x (seen second j z) (filled adopt k y) h = tt
    brought (turn_b commit) c x (seen second j z) (filled commit k y) h =
        cond_case (λ (g : Grade). Brought (turn_b commit) c x (seen g j z)) (o.same z y) _ _
        (λ e. cc (sameIs z y e, h.1)) (λ e. tt)
    brought (turn_b commit) c x (seen third j z) (filled f k y) h = tt

    pub clean : (t : Turn) (x : F) (a : Seen F) (r : Register F)
        → Clean t x (see o t a r) → Clean t x a × Harmless t x r
    unfolding see add
    clean t x a empty h = (h, tt)
    clean turn_m x nothing (filled f k y) h = (tt, tt)
    clean turn_m x (seen g j z) (filled f k y) h = (tt, tt)
    clean turn_a x nothing (filled f k y) h = (tt, h)
    clean turn_a x (seen first j z) (filled f k y) h =
        cond_case (λ (g : Grade). Clean turn_a x (seen g j (larger o z y)) → (z ≡ x) × (y ≡ x)) (o.same z y) _ _
        (λ e h. (let l : larger o z y ≡ z = larger_is o (λ (w : F). w ≡ z) z y refl (sym (sameIs z y e)) in
        (cc, cc (sameIs z y e)))) (λ e h. absurd h) h
    clean turn_a x (seen second j z) (filled f k y) h = absurd h
    clean turn_a x (seen third j z) (filled f k y) h = absurd h
    clean (turn_b adopt) x nothing (filled adopt k y) h = (tt, refl)
    clean (turn_b adopt) x nothing (filled commit k y) h = absurd h
    clean (turn_b adopt) x (seen first j z) (filled adopt k y) h = (tt, refl)
    clean (turn_b adopt) x (seen first j z) (filled commit k y) h = absurd h
    clean (turn_b adopt) x (seen second j z) (filled adopt k y) h = absurd h
    clean (turn_b adopt) x (seen second j z) (filled commit k y) h =
        absurd (cond_case (λ (g : Grade). Clean (turn_b adopt) x (seen g j z) → ⊥) (o.same z y) _ _
        (λ e h. h) (λ e h. h) h)
    clean (turn_b adopt) x (seen third j z) (filled f k y) h = absurd h
    clean (turn_b commit) x nothing (filled adopt k y) h = absurd h
    clean (turn_b commit) x nothing (filled commit k y) h = (tt, (refl, h))
    clean (turn_b commit) x (seen first j z) (filled adopt k y) h = absurd h
    clean (turn_b commit) x (seen first j z) (filled commit k y) h = absurd h
    clean (turn_b commit) x (seen second j z) (filled adopt k y) h = absurd h
    clean (turn_b commit) x (seen second j z) (filled commit k y) h =
        cond_case (λ (g : Grade). Clean (turn_b commit) x (seen g j z) → (z ≡ x) × ((commit ≡ commit) × (y ≡ x)))
        (o.same z y) _ _ (λ e h. (h, (refl, sym (sameIs z y e) ∙ h))) (λ e h. absurd h) h
    clean (turn_b commit) x (seen third j z) (filled f k y) h = absurd h

  -- The other way: a harmless register leaves a clean collect clean.
  pub stays_clean : (sameRefl : (x : F) → o.same x x ≡ true) (t : Turn) (x : F) (a : Seen F) (r : Register F)
      → Clean t x a → Harmless t x r → Clean t x (see o t a r)
  unfolding see add
  stays_clean sameRefl t x a empty h q = h
  stays_clean sameRefl turn_m x nothing (filled f k y) h q = tt
  stays_clean sameRefl turn_m x (seen g j z) (filled f k y) h q =
      cond_case (λ (a : Seen F). Clean turn_m x a) (pair_above o k y j z) _ _ (λ e. tt) (λ e. tt)
  stays_clean sameRefl turn_a x nothing (filled f k y) h q = q
  stays_clean sameRefl turn_a x (seen first j z) (filled f k y) h q =
      let e : o.same z y ≡ true = cc (sameRefl x) in
      rw e (larger_is o (λ (w : F). w ≡ x) z y h q)
  stays_clean sameRefl turn_a x (seen second j z) (filled f k y) h q = absurd h
  stays_clean sameRefl turn_a x (seen third j z) (filled f k y) h q = absurd h
  stays_clean sameRefl (turn_b adopt) x nothing (filled adopt k y) h q = tt
  stays_clean sameRefl (turn_b adopt) x (seen first j z) (filled adopt k y) h q = tt
  stays_clean sameRefl (turn_b adopt) x (seen second j z) (filled adopt k y) h q = absurd h
  stays_clean sameRefl (turn_b adopt) x (seen third j z) (filled adopt k y) h q = absurd h
  stays_clean sameRefl (turn_b adopt) x a (filled commit k y) h q = absurd (adopt≢commit (sym q))
  stays_clean sameRefl (turn_b commit) x a (filled adopt k y) h q = absurd (adopt≢commit q.0)
  stays_clean sameRefl (turn_b commit) x nothing (filled commit k y) h q = q.1
  stays_clean sameRefl (turn_b commit) x (seen first j z) (filled commit k y) h q = absurd h
  stays_clean sameRefl (turn_b commit) x (seen second j z) (filled commit k y) h q =
      let e : o.same z y ≡ true = cc (sameRefl x, q.1) in
      rw e h
  stays_clean sameRefl (turn_b commit) x (seen third j z) (filled commit k y) h q = absurd h
