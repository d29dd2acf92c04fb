-- The invariant over cells, and the one theorem by which every move keeps it: a new cell that owes nothing. Relies on
-- the own clauses, the pairs and the licences; each kind of move pays what it owes in a file of its own.
use Rattle.model.proofs.Kit.{◌≡◌, sym, subst, inl, inr, ◌⊎◌, ℕ, ◌<◌}
use Rattle.model.specs.Listing.{adopt, commit, turn_b, Station, Array, in_a, in_b}
use Rattle.model.proofs.Agreement.State.{put}
use Rattle.model.proofs.Agreement.Cells.{Cell, standing, on_put, on_put₂}
use Rattle.model.proofs.Agreement.Registers.{Says, Marked, Figure, says_one}
use Rattle.model.proofs.Agreement.Own.{Own}
use Rattle.model.proofs.Agreement.Passed.{Passed, passed_marked}
use Rattle.model.proofs.Agreement.PairsA.{CanMiss}
use Rattle.model.proofs.Agreement.PairsB.{MayPass, may_marked, not_itself}
use Rattle.model.proofs.Agreement.Licences.{Holds, Sighted, Committed, Licensed, Steady, committed_stays}
use Rattle.model.proofs.Agreement.Licences.{licensed_stays}

module _ {F : Type 0} (n : ℕ) where
  pub record Kept (f : ℕ → Cell F) : Type 0 where
    pub own : (i : ℕ) → Own n i (f i)
    -- two stations that can miss one another in A wrote one figure
    pub one_figure : (i j k : ℕ) (x y : F) → i < n → j < n → CanMiss k j (f i) → CanMiss k i (f j)
        → Says ((f i).register (in_a k)) x → Says ((f j).register (in_a k)) y → x ≡ y
    -- nobody may decide past a station that met no commit up to it
    pub not_both : (i j k : ℕ) → MayPass k j (f i).station → Passed (turn_b adopt) k i (f j).station → ⊥
    -- every figure is licensed at its island: in records, and in registers
    pub held : (i k : ℕ) (y : F) → Holds (f i).station k y → Licensed n f k y
    pub stored : (i : ℕ) (a : Array) (k : ℕ) (y : F) → Figure a ((f i).register a) k y → Licensed n f k y
    -- the commits that a collect has met are there
    pub sighted : (i k : ℕ) (y : F) → Sighted (f i).station k y → Committed f k y

  -- What a move of station i to the cell C owes.
  pub record Owed (f : ℕ → Cell F) (i : ℕ) (C : Cell F) : Type 0 where
    pub steady : Steady f i C
    pub own : Own n i C
    -- it can miss a station only if it could before, with the same figure, or both have one figure
    pub misses : (j k : ℕ) (x y : F) → j < n → CanMiss k j C → Says (C.register (in_a k)) x
        → Says ((f j).register (in_a k)) y
        → (CanMiss k j (f i) × Says ((f i).register (in_a k)) x) ⊎ (x ≡ y)
    -- it met no commit up to a station that has committed only if that was so before
    pub met_none : (j k : ℕ) → Marked commit ((f j).register (in_b k)) → Passed (turn_b adopt) k j C.station
        → Passed (turn_b adopt) k j (f i).station
    pub held : (k : ℕ) (y : F) → Holds C.station k y → Licensed n (put i C f) k y
    pub stored : (a : Array) (k : ℕ) (y : F) → Figure a (C.register a) k y → Licensed n (put i C f) k y
    pub sighted : (k : ℕ) (y : F) → Sighted C.station k y → Committed f k y

  pub keeps : {f : ℕ → Cell F} {i : ℕ} {C : Cell F} → i < n → Kept f → Owed f i C → Kept (put i C f)
  keeps {f} {i} {C} near h d = record {
    own = on_put i C f (λ (j : ℕ) (D : Cell F). Own n j D) d.own (λ j e. h.own j);
    one_figure = λ j l k x y. on_put₂ i C f
        (λ (j : ℕ) (D : Cell F) (l : ℕ) (E : Cell F). j < n → l < n → CanMiss k l D → CanMiss k j E
        → Says (D.register (in_a k)) x → Says (E.register (in_a k)) y → x ≡ y)
        (λ _ _ _ _ p q. says_one (C.register (in_a k)) x y p q)
        (λ j e _ b m m' p q. miss j k x y b m m' p q)
        (λ j e a _ m m' p q. sym (miss j k y x a m' m q p))
        (λ j l. h.one_figure j l k x y) j l;
    not_both = λ j l k. on_put₂ i C f
        (λ (j : ℕ) (D : Cell F) (l : ℕ) (E : Cell F). MayPass k l D.station → Passed (turn_b adopt) k j E.station
        → ⊥)
        (λ m p. not_itself k i i C.station m p)
        (λ j e m p. h.not_both i j k
        (d.steady.over_adopts j k (passed_marked j adopt k i (f j).station (f j).register (h.own j).mine p) m) p)
        (λ j e m p. h.not_both j i k m
        (d.met_none j k (may_marked j k i (f j).station (f j).register (h.own j).mine m) p))
        (λ j l. h.not_both j l k) j l;
    held = on_put i C f (λ (j : ℕ) (D : Cell F). (k : ℕ) (y : F) → Holds D.station k y → Licensed n (put i C f) k y)
        d.held (λ j e k y p. licensed_stays d.steady n k y (h.held j k y p));
    stored = on_put i C f
        (λ (j : ℕ) (D : Cell F). (a : Array) (k : ℕ) (y : F) → Figure a (D.register a) k y
        → Licensed n (put i C f) k y)
        d.stored (λ j e a k y p. licensed_stays d.steady n k y (h.stored j a k y p));
    sighted = on_put i C f (λ (j : ℕ) (D : Cell F). (k : ℕ) (y : F) → Sighted D.station k y
        → Committed (put i C f) k y)
        (λ k y p. committed_stays d.steady k y (d.sighted k y p))
        (λ j e k y p. committed_stays d.steady k y (h.sighted j k y p));
  }
    where
      miss : (j k : ℕ) (x y : F) → j < n → CanMiss k j C → CanMiss k i (f j)
          → Says (C.register (in_a k)) x → Says ((f j).register (in_a k)) y → x ≡ y
      miss j k x y b m m' p q = go (d.misses j k x y b m p q)
        where
          go : (CanMiss k j (f i) × Says ((f i).register (in_a k)) x) ⊎ (x ≡ y) → x ≡ y
          go (inl w) = h.one_figure i j k x y near b w.0 m' w.1 q
          go (inr e) = e

module _ {F : Type 0} {n : ℕ} {f : ℕ → Cell F} (h : Kept n f) {i : ℕ} {s : Station F} (is : (f i).station ≡ s) where
  -- what the invariant says of a station whose record is known
  pub own_at : Own n i (standing s (f i))
  own_at = subst (λ (D : Cell F). Own n i D) (λ k. record { station = is k; register = (f i).register }) (h.own i)

  pub held_at : (k : ℕ) (y : F) → Holds s k y → Licensed n f k y
  held_at k y p = h.held i k y (subst (λ (z : Station F). Holds z k y) (sym is) p)

  pub sighted_at : (k : ℕ) (y : F) → Sighted s k y → Committed f k y
  sighted_at k y p = h.sighted i k y (subst (λ (z : Station F). Sighted z k y) (sym is) p)
