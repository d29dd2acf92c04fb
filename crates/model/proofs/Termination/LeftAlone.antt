-- A station left alone on a state that keeps the invariants: with room above the highest island of m it decides within
-- 9(n + 1) steps.
-- Relies on the three passes and on the invariant of islands that are reached; the claim on bytes relies on it.
use Rattle.model.proofs.Kit.{◌≡◌, refl, sym, ap, subst, true, inl, inr, ◌⊎◌, ℕ, zero, suc, ◌+◌, ◌*◌, ◌≤◌, ◌<◌}
use Rattle.model.proofs.Kit.{ℕ_discrete, arith}
use mathlib.Core.Path.{fun_ext}
use native.Mathlib.Decide.{dec_le}
use Rattle.model.specs.Listing.{Order, Register, empty, filled, turn_m, turn_a, turn_b, Stage, writing, reading}
use Rattle.model.specs.Listing.{has_decided, is_spent, Station, idle, active, decided, in_m, in_a, in_b, array}
use Rattle.model.proofs.Listing.Collect.{Filled}
use Rattle.model.proofs.Listing.Going.{Going}
use Rattle.model.proofs.Agreement.State.{State}
use Rattle.model.proofs.Agreement.Cells.{Cell, cells, on_put}
use Rattle.model.proofs.Agreement.Registers.{AtLeast, Holds}
use Rattle.model.proofs.Agreement.Own.{reach, Begun}
use Rattle.model.proofs.Agreement.Invariant.{Kept, own_at}
use Rattle.model.proofs.Sequential.Turns.{step_until}
use Rattle.model.proofs.Sequential.Alone.{alone}
use Rattle.model.proofs.Termination.Climbs.{reach_a, climbed, Reached, Safe, island_at, sights_at}
use Rattle.model.proofs.Termination.Rest.{alone_steps, Decides, Within, rest_a, rest_b, turn_b_lem}
use Rattle.model.proofs.Termination.Passes.{Below, Near, Clear, Peak, to_top, next_pass, after_b, from_a, rest_m}
use Rattle.model.proofs.Termination.Passes.{decides_on_top}

module _ {F : Type 0} where
  -- ---- the first island above all of m

  pub record Highest (n : ℕ) (r : ℕ → Register F) : Type 0 where
    pub top : ℕ
    pub all : (j : ℕ) → j < n → Holds (Below top) (r j)
    pub peak : (top ≡ 0) ⊎ ((j : ℕ) × (j < n) × Near top (r j))

  pub highest : (n : ℕ) (r : ℕ → Register F) → Highest n r
  highest zero r = record { top = 0; all = λ j l. absurd (omega arith); peak = inl refl }
  highest (suc n) r = by (r n) refl (highest n r)
    where
      -- one register more, that leaves top as it is
      stays : (h : Highest n r) → Holds (Below h.top) (r n) → Highest (suc n) r
      stays h q = record {
        top = h.top;
        all = λ j l. elim (ℕ_discrete n j) [
          | yes e ↦ subst (λ (k : ℕ). Holds (Below h.top) (r k)) e q
          | no ne ↦ h.all j (omega arith)
        ];
        peak = elim h.peak [ inl e ↦ inl e | inr (j, l, near) ↦ inr (j, omega arith, near) ];
      }

      raise : (a b : ℕ) → a ≤ b → (z : Register F) → Holds (Below a) z → Holds (Below b) z
      raise a b l empty q = tt
      raise a b l (filled e k y) q = omega arith

      by : (z : Register F) → r n ≡ z → Highest n r → Highest (suc n) r
      by empty e h = stays h (rw e tt)
      by (filled g k y) e h = go (dec_le h.top k)
        where
          go : Dec (h.top ≤ k) → Highest (suc n) r
          go (no f) = stays h (rw e (omega arith))
          go (yes l) = record {
            top = k + 1;
            all = λ j b. elim (ℕ_discrete n j) [
              | yes d ↦ subst (λ (m : ℕ). Holds (Below (k + 1)) (r m)) d (rw e (omega arith))
              | no ne ↦ raise h.top (k + 1) (omega arith) (r j) (h.all j (omega arith))
            ];
            peak = inr (n, omega arith, rw e (omega arith));
          }

  -- ---- what the invariants say of a station by the islands that are reached

  -- a station's A and B are filled on islands that are reached
  filled_climbed : (s : Station F) → (reach_a s ≤ climbed s) × (reach s ≤ climbed s)
  filled_climbed idle = (omega arith, omega arith)
  filled_climbed (active v (writing turn_m c x)) = (omega arith, omega arith)
  filled_climbed (active v (writing turn_a c x)) = (omega arith, omega arith)
  filled_climbed (active v (writing (turn_b e) c x)) = (omega arith, omega arith)
  filled_climbed (active v (reading turn_m c x p a)) = (omega arith, omega arith)
  filled_climbed (active v (reading turn_a c x p a)) = (omega arith, omega arith)
  filled_climbed (active v (reading (turn_b e) c x p a)) = (omega arith, omega arith)
  filled_climbed (active v (has_decided c x)) = (omega arith, omega arith)
  filled_climbed (active v (is_spent c x)) = (omega arith, omega arith)

  -- every register of m, also of numbers that are no station, is below top
  module _ (n : ℕ) (st : State F) (h : Safe n (cells st)) (top : ℕ)
      (low : (j : ℕ) → Holds (Below top) (st.register in_m j)) where
    abbrev f : ℕ → Cell F
    f = cells st

    reached_low : (k : ℕ) → Reached f k → k < top
    unfolding cells
    reached_low k q = by (st.register in_m q.0) (low q.0) q.1
      where
        by : (r : Register F) → Holds (Below top) r → AtLeast k r → k < top
        by empty a b = absurd b
        by (filled e j y) a b = omega arith

    climbed_low : (j : ℕ) → climbed (f j).station ≤ top
    climbed_low j = by (climbed (f j).station) (λ k l. reached_low k (h.1.below j k l))
      where
        by : (c : ℕ) → ((k : ℕ) → k < c → k < top) → c ≤ top
        by zero q = omega arith
        by (suc c) q = omega (arith, q c (omega arith))

    -- a register that is filled only below some island up to top is empty on top
    none_on_top : (r : Register F) (b : ℕ) → b ≤ top → (Filled r → top < b) → Holds (λ e k y. ⊥) r
    none_on_top empty b l q = tt
    none_on_top (filled e k y) b l q = omega (arith, q tt)

    clear : (i : ℕ) → Clear n i top st.register
    unfolding cells
    clear i = record {
      others = λ j l ne. low j;
      empty_a = λ j l. none_on_top (st.register (in_a top) j) (climbed (f j).station) (climbed_low j)
          (λ d. omega (arith, (h.1.behind j).early top d, (filled_climbed (f j).station).0));
      empty_b = λ j l. none_on_top (st.register (in_b top) j) (climbed (f j).station) (climbed_low j)
          (λ d. omega (arith, (h.0.own j).early top d, (filled_climbed (f j).station).1));
    }

    -- top is right above the station's own island, or above another's
    peak : (i : ℕ) → ((top ≡ 0) ⊎ ((j : ℕ) × (j < n) × Near top (st.register in_m j)))
        → Peak n i top (island_at (st.station i)) st.register
    unfolding cells
    peak i (inl e) = inl (omega arith)
    peak i (inr (j, l, q)) = by (ℕ_discrete i j)
      where
        own : (r : Register F) (c : ℕ) → Holds (λ e k y. k ≤ c) r → Near top r → top ≤ c + 1
        own empty c a b = absurd b
        own (filled e k y) c a b = omega arith

        by : Dec (i ≡ j) → Peak n i top (island_at (st.station i)) st.register
        by (yes e) = inl (own (st.register in_m i) _ (h.1.behind i).low (rw e q))
        by (no ne) = inr (j, l, ne, q)

  -- ---- left alone

  -- a state is that of the station where it stands, alone among the others
  pub alone_is : (i : ℕ) (v : F) (s : Stage F) (st : State F) → st.station i ≡ active v s
      → alone i v st.station s st.register ≡ st
  unfolding alone
  alone_is i v s st is =
      ap (λ (g : ℕ → Station F). (record { station = g; register = st.register }))
      (fun_ext (on_put i (active v s) st.station (λ (j : ℕ) (z : Station F). z ≡ st.station j) (sym is)
      (λ j e. refl)))

  -- a collect is before its end
  abbrev pub Before : ℕ → Stage F → Type 0
  Before n (writing t c x) = Unit {0}
  Before n (reading t c x p a) = p < n
  Before n (has_decided c x) = Unit {0}
  Before n (is_spent c x) = Unit {0}

  module _ (o : Order F) (sameIs : (x y : F) → o.same x y ≡ true → x ≡ y) (sameRefl : (x : F) → o.same x x ≡ true)
      (n K i : ℕ) (below : i < n) (st : State F) (h : Safe n (cells st)) (top : ℕ) (room : top < K)
      (low : (j : ℕ) → Holds (Below top) (st.register in_m j))
      (high : (top ≡ 0) ⊎ ((j : ℕ) × (j < n) × Near top (st.register in_m j))) (v : F) where
    abbrev Runs : ℕ → Stage F → Type 0
    Runs b s = Within o n K i below v st.station b s st.register

    here : Clear n i top st.register
    here = clear n st h top low i

    module _ (s : Stage F) (is : st.station i ≡ active v s) where
      -- the islands that the stage says are reached
      under : (c : ℕ) → climbed (active v s) ≡ suc c → c < top
      unfolding cells
      under c e = omega (arith, subst (λ (z : Station F). climbed z ≤ top) is (climbed_low n st h top low i))

      top_near : Peak n i top (island_at (active v s)) st.register
      top_near =
          subst (λ (z : Station F). Peak n i top (island_at z) st.register) is (peak n st h top low i high)

    -- the next pass, 6(n + 1) steps at most, once the turn of B has ended
    abbrev more : ℕ
    more = 6 * (n + 1)

    by_stage : (s : Stage F) → st.station i ≡ active v s → Going s → Before n s → Runs (alone_steps n) s
    unfolding cells array
    by_stage (writing turn_m c x) is g b fuel enough =
        let up : c ≤ top = subst (λ (z : Station F). climbed z ≤ top) is (climbed_low n st h top low i) in
        to_top o sameIs sameRefl n K i below v st.station top room c up x _ here (top_near (writing turn_m c x) is)
        fuel (omega arith)
    by_stage (writing turn_a c x) is g b fuel enough =
        from_a o sameIs sameRefl n K i below v st.station top room more
        (next_pass o sameIs sameRefl n K i below v st.station top room) c (under (writing turn_a c x) is c refl)
        x _ here (top_near (writing turn_a c x) is) fuel (omega arith)
    by_stage (writing (turn_b e) c x) is g b fuel enough =
        let l = under (writing (turn_b e) c x) is c refl in
        turn_b_lem o n K i below v st.station more c (omega arith) e x _
        (after_b o sameIs sameRefl n K i below v st.station top room more
        (next_pass o sameIs sameRefl n K i below v st.station top room) c l _ here
        (top_near (writing (turn_b e) c x) is) e x) fuel (omega arith)
    by_stage (reading turn_m c x p a) is g b fuel enough =
        let own = (own_at h.0 is).mine in
        rest_m o sameIs sameRefl n K i below v st.station top room c x _ (λ j l. low j) own.0 p b a own.1
        (λ k y q. reached_low n st h top low k (sights_at h.1 is k y q)) here
        (top_near (reading turn_m c x p a) is) fuel (omega arith)
    by_stage (reading turn_a c x p a) is g b fuel enough =
        let l = under (reading turn_a c x p a) is c refl in
        rest_a o n K i below v st.station more c (omega arith) x p b a _
        (after_b o sameIs sameRefl n K i below v st.station top room more
        (next_pass o sameIs sameRefl n K i below v st.station top room) c l _ here
        (top_near (reading turn_a c x p a) is)) fuel (omega arith)
    by_stage (reading (turn_b e) c x p a) is g b fuel enough =
        let l = under (reading (turn_b e) c x p a) is c refl in
        rest_b o n K i below v st.station more c (omega arith) e x p b a _
        (λ y. next_pass o sameIs sameRefl n K i below v st.station top room c l y _ here
        (top_near (reading (turn_b e) c x p a) is)) fuel (omega arith)
    by_stage (has_decided c x) is g b fuel enough = absurd g
    by_stage (is_spent c x) is g b fuel enough = absurd g

    pub left_alone : (s : Stage F) → st.station i ≡ active v s → Going s → Before n s
        → (fuel : ℕ) → alone_steps n ≤ fuel → Decides (step_until o n K fuel i st)
    left_alone s is g b fuel enough =
        subst (λ (z : State F). Decides (step_until o n K fuel i z)) (alone_is i v s st is)
        (by_stage s is g b fuel enough)

  -- ---- where nobody has taken a step

  -- a station that has proposed v is before its first step
  module _ (n : ℕ) (st : State F) (h : Kept n (cells st)) (i : ℕ) (v : F) (blank : st.register in_m i ≡ empty) where
    not_begun : (s : Stage F) → st.station i ≡ active v s → Begun (active v s) → ⊥
    unfolding cells
    not_begun s is b = subst Filled blank ((h.own i).begun (subst (λ (z : Station F). Begun z) (sym is) b))

    pub first_step : (s : Stage F) → st.station i ≡ active v s → s ≡ writing turn_m 0 v
    unfolding cells
    first_step (writing turn_m c x) is =
        let zero_island : c ≡ 0 = by c (not_begun (writing turn_m c x) is) in
        let own : v ≡ x = (own_at h is).mine zero_island in cc
      where
        by : (c : ℕ) → (0 < c → ⊥) → c ≡ 0
        by zero q = refl
        by (suc c) q = absurd (q (omega arith))
    first_step (writing turn_a c x) is = absurd (not_begun (writing turn_a c x) is tt)
    first_step (writing (turn_b e) c x) is = absurd (not_begun (writing (turn_b e) c x) is tt)
    first_step (reading t c x p a) is = absurd (not_begun (reading t c x p a) is tt)
    first_step (has_decided c x) is = absurd (not_begun (has_decided c x) is tt)
    first_step (is_spent c x) is = absurd (not_begun (is_spent c x) is tt)

  pub nobody_stepped : (o : Order F) → ((x y : F) → o.same x y ≡ true → x ≡ y) → ((x : F) → o.same x x ≡ true)
      → (n K i : ℕ) → i < n → 0 < K → (st : State F) → Safe n (cells st) → ((j : ℕ) → st.register in_m j ≡ empty)
      → (v : F) (s : Stage F) → st.station i ≡ active v s → (fuel : ℕ) → 3 * (n + 1) ≤ fuel
      → (step_until o n K fuel i st).answer ≡ decided 0 v
  nobody_stepped o sameIs sameRefl n K i below room st h blank v s is fuel enough =
      let first : s ≡ writing turn_m 0 v = first_step n st h.0 i v (blank i) s is in
      let at : st.station i ≡ active v (writing turn_m 0 v) = rw (← first) is in
      let low : (j : ℕ) → Holds (Below 0) (st.register in_m j) = λ j. rw (blank j) tt in
      subst (λ (z : State F). (step_until o n K fuel i z).answer ≡ decided 0 v) (alone_is i v _ st at)
      (decides_on_top o sameIs sameRefl n K i below v st.station 0 room v _ (clear n st h 0 low i) fuel enough)
