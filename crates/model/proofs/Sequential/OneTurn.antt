-- The turn of one station alone: the first one decides its own proposal v, and every one after it decides v too.
-- Relies on the passes and on Low and High; the sequential run relies on it.
use Rattle.model.proofs.Kit.{◌≡◌, refl, Bool, true, false, inl, inr, ℕ, ◌+◌, ◌-◌, ◌≤◌, ◌<◌, ◌*◌, arith}
use Rattle.model.specs.Listing.{Order, adopt, empty, filled, turn_m, turn_a, Stage, writing, has_decided, idle}
use Rattle.model.specs.Listing.{active, decided, Array, in_m, in_a, in_b}
use Rattle.model.proofs.Agreement.State.{State, initial, put, put_same, put_other, same_array, put_written}
use Rattle.model.proofs.Sequential.Turns.{Ended, turn}
use Rattle.model.proofs.Sequential.Registers.{Registers, all_put, two_stations, write, Apart, apart_write}
use Rattle.model.proofs.Sequential.Alone.{loops, alone, proposing_alone}
use Rattle.model.proofs.Sequential.Between.{OnZero, UpToOne, OnlyLow, Low, High, Between, only_low_m, low_m}
use Rattle.model.proofs.Sequential.Between.{high_m, low_after, high_first, high_after}
use Rattle.model.proofs.Sequential.Pass.{run, Sent, pass_m, pass_two_figures, pass_beside_adopt, pass_agreed}

module _ {F : Type 0} where
  -- station i has not proposed, and all its registers are empty
  pub record Fresh (st : State F) (i : ℕ) : Type 0 where
    pub rests : st.station i ≡ idle
    pub blank : (a : Array) → st.register a i ≡ empty

  -- How the turn of station i with proposal w, from st, ended: it decided v, on island 0 or 1; the registers are again
  -- as between two turns; and nothing of another station was changed.
  pub record Decides (n : ℕ) (v : F) (i : ℕ) (w : F) (st : State F) (e : Ended F) : Type 0 where
    pub island : ℕ
    pub small : island ≤ 1
    pub says : e.answer ≡ decided island v
    pub between : Between n v e.state.register
    pub itself : e.state.station i ≡ active w (has_decided island v)
    pub stations : (j : ℕ) → (i ≡ j → ⊥) → e.state.station j ≡ st.station j
    pub registers : Apart i st.register e.state.register

  decides_alone : (n : ℕ) (v : F) (i : ℕ) (w : F) (st : State F) (c : ℕ) (g : Registers F)
      → c ≤ 1 → Between n v g → Apart i st.register g
      → Decides n v i w st (record { state = alone i w st.station (has_decided c v) g; answer = decided c v })
  unfolding alone
  decides_alone n v i w st c g l b h = record {
    island = c;
    small = l;
    says = refl;
    between = b;
    itself = put_same i (active w (has_decided c v)) st.station;
    stations = λ j ne. put_other i (active w (has_decided c v)) st.station j ne;
    registers = h;
  }

  module _ (o : Order F) (sameIs : (x y : F) → o.same x y ≡ true → x ≡ y) (sameRefl : (x : F) → o.same x x ≡ true)
      (n K : ℕ) (i : ℕ) (below : i < n) (w v : F) (st : State F) where
    -- what is to be shown of the turn from some stage and registers in it on
    abbrev Deciding : (fuel : ℕ) → Stage F → Registers F → Type 0
    Deciding fuel s f = Decides n v i w st (run o n K i below w st.station fuel s f)

    -- it carries v to an island where nothing else is
    low_agreed : (fuel : ℕ) (f : Registers F) → OnlyLow n v f → Apart i st.register f
        → Deciding (loops n 2 fuel) (writing turn_a 0 v) f
    low_agreed fuel f h d =
        let d₁ : Apart i st.register (write (in_a 0) i (filled adopt 0 v) f) = apart_write i _ f (in_a 0) _ d in
        rw (pass_agreed o n K i below w st.station sameIs sameRefl v fuel 0 f h.a h.b)
        (decides_alone n v i w st 0 _ (omega arith) (inl (low_after n v i f below h)) (apart_write i _ _ (in_b 0) _ d₁))

    high_agreed : (fuel : ℕ) (f : Registers F) → High n v f → Apart i st.register f
        → Deciding (loops n 2 fuel) (writing turn_a 1 v) f
    high_agreed fuel f h d =
        let d₁ : Apart i st.register (write (in_a 1) i (filled adopt 0 v) f) = apart_write i _ f (in_a 1) _ d in
        rw (pass_agreed o n K i below w st.station sameIs sameRefl v fuel 1 f h.a h.b)
        (decides_alone n v i w st 1 _ (omega arith) (inr (high_after n v i f h)) (apart_write i _ _ (in_b 1) _ d₁))

    -- once m is as in High with the station's own pair in it, the collect of m gives v on island 1
    high_turn : (fuel c : ℕ) (x : F) (f : Registers F) → High n v (write in_m i (filled adopt c x) f)
        → Apart i st.register f → Deciding (loops n 3 fuel) (writing turn_m c x) f
    unfolding put_written same_array put
    high_turn fuel c x f h d =
        let s : Sent o n K i below w st.station (UpToOne v) 1 (loops n 2 fuel) c x f =
        pass_m o n K i below w st.station sameIs (UpToOne v) (loops n 2 fuel) c x f
        h.m h.who h.below adopt 1 v h.in_m1 in
        let one : s.island ≡ 1 = omega arith in
        rw (s.goes, one, s.fact.1 one) (high_agreed fuel _ h (apart_write i _ f in_m _ d))

    -- In Low it carries y to island 0. If y is v, it decides it there. If not, it meets v in A, marks adopt, meets the
    -- commit of v in B, and goes to island 1 with v.
    low_carried : (fuel : ℕ) → 2 ≤ K → (f : Registers F) → f (in_a 0) i ≡ empty → Low n v f
        → Apart i st.register f → (y : F) → Deciding (loops n 5 fuel) (writing turn_a 0 y) f
    unfolding put_written same_array
    low_carried fuel two f blank h d y = by (o.same y v) refl
      where
        by : (t : Bool) → o.same y v ≡ t → Deciding (loops n 5 fuel) (writing turn_a 0 y) f
        by true e = rw (sameIs y v e) (low_agreed (loops n 3 fuel) f h.only d)
        by false e =
            let other : y ≡ v → ⊥ = λ q. (let z : ◌≡◌ {A = ℕ} 0 1 = cc (sameRefl v) in omega arith) in
            let ne : i ≡ h.who → ⊥ = two_stations (f (in_a 0)) i h.who adopt 0 v blank h.in_a0 in
            let f₁ : Registers F = write (in_a 0) i (filled adopt 0 y) f in
            let (z, goes) =
            pass_two_figures o n K i below w st.station sameIs v (loops n 4 fuel) 0 f y other
            h.who h.below ne h.in_a0 in
            let goes₁ =
            pass_beside_adopt o n K i below w st.station sameIs (loops n 3 fuel) 0 f₁ v z two h.only.b
            h.who h.below ne h.in_b0 in
            let d₁ : Apart i st.register f₁ = apart_write i _ f (in_a 0) _ d in
            rw (goes, goes₁)
            (high_turn fuel 1 v _ (high_first n v i f below y z h.only) (apart_write i _ f₁ (in_b 0) _ d₁))

    low_turn : (fuel : ℕ) → 2 ≤ K → Fresh st i → Low n v st.register
        → Deciding (loops n 6 fuel) (writing turn_m 0 w) st.register
    unfolding put_written same_array put
    low_turn fuel two fresh h =
        let f : Registers F = st.register in
        let low : Low n v (write in_m i (filled adopt 0 w) f) = low_m n v i f w h in
        let s : Sent o n K i below w st.station OnZero 0 (loops n 5 fuel) 0 w f =
        pass_m o n K i below w st.station sameIs OnZero (loops n 5 fuel) 0 w f
        low.only.m i below adopt 0 w (put_same i _ (f in_m)) in
        let d : Apart i f (write in_m i (filled adopt 0 w) f) = apart_write i f f in_m _ (λ a j ne. refl) in
        rw (s.goes, s.fact) (low_carried fuel two _ (fresh.blank (in_a 0)) low d s.figure)

  module _ (o : Order F) (sameIs : (x y : F) → o.same x y ≡ true → x ≡ y) (sameRefl : (x : F) → o.same x x ≡ true)
      (n K : ℕ) where
    -- A turn from a state between two turns decides the figure v of that state.
    pub next_turn : (fuel : ℕ) → 6 * (n + 1) ≤ fuel → 2 ≤ K
        → (v : F) (st : State F) → Between n v st.register
        → (i : ℕ) → i < n → Fresh st i → (w : F)
        → Decides n v i w st (turn o n K fuel i w st)
    unfolding turn
    next_turn fuel l two v st b i below fresh w =
        let rest : ℕ = fuel - 6 * (n + 1) in
        let enough : fuel ≡ loops n 6 rest = omega arith in
        rw (proposing_alone i w st, enough) (by rest b)
      where
        by : (rest : ℕ) → Between n v st.register
            → Decides n v i w st (run o n K i below w st.station (loops n 6 rest) (writing turn_m 0 w) st.register)
        by rest (inl low) = low_turn o sameIs sameRefl n K i below w v st rest two fresh low
        by rest (inr high) =
            high_turn o sameIs sameRefl n K i below w v st (loops n 3 rest) 0 w st.register
            (high_m n v i st.register w (fresh.blank in_m) high) (λ a j ne. refl)

    -- The first turn decides its own proposal.
    pub first_turn : (fuel : ℕ) → 3 * (n + 1) ≤ fuel → (i : ℕ) → i < n → (v : F)
        → Decides n v i v initial (turn o n K fuel i v initial)
    unfolding turn initial
    first_turn fuel l i below v =
        let f : Registers F = initial.register in
        let Q : ℕ → F → Type 0 = λ k y. (k ≡ 0) × (y ≡ v) in
        let rest : ℕ = fuel - 3 * (n + 1) in
        let enough : fuel ≡ loops n 3 rest = omega arith in
        let blank : OnlyLow n v f =
        record { m = λ j l. tt; a = λ j l. tt; b = λ j l. tt; empty_a = λ j l. tt; empty_b = λ j l. tt } in
        let s : Sent o n K i below v initial.station Q 0 (loops n 2 rest) 0 v f =
        pass_m o n K i below v initial.station sameIs Q (loops n 2 rest) 0 v f
        (all_put n (λ e. Q) i adopt 0 v (f in_m) (refl, refl) (λ j l. tt)) i below adopt 0 v (put_same i _ (f in_m)) in
        let d : Apart i f (write in_m i (filled adopt 0 v) f) = apart_write i f f in_m _ (λ a j ne. refl) in
        rw (proposing_alone i v initial, enough, s.goes, s.fact.0, s.fact.1)
        (low_agreed o sameIs sameRefl n K i below v v initial rest _ (only_low_m n v i f v blank) d)
