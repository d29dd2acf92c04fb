-- The state of all stations and registers as functions of a station's index, and the two calls on it.
-- Relies on the listing; the invariant and the sequential run rely on it.
use Rattle.model.proofs.Kit.{◌≡◌, refl, sym, ap, Bool, true, false, cond, ◌&&◌, none, some, Option, ℕ, eqb-true}
use Rattle.model.proofs.Kit.{eq-eqb, ne_eqb, eqb}
use Rattle.model.specs.Listing.{Order, Register, empty, Station, idle, active, Stage, Array, in_m, in_a, in_b, Move}
use Rattle.model.specs.Listing.{place_array, place_column, proposed, move}
use Rattle.model.proofs.Basics.Tests.{clash}

pub record State (F : Type 0) : Type 0 where
  pub station : ℕ → Station F
  pub register : Array → ℕ → Register F

-- the function f with a at i
unfoldable pub put : {A : Type 0} → ℕ → A → (ℕ → A) → ℕ → A
put i a f j = cond (eqb i j) a (f j)

pub put_same : {A : Type 0} (i : ℕ) (a : A) (f : ℕ → A) → put i a f i ≡ a
unfolding put
put_same i a f = ap (λ (t : Bool). cond t a (f i)) (eq-eqb i i refl)

pub put_other : {A : Type 0} (i : ℕ) (a : A) (f : ℕ → A) (j : ℕ) → (i ≡ j → ⊥) → put i a f j ≡ f j
unfolding put
put_other i a f j h = ap (λ (t : Bool). cond t a (f j)) (ne_eqb i j h)

unfoldable pub same_array : Array → Array → Bool
same_array in_m in_m = true
same_array in_m (in_a k) = false
same_array in_m (in_b k) = false
same_array (in_a c) in_m = false
same_array (in_a c) (in_a k) = eqb c k
same_array (in_a c) (in_b k) = false
same_array (in_b c) in_m = false
same_array (in_b c) (in_a k) = false
same_array (in_b c) (in_b k) = eqb c k

-- the test tells equal arrays
pub array_is : (a c : Array) → same_array a c ≡ true → a ≡ c
unfolding same_array
array_is in_m in_m e = refl
array_is in_m (in_a k) e = clash (sym e)
array_is in_m (in_b k) e = clash (sym e)
array_is (in_a c) in_m e = clash (sym e)
array_is (in_a c) (in_a k) e = ap in_a (eqb-true c k e)
array_is (in_a c) (in_b k) e = clash (sym e)
array_is (in_b c) in_m e = clash (sym e)
array_is (in_b c) (in_a k) e = clash (sym e)
array_is (in_b c) (in_b k) e = ap in_b (eqb-true c k e)

pub array_self : (a : Array) → same_array a a ≡ true
unfolding same_array
array_self in_m = refl
array_self (in_a c) = eq-eqb c c refl
array_self (in_b c) = eq-eqb c c refl

module _ {F : Type 0} where
  unfoldable pub initial : State F
  initial = record { station = λ i. idle; register = λ a i. empty }

  -- the registers with the one of station i in array a as written, if it was
  unfoldable pub put_written : Array → ℕ → Option (Register F) → (Array → ℕ → Register F) → Array → ℕ → Register F
  put_written a i none f b j = f b j
  put_written a i (some r) f b j = cond (same_array a b && eqb i j) r (f b j)

  unfoldable pub proposing : ℕ → F → State F → State F
  proposing i v st = record { station = put i (proposed v) st.station; register = st.register }

  -- the listing's move of station i, which stands at stage s with proposal v, over the one register at its place
  unfoldable pub move_of : Order F → (n K i : ℕ) → Stage F → State F → Move F
  move_of o n K i s st = move o n K s (st.register (place_array s) (place_column i s))

  unfoldable pub moving : Order F → (n K i : ℕ) → F → Stage F → State F → State F
  moving o n K i v s st = record {
    station = put i (active v (move_of o n K i s st).stage) st.station;
    register = put_written (place_array s) i (move_of o n K i s st).written st.register;
  }
