-- Who took a step: a step fills the station's register of m, and a filled register stays filled. Relies on the
-- listing's moves and on the invariant; every run relies on it, to read off the state who took a step.
use Rattle.model.proofs.Kit.{◌≡◌, refl, sym, subst, Bool, cond, ◌&&◌, none, some, Option, ℕ, eq-eqb, eqb}
use Rattle.model.specs.Listing.{Order, adopt, Register, filled, turn_m, turn_a, turn_b, Stage, writing, reading}
use Rattle.model.specs.Listing.{has_decided, is_spent, Station, active, Array, in_m, entry, array, place_array}
use Rattle.model.specs.Listing.{place_column, stay, move}
use Rattle.model.proofs.Listing.Going.{Going}
use Rattle.model.proofs.Listing.Written.{read_writes}
use Rattle.model.proofs.Basics.Tests.{cond_case}
use Rattle.model.proofs.Agreement.State.{State, same_array, put_written, move_of, moving}
use Rattle.model.proofs.Agreement.Cells.{cells}
use Rattle.model.proofs.Listing.Collect.{Filled, entry_fills}
use Rattle.model.proofs.Agreement.Own.{Begun}
use Rattle.model.proofs.Agreement.StateCalls.{Inv}

module _ {F : Type 0} where
  -- what is written, if anything, is a filled register
  abbrev Fills : Option (Register F) → Type 0
  Fills none = Unit {0}
  Fills (some r) = Filled r

  move_fills : (o : Order F) (n K : ℕ) (s : Stage F) (r : Register F) → Fills (move o n K s r).written
  unfolding move stay
  move_fills o n K (writing t c x) r = entry_fills t c x
  move_fills o n K (reading t c x p a) r =
      subst Fills (sym (read_writes K o n t c x p a r)) tt
  move_fills o n K (has_decided c x) r = tt
  move_fills o n K (is_spent c x) r = tt

  written_filled : (a : Array) (i : ℕ) (w : Option (Register F)) (f : Array → ℕ → Register F) (b : Array) (j : ℕ)
      → Fills w → Filled (f b j) → Filled (put_written a i w f b j)
  unfolding put_written
  written_filled a i none f b j h d = d
  written_filled a i (some r) f b j h d = cond_case Filled (same_array a b && eqb i j) r (f b j) (λ _. h) (λ _. d)

  module _ (o : Order F) (n K : ℕ) where
    pub filled_stays : (i : ℕ) (v : F) (s : Stage F) (st : State F) (a : Array) (j : ℕ)
        → Filled (st.register a j) → Filled ((moving o n K i v s st).register a j)
    unfolding moving move_of
    filled_stays i v s st a j d =
        let r = st.register (place_array s) (place_column i s) in
        written_filled (place_array s) i (move o n K s r).written st.register a j (move_fills o n K s r) d

    -- any step but the first finds the register filled
    filled_again : (st : State F) (v : F) (s : Stage F) (i : ℕ) → st.station i ≡ active v s → Begun (active v s)
        → Inv n st
        → Filled ((moving o n K i v s st).register in_m i)
    unfolding cells
    filled_again st v s i is b h = filled_stays i v s st in_m i
        ((h.clauses.own i).begun (subst (λ (z : Station F). Begun z) (sym is) b))

    pub stepped_fills : {st : State F} {v : F} {s : Stage F} (i : ℕ) → st.station i ≡ active v s → Going s → Inv n st
        → Filled ((moving o n K i v s st).register in_m i)
    unfolding moving move_of move place_array array entry put_written same_array
    stepped_fills {st} {v} {s = writing turn_m c x} i is g h =
        subst (λ (t : Bool). Filled (cond t (filled adopt c x) (st.register in_m i))) (sym (eq-eqb i i refl)) tt
    stepped_fills {st} {v} {s = writing turn_a c x} i is g h = filled_again st v (writing turn_a c x) i is tt h
    stepped_fills {st} {v} {s = writing (turn_b f) c x} i is g h = filled_again st v (writing (turn_b f) c x) i is tt h
    stepped_fills {st} {v} {s = reading t c x p a} i is g h = filled_again st v (reading t c x p a) i is tt h
    stepped_fills {st} {v} {s = has_decided c x} i is g h = absurd g
    stepped_fills {st} {v} {s = is_spent c x} i is g h = absurd g
