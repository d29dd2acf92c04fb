-- What one allowed call does to one station: nothing, its proposal, or its move; and to its register of m.
-- Relies on Lists; what a whole list did to a station relies on it.
use Rattle.model.proofs.Kit.{◌≡◌, sym, ap, subst, ◌∙◌, List, ℕ, suc, ◌-◌, ◌≤◌, ◌<◌, ℕ_discrete, arith}
use Rattle.model.specs.Figure.{Figure, figures}
use Rattle.model.specs.Listing.{Register, Stage, Station, idle, active, Array, in_m, proposed, place_array}
use Rattle.model.specs.Layout.{station_of}
use Rattle.model.specs.Calls.{step}
use Rattle.model.specs.AnyList.{Call, called, Proposes, Steps}
use Rattle.model.proofs.Listing.Collect.{Filled}
use Rattle.model.proofs.Listing.Going.{Going}
use Rattle.model.proofs.Agreement.Cells.{written_elsewhere}
use Rattle.model.proofs.Agreement.State.{State, put, put_same, put_other, proposing, move_of, moving}
use Rattle.model.proofs.Agreement.Steps.{stepped_fills}
use Rattle.model.proofs.Bridge.View.{view, view_station}
use Rattle.model.proofs.Bridge.Single.{StepSim}
use Rattle.model.proofs.Bridge.Lists.{Held, Change, same, takes, moves}

-- the register of m of station index j, in the state
unfoldable pub m_of : (n K j : ℕ) → List ℕ → Register Figure
m_of n K j b = (view n K b).register in_m j

pub m_of_lem : {st : State Figure} (n K j : ℕ) (b : List ℕ) → view n K b ≡ st → m_of n K j b ≡ st.register in_m j
unfolding m_of
m_of_lem n K j b e = ap (λ (s : State Figure). s.register in_m j) e

-- what became of station index j
pub data Along (n K : ℕ) (c : Call) (b : List ℕ) (j : ℕ) : Type 0 where
  stays : station_of n K j (called c b) ≡ station_of n K j b → m_of n K j (called c b) ≡ m_of n K j b → Along n K c b j
  starts : (v : Figure) → Proposes (suc j) v c b → station_of n K j b ≡ idle → station_of n K j (called c b) ≡ proposed v
      → m_of n K j (called c b) ≡ m_of n K j b → Along n K c b j
  goes : (v : Figure) (s t : Stage Figure) → Steps (suc j) c b → station_of n K j b ≡ active v s → Going s
      → station_of n K j (called c b) ≡ active v t → Filled (m_of n K j (called c b)) → Along n K c b j

-- a station's number is one more than its index
number : (i : ℕ) → 1 ≤ i → i ≡ suc (i - 1)
number i p = omega arith

-- one station's record was put into the state
module _ (n K : ℕ) (b d : List ℕ) (i : ℕ) (z : Station Figure) (g : Array → ℕ → Register Figure)
    (e : view n K d ≡ (record { station = put i z (view n K b).station; register = g })) where
  pub own_put : i < n → station_of n K i d ≡ z
  own_put h = sym (view_station n K d i h) ∙ rw e (put_same i z _)

  pub other_put : (j : ℕ) → j < n → (i ≡ j → ⊥) → station_of n K j d ≡ station_of n K j b
  other_put j h f = sym (view_station n K d j h) ∙ rw e (put_other i z _ j f) ∙ view_station n K b j h

-- where an accepted step of station number i leaves it
module _ (n K : ℕ) (b : List ℕ) (h : Held n K b) (i : ℕ) (s : StepSim n K i b (step i b)) where
  pub stands_now : station_of n K (i - 1) (step i b).bytes
      ≡ active s.proposal (move_of figures n K (i - 1) s.stage (view n K b)).stage
  unfolding moving
  stands_now = own_put n K b (step i b).bytes (i - 1) _ _ s.after s.own

  pub fills_now : Filled (m_of n K (i - 1) (step i b).bytes)
  fills_now =
      rw (m_of_lem n K (i - 1) _ s.after)
      (stepped_fills figures n K (i - 1) (view_station n K b (i - 1) s.own ∙ s.stands) s.goes h.inv)

module _ (n K : ℕ) (c : Call) (b : List ℕ) (h : Held n K b) where
  pub along : Change n K c b → (j : ℕ) → j < n → Along n K c b j
  unfolding proposing moving m_of
  along (same e) j own = stays (ap (station_of n K j) e) (ap (m_of n K j) e)
  along (takes i v p s) j own =
      let m : (k : ℕ) → m_of n K k (called c b) ≡ m_of n K k b = λ k. m_of_lem n K k (called c b) s.after in
      elim (ℕ_discrete (i - 1) j) [
        | yes e ↦ subst (Along n K c b) e (starts v (rw (number i s.positive) at p) s.rests
            (own_put n K b (called c b) (i - 1) _ _ s.after s.own) (m (i - 1)))
        | no f ↦ stays (other_put n K b (called c b) (i - 1) _ _ s.after j own f) (m j)
      ]
  along (moves i p s eb) j own =
      let t = (move_of figures n K (i - 1) s.stage (view n K b)).stage in
      elim (ℕ_discrete (i - 1) j) [
        | yes e ↦ subst (Along n K c b) e (goes s.proposal s.stage t (rw (number i s.positive) at p)
            s.stands s.goes (rw eb (stands_now n K b h i s)) (rw eb (fills_now n K b h i s)))
        | no f ↦ stays (rw eb (other_put n K b (step i b).bytes (i - 1) _ _ s.after j own f))
            (rw eb (m_of_lem n K j _ s.after ∙ written_elsewhere (place_array s.stage) (i - 1) _ _ in_m j f))
      ]
