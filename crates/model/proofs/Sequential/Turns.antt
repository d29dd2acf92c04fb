-- One station stepped until it ends, its turn, and the sequential run: each of a list proposes and ends before the
-- next. Definitions only, over the state and its two calls; the theorem on the sequential order states them.
use Rattle.model.proofs.Kit.{cond, List, [], ◌∷◌, ℕ, zero, suc}
use Rattle.model.specs.Listing.{Order, Station, idle, active, Answer, refused}
use Rattle.model.specs.AnyList.{ends}
use Rattle.model.proofs.Agreement.State.{State, proposing, move_of, moving}

-- where a run of steps left the state, and the answer that ended it
pub record Ended (F : Type 0) : Type 0 where
  pub state : State F
  pub answer : Answer F

module _ {F : Type 0} where
  -- after a step that answered so: decided, spent and a refusal end the run, and any other answer lets it go on
  unfoldable pub go_on : State F → Answer F → (State F → Ended F) → Ended F
  go_on st a again = cond (ends a) (record { state = st; answer = a }) (again st)

  module _ (o : Order F) (n K : ℕ) where
    -- one step of station i with the record r, and then what comes after it
    unfoldable pub step_once : (i : ℕ) (r : Station F) → State F → (State F → Ended F) → Ended F
    step_once i idle st again = record { state = st; answer = refused 14 }
    step_once i (active v s) st again = go_on (moving o n K i v s st) (move_of o n K i s st).answer again

    -- Station i steps until an answer ends it. A run that is out of fuel ends with 0, the number of no refusal.
    unfoldable pub step_until : (fuel i : ℕ) → State F → Ended F
    step_until zero i st = record { state = st; answer = refused 0 }
    step_until (suc fuel) i st = step_once i (st.station i) st (λ t. step_until fuel i t)

    -- station i proposes v and steps until it ends
    unfoldable pub turn : (fuel i : ℕ) → F → State F → Ended F
    turn fuel i v st = step_until fuel i (proposing i v st)

    -- Stations with their proposals take their turns, each from the state that the one before left: their answers.
    unfoldable pub answers : (fuel : ℕ) → List (ℕ × F) → State F → List (Answer F)
    answers fuel [] st = []
    answers fuel (p ∷ rest) st =
        let e : Ended F = turn fuel p.0 p.1 st in
        e.answer ∷ answers fuel rest e.state
