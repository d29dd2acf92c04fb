-- A station's turn on bytes is its turn on the state: the proposal, and steps until it decides.
-- Relies on Single and the sequential run's definitions; the order that demand 3 asks for relies on it.
use Rattle.model.proofs.Kit.{◌≡◌, refl, ap, Bool, true, false, cond, List, none, ℕ, zero, suc, ◌-◌, ◌≤◌, ◌<◌}
use Rattle.model.specs.Figure.{Figure, figures}
use Rattle.model.specs.Listing.{Stage, writing, reading, has_decided, is_spent, Station, idle, active, Answer}
use Rattle.model.specs.Listing.{decided, refused, outcome, move, stay}
use Rattle.model.specs.Filled.{Report}
use Rattle.model.specs.Layout.{station_of}
use Rattle.model.specs.Calls.{After, Refusal, station_at, propose, step}
use Rattle.model.specs.AnyList.{ends, until}
use Rattle.model.proofs.Basics.Tests.{impossible}
use Rattle.model.proofs.Listing.Going.{Going}
use Rattle.model.proofs.Calls.Refusals.{proposal_passes}
use Rattle.model.proofs.Calls.Proposals.{accepts}
use Rattle.model.proofs.Agreement.State.{State, move_of}
use Rattle.model.proofs.Sequential.Turns.{Ended, go_on, step_once, step_until}
use Rattle.model.proofs.Bridge.View.{view, view_station}
use Rattle.model.proofs.Bridge.Single.{Ready, step_ready, on_board_lem, step_at}

-- the run of a station on bytes that ended as the one on the state did
pub record Ends (n K : ℕ) (e : Ended Figure) (d : After (Report Figure)) : Type 0 where
  pub ready : Ready n K d.bytes
  pub says : d.answer.did ≡ e.answer
  pub leaves : view n K d.bytes ≡ e.state

not_decided : {X : Type 0} {j k : ℕ} {x : Figure} → refused j ≡ decided k x → X
not_decided e = impossible (cc)

choose : (n K : ℕ) (t : Bool) (d f : After (Report Figure)) (g h : Ended Figure) (a : Answer Figure) → Ends n K g d
    → (h.answer ≡ a → Ends n K h f) → (cond t g h).answer ≡ a → Ends n K (cond t g h) (elim t [ true ↦ d | false ↦ f ])
choose n K true d f g h a x y e = x
choose n K false d f g h a x y e = y e

module _ (n K : ℕ) (i : ℕ) (positive : 1 ≤ i) (own : i - 1 < n) where
  -- an idle station's proposal is taken, if the board is not of two stations
  pub proposes : (v : Figure) (b : List ℕ) → Ready n K b → (n ≡ 2 → ⊥) → station_of n K (i - 1) b ≡ idle
      → (propose i v b).answer ≡ none
  unfolding station_at
  proposes v b r not_two e =
      ap (λ (a : After Refusal). a.answer) (accepts i v b r.board (proposal_passes i b (record {
        on = on_board_lem n K i b r positive own;
        not_two = rw r.is_n not_two;
        rests = rw (r.is_n, r.is_k) e;
      })))

  -- what is to be shown of a run from the board b that ended so on the state
  abbrev Follows : ℕ → Ended Figure → List ℕ → Type 0
  Follows fuel e b = (k : ℕ) (x : Figure) → e.answer ≡ decided k x → Ends n K e (until fuel i b)

  abbrev on_state : ℕ → State Figure → Ended Figure
  on_state fuel = step_until figures n K fuel (i - 1)

  module _ (fuel : ℕ) (again : (d : List ℕ) → Ready n K d → Follows fuel (on_state fuel (view n K d)) d)
      (b : List ℕ) (r : Ready n K b) where
    -- one step of a going station, and then the rest
    stepping : (v : Figure) (s : Stage Figure) → station_of n K (i - 1) b ≡ active v s → Going s
        → Follows (suc fuel) (step_once figures n K (i - 1) (active v s) (view n K b) (on_state fuel)) b
    unfolding until step_once go_on
    stepping v s e g k x =
        let q = step_at n K i b r positive own v s e g in
        rw (← q.0, ← q.1)
        (choose n K (ends (step i b).answer.did) (step i b) (until fuel i (step i b).bytes) _ _ (decided k x)
        (record { ready = step_ready n K i b r; says = refl; leaves = refl })
        (again (step i b).bytes (step_ready n K i b r) k x))

    by_station_lem : (z : Station Figure) → station_of n K (i - 1) b ≡ z
        → Follows (suc fuel) (step_once figures n K (i - 1) z (view n K b) (on_state fuel)) b
    unfolding step_once go_on move_of move stay ends outcome
    by_station_lem idle e = λ k x a. not_decided a
    by_station_lem (active v (writing t c y)) e = stepping v (writing t c y) e tt
    by_station_lem (active v (reading t c y p s)) e = stepping v (reading t c y p s) e tt
    by_station_lem (active v (has_decided c y)) e = λ k x a. not_decided a
    by_station_lem (active v (is_spent c y)) e = λ k x a. not_decided a

  pub until_sim : (fuel : ℕ) (b : List ℕ) → Ready n K b → Follows fuel (on_state fuel (view n K b)) b
  unfolding step_until
  until_sim zero b r = λ k x a. not_decided a
  until_sim (suc fuel) b r = rw (view_station n K b (i - 1) own) (by_station_lem fuel (until_sim fuel) b r _ refl)
