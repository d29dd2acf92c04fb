-- A step of a going station on a sound board is one access.
-- Relies on Refusals; the bridge to states and the code's step rely on it.
use Rattle.model.proofs.Kit.{◌≡◌, refl, ap, ◌∙◌, List, none, ℕ, ◌-◌}
use Rattle.model.specs.Figure.{Figure}
use Rattle.model.specs.Listing.{Stage, writing, reading, has_decided, is_spent, Station, active}
use Rattle.model.specs.Filled.{refusal}
use Rattle.model.specs.Calls.{Refusal, stations, islands, station_at, unless_refused, not_going, access, stepped}
use Rattle.model.specs.Calls.{step_on}
use Rattle.model.proofs.Listing.Going.{Going}
use Rattle.model.proofs.Calls.Refusals.{OnBoard, station_passes}

not_refused : (v : Figure) (s : Stage Figure) → Going s → not_going (active v s) ≡ none
unfolding not_going
not_refused v (writing t c x) h = refl
not_refused v (reading t c x p a) h = refl
not_refused v (has_decided c x) h = absurd h
not_refused v (is_spent c x) h = absurd h

pub step_on_access : (i : ℕ) (b : List ℕ) → OnBoard i b → (v : Figure) (s : Stage Figure) → station_at i b ≡ active v s
    → Going s
    → step_on i b ≡ access (stations b) (islands b) (i - 1) v s b
unfolding step_on unless_refused stepped
step_on_access i b on v s e g =
    ap (λ (r : Refusal). unless_refused r refusal b (stepped (stations b) (islands b) (i - 1) (station_at i b) b))
    (station_passes i b on (not_going (station_at i b)) ∙ ap not_going e ∙ not_refused v s g)
    ∙ ap (λ (z : Station Figure). stepped (stations b) (islands b) (i - 1) z b) e
