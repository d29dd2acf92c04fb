-- How one station stands: what `(show)` says of it, as a value, and the call that tells it of one station, with the
-- steps that the station has taken.
-- Relies on the calls' refusals; the shown line and the public call `standing` rely on it.
use Rattle.std.specs.Prelude.{List, ℕ}
use Rattle.std.proofs.Math.Option.{none, some}
use Rattle.model.specs.Figure.{Figure}
use Rattle.model.specs.Listing.{writing, reading, has_decided, is_spent, Station, idle, active}
use Rattle.model.specs.Calls.{board_refusal, station_refusal, station_at, steps_taken}

-- "`(i idle)`, `(i going c v)`, `(i decided c v)` or `(i spent c v)`, v the carried figure"
pub data Standing : Type 0 where
  stands_idle : Standing
  stands_going stands_decided stands_spent : (c : ℕ) → Figure → Standing

-- "phases 1 to 6 are going"
unfoldable pub standing_of : Station Figure → Standing
standing_of idle = stands_idle
standing_of (active v (writing t c x)) = stands_going c x
standing_of (active v (reading t c x p a)) = stands_going c x
standing_of (active v (has_decided c x)) = stands_decided c x
standing_of (active v (is_spent c x)) = stands_spent c x

-- How the station stands and its steps, or the refusal's number.
pub data StandingAnswer : Type 0 where
  stands : Standing → (steps : ℕ) → StandingAnswer
  not_told : (number : ℕ) → StandingAnswer

-- after the board's refusals and 12, how station number i stands and, as "planners read effort", its own accepted steps
-- since its proposal; the call is lent the board to read only
unfoldable pub standing : (i : ℕ) → List ℕ → StandingAnswer
standing i b =
    elim (board_refusal b (station_refusal i b none)) [
      | none ↦ stands (standing_of (station_at i b)) (steps_taken i b)
      | some k ↦ not_told k
    ]
