-- Where the station with a number stands on a sound board.
-- Relies on the model's calls; the contract of place relies on it, and with it every call that names a station.
use Rattle.std.specs.Prelude.{◌≡◌, List, ℕ, ◌+◌, ◌-◌, ◌≤◌, ◌<◌, length, get_or, Ok, Err}
use Rattle.std.proofs.Math.Option.{some}
use Rattle.std.specs.declared.result.Result.{Result}
use Rattle.model.specs.declared.refusal.Refusal as refusals
use Rattle.model.specs.declared.refusal.Refusal.TheVariants.{NoStation}
use Rattle.model.specs.Layout.{board_length, record_at}
use Rattle.model.specs.Calls.{Refusal, station_refusal}
use Rattle.soundness.specs.declared.place.Place.{Place}

-- Station number i of the board b has the index j and its record at `at`; with what the head says.
pub record On (i : ℕ) (b : List ℕ) (j at : ℕ) : Type 0 where
  pub low : 1 ≤ i
  pub high : i ≤ get_or b 0 0
  pub index : j ≡ i - 1
  pub own : j < get_or b 0 0
  pub stations : get_or b 0 0 ≤ 16
  pub islands : get_or b 1 0 ≤ 64
  pub len : length b ≡ board_length (get_or b 0 0) (get_or b 1 0)
  pub place : at ≡ record_at (get_or b 0 0) (get_or b 1 0) j
  pub inside : at + 24 ≤ length b

-- that, or refusal 12, whatever is asked later
unfoldable pub Placed : (i : ℕ) → List ℕ → Result Place refusals.Refusal → Type 0
Placed i b (Ok p) = On i b p.index p.at
Placed i b (Err r) = (r ≡ NoStation) × ((later : Refusal) → station_refusal i b later ≡ some 12)
