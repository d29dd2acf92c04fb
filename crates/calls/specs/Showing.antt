-- What the inner functions of `show` promise: the line up to some station.
-- Relies on the model's shown line; the loop over the stations relies on it.
use Rattle.std.specs.Prelude.{List, ◌++◌, ℕ}
use Rattle.model.specs.Calls.{stations, islands}
use Rattle.model.specs.Show.{text, statuses}

-- the opening word and the first k stations
unfoldable pub open_to : (k : ℕ) → List ℕ → List ℕ
open_to k b = text "(stations" ++ statuses k (stations b) (islands b) b
