-- What the phase of a station's record, its byte 0, says of the station.
-- Relies on the model's records and rounds; the contracts of the tests on a phase rely on it.
use Rattle.std.specs.Prelude.{◌≡◌, Bool, cond, ℕ}
use Rattle.model.specs.declared.Record.{Record}
use Rattle.model.specs.Layout.{of_phase}
use Rattle.model.specs.Rounds.{settled, is_decided}

-- r says whether a station in this phase is in the middle of no collect
unfoldable pub Settles : (phase : ℕ) (r : Bool) → Type 0
Settles h r = (f : Record) → settled (of_phase h f) ≡ r

-- r is 1 if a station in this phase stands decided, and else 0
unfoldable pub Decides : (phase r : ℕ) → Type 0
Decides h r = (f : Record) → r ≡ cond (is_decided (of_phase h f)) 1 0
