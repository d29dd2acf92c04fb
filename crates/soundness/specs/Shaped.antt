-- What the function of a board's shape promises.
-- Relies on the model's calls; the contract of shape relies on it.
use Rattle.std.specs.Prelude.{◌≡◌, Bool, List, ℕ}
use Rattle.std.proofs.Math.Option.{none}
use Rattle.std.specs.declared.result.Result.{Result}
use Rattle.model.specs.declared.refusal.Refusal as refusals
use Rattle.model.specs.Calls.{Ranges, shape_refusal}
use Rattle.model.specs.Told.{verdict}

-- Refusals 7 to 10 for every caller's ranges, told only whether n and K are in them.
unfoldable pub Shaped : (n K : ℕ) (stations islands : Bool) → List ℕ → Result (Unit {0}) refusals.Refusal → Type 0
Shaped n K stations islands b r =
    (asked : Ranges) → stations ≡ asked.stations_in n → islands ≡ asked.islands_in K
    → verdict r ≡ shape_refusal asked n K b none
