-- What the steps of a sound board promise: where a station goes on, and the steps where no answer is asked.
-- Relies on the model's calls and on the place of a station; the contracts of the steps of one station and of a run rely
-- on it.
use Rattle.std.specs.Prelude.{◌≡◌, List, ℕ, ◌≤◌, length, get_or, Ok, Err}
use Rattle.std.specs.declared.result.Result.{Result}
use Rattle.model.specs.declared.refusal.Refusal as refusals
use Rattle.model.specs.declared.StepAnswer.TheVariants.{Refused}
use Rattle.model.specs.Calls.{step_on}
use Rattle.model.specs.Runs.{taken, answers, after}
use Rattle.model.specs.Told.{number}
use Rattle.soundness.specs.declared.place.Place.{Place}
use Rattle.soundness.specs.Placed.{On}
use Rattle.accessing.specs.Accessed.{StepsOn}

-- Station number i of the board b has its record at p, in a phase in which it goes on.
pub record Going (i : ℕ) (b : List ℕ) (p : Place) : Type 0 where
  pub on : On i b p.index p.at
  pub low : 1 ≤ get_or b p.at 0
  pub high : get_or b p.at 0 ≤ 6

-- that, or the refusal of its step
unfoldable pub Goes : (i : ℕ) → List ℕ → Result Place refusals.Refusal → Type 0
Goes i b (Ok p) = Going i b p
Goes i b (Err r) = StepsOn i b (Refused (number r)) b

-- the steps r taken by the stations `is` one after another on a sound board b, and the bytes d afterwards
unfoldable pub RunsOn : (is b : List ℕ) (r : ℕ) (d : List ℕ) → Type 0
RunsOn is b r d = (r ≡ taken (answers step_on b is)) × (r ≤ length is) × (d ≡ after step_on b is)
