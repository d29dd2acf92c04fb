-- Answers whose refusal is a number, whichever it is, and those whose refusal converts to one.
-- Relies on the model's answers; the contracts of the packing and of a comparison's numbers rely on it.
use Rattle.std.specs.Prelude.{ℕ, Ok, Err}
use Rattle.std.specs.declared.result.Result.{Result}
use Rattle.std.proofs.Math.Option.{none, some}
use Rattle.model.specs.declared.Ran.{Ran}
use Rattle.model.specs.declared.RoundsPlayed.{RoundsPlayed}
use Rattle.model.specs.declared.Effort.{Effort}
use Rattle.model.specs.Calls.{Refusal, RunAnswer, ran, not_run}
use Rattle.model.specs.Rounds.{RoundsAnswer, played, not_played}
use Rattle.model.specs.Standing.{StandingAnswer, stands, not_told}
use Rattle.model.specs.Told.{standing_told}

-- what holds of the answer with the number in the place of its refusal: a number that the refusal converts to
unfoldable pub Numbered : {A E : Type 0} → (converts : E → ℕ → Type 0) → Result A E → (Result A ℕ → Type 0) → Type 0
Numbered converts (Ok a) P = P (Ok a)
Numbered converts (Err e) P = (k : ℕ) × converts e k × P (Err k)

-- what the answers say, as the model's Told has it of a refusal of the list
unfoldable pub verdict_of : Result (Unit {0}) ℕ → Refusal
verdict_of (Ok _) = none
verdict_of (Err k) = some k

unfoldable pub run_of : Result Ran ℕ → RunAnswer
run_of (Ok r) = ran r.taken r.passed
run_of (Err k) = not_run k

unfoldable pub rounds_of : Result RoundsPlayed ℕ → RoundsAnswer
rounds_of (Ok r) = played r.rounds r.decided
rounds_of (Err k) = not_played k

unfoldable pub standing_of : Result Effort ℕ → StandingAnswer
standing_of (Ok e) = stands (standing_told e.standing) e.steps
standing_of (Err k) = not_told k
