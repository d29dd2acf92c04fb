-- What each case of a declared answer says: 01's kind and values, or its refusal number.
-- Relies on the declared types and the answers of the definitions; every contract of a call relies on it.
use Rattle.std.specs.Prelude.{cond, ℕ, List, [], Ok, Err, Some, None}
use Rattle.std.specs.declared.option.Option as options
use Rattle.std.specs.declared.result.Result.{Result}
use Rattle.std.proofs.Math.Option.{none, some}
use Rattle.model.specs.declared.refusal.Refusal as refusals
use Rattle.model.specs.declared.refusal.Refusal.TheVariants as why
use Rattle.model.specs.declared.StepAnswer.{StepAnswer}
use Rattle.model.specs.declared.StepAnswer.TheVariants.{Wrote, Read, Went, Marked, Adopted, Decided, Spent}
use Rattle.model.specs.declared.StepAnswer.TheVariants.{Refused}
use Rattle.model.specs.declared.Ran.{Ran}
use Rattle.model.specs.declared.RoundsPlayed.{RoundsPlayed}
use Rattle.model.specs.declared.Standing as standings
use Rattle.model.specs.declared.Standing.TheVariants as standing
use Rattle.model.specs.declared.Effort.{Effort}
use Rattle.model.specs.declared.Tap as taps
use Rattle.model.specs.declared.Tap.TheVariants as tap
use Rattle.model.specs.declared.Difference.{Difference}
use Rattle.model.specs.Figure.{Figure}
use Rattle.model.specs.Listing.{wrote, read, went, marked, adopted, decided, spent}
use Rattle.model.specs.Filled.{Report, refusal}
use Rattle.model.specs.Calls.{Refusal, RunAnswer, ran, not_run}
use Rattle.model.specs.Rounds.{RoundsAnswer, played, not_played}
use Rattle.model.specs.Standing.{Standing, stands_idle, stands_going, stands_decided, stands_spent}
use Rattle.model.specs.Standing.{StandingAnswer, stands, not_told}
use Rattle.model.specs.Show.{Shown, shown_as}
use Rattle.model.specs.Tape.{Tap, first, second, Compared, not_compared, alike, differs}

-- "Why a call is turned down": the numbers of the list there, and of those that 02 adds
abbrev pub number : refusals.Refusal → ℕ
number why.SheetTooLong = 1
number why.LineTooLong = 2
number why.BracketsTooDeep = 3
number why.NoForm = 4
number why.NoBoardLaid = 5
number why.TooManySteps = 6
number why.TooShort = 7
number why.StationsOutOfRange = 8
number why.IslandsOutOfRange = 9
number why.WrongLength = 10
number why.Unsound = 11
number why.NoStation = 12
number why.NotIdle = 13
number why.StillIdle = 14
number why.HasDecided = 15
number why.IsSpent = 16
number why.CollectUnderWay = 18
number why.UnknownRound = 19
number why.NamedTwice = 20
number why.NoTape = 21
number why.TwoStations = 22

-- "It answers with its kind and fields"; a flag is "1 adopt or 2 commit". 02: a read "reports whether it met a filled
-- one", the ends of a collect "carry the total as a last field"
unfoldable pub told : StepAnswer → Report Figure
told Wrote = record { did = wrote; met = 0 }
told (Read filled) = record { did = read; met = cond filled 1 0 }
told (Went c k v) = record { did = went c v; met = k }
told (Marked f k v) = record { did = marked f v; met = k }
told (Adopted c k v) = record { did = adopted c v; met = k }
told (Decided c k v) = record { did = decided c v; met = k }
told (Spent c k v) = record { did = spent c v; met = k }
told (Refused k) = refusal k

-- "A refusal answers its number only"
unfoldable pub verdict : Result (Unit {0}) refusals.Refusal → Refusal
verdict (Ok _) = none
verdict (Err r) = some (number r)

-- "S steps taken, T steps refused and passed over"
unfoldable pub run_told : Result Ran refusals.Refusal → RunAnswer
run_told (Ok r) = ran r.taken r.passed
run_told (Err r) = not_run (number r)

-- 02: "rounds played, and all stations that stand decided on the board at the line's end"
unfoldable pub rounds_told : Result RoundsPlayed refusals.Refusal → RoundsAnswer
rounds_told (Ok r) = played r.rounds r.decided
rounds_told (Err r) = not_played (number r)

-- how a station stands, and that with its steps or the refusal's number
unfoldable pub standing_told : standings.Standing → Standing
standing_told standing.Idle = stands_idle
standing_told (standing.Going c v) = stands_going c v
standing_told (standing.Decided c v) = stands_decided c v
standing_told (standing.Spent c v) = stands_spent c v

unfoldable pub standing_answered : Result Effort refusals.Refusal → StandingAnswer
standing_answered (Ok e) = stands (standing_told e.standing) e.steps
standing_answered (Err r) = not_told (number r)

-- "by value as 512 bytes, zeros after the line, and its length": the text of a line that is handed back; zeros alone beside a
-- refusal
unfoldable pub shown_told : Result (List ℕ) refusals.Refusal → Shown
shown_told (Ok line) = shown_as none line
shown_told (Err r) = shown_as (some (number r)) []

-- 02: which of the two tapes, "the first line number .. at which both have a line and these differ", "none"
unfoldable pub tap_told : taps.Tap → Tap
tap_told tap.First = first
tap_told tap.Second = second

unfoldable pub comparison_told : Result (options.Option Difference) refusals.Refusal → Compared
comparison_told (Ok None) = alike
comparison_told (Ok (Some d)) = differs d.line (tap_told d.tap)
comparison_told (Err r) = not_compared (number r)

-- and the place of the culprit's line on its tape, with its length; none is an empty part at the start
unfoldable pub start_told : Result (options.Option Difference) refusals.Refusal → ℕ
start_told (Ok None) = 0
start_told (Ok (Some d)) = d.start
start_told (Err r) = 0

unfoldable pub length_told : Result (options.Option Difference) refusals.Refusal → ℕ
length_told (Ok None) = 0
length_told (Ok (Some d)) = d.len
length_told (Err r) = 0
