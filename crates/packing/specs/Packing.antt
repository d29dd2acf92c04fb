-- Answers as numbers: the place of each part is a factor, so that the parts stand side by side in the bits.
-- Relies on the model's answers; the contracts of the calls for C rely on it.
use Rattle.std.specs.Prelude.{ℕ, zero, suc, ◌+◌, ◌*◌, ◌≤◌, Ok, Err}
use Rattle.std.specs.declared.result.Result.{Result}
use Rattle.std.proofs.Math.Option.{none, some}
use Rattle.std.specs.Int.{w32}
use Rattle.std.proofs.Common.{of_z}
use Rattle.model.specs.declared.Ran.{Ran}
use Rattle.model.specs.declared.RoundsPlayed.{RoundsPlayed}
use Rattle.model.specs.declared.Effort.{Effort}
use Rattle.model.specs.Figure.{Figure}
use Rattle.model.specs.Listing.{Answer, wrote, read, went, marked, adopted, decided, spent, refused}
use Rattle.model.specs.Filled.{Report}
use Rattle.model.specs.Calls.{Refusal, RunAnswer, ran, not_run}
use Rattle.model.specs.Rounds.{RoundsAnswer, played, not_played}
use Rattle.model.specs.Standing.{Standing, stands_idle, stands_going, stands_decided, stands_spent}
use Rattle.model.specs.Standing.{StandingAnswer, stands, not_told}

-- a figure's 32 bits of two's complement, as a number
unfoldable pub bits : Figure → ℕ
bits v = of_z w32 v

-- bits 0 to 7 the refusal's number, from 8 on the kind, from the bit of the place on the island or the flag, 32 to 63
-- the figure
unfoldable pub packed_at : (place number kind field figure : ℕ) → ℕ
packed_at place number kind field figure = number + kind * 256 + field * place + figure * 4294967296

-- 0 for an accepted call
unfoldable pub pack_verdict : Refusal → ℕ
pack_verdict none = 0
pack_verdict (some k) = k

-- of a step, bits 8 to 15 are the kind, 16 to 23 the island or the flag
abbrev pub packed : (number kind field figure : ℕ) → ℕ
packed = packed_at 65536

unfoldable pub pack_answer : Answer Figure → ℕ
pack_answer wrote = packed 0 1 0 0
pack_answer read = packed 0 2 0 0
pack_answer (went c v) = packed 0 3 c (bits v)
pack_answer (marked f v) = packed 0 4 f (bits v)
pack_answer (adopted c v) = packed 0 5 c (bits v)
pack_answer (decided c v) = packed 0 6 c (bits v)
pack_answer (spent c v) = packed 0 7 c (bits v)
pack_answer (refused k) = packed k 0 0 0

-- and 24 to 31 whether a read met a filled register, or the total of a collect that ended
unfoldable pub pack_step : Report Figure → ℕ
pack_step r = pack_answer r.did + r.met * 16777216

-- a run's counts have room in their bits
unfoldable pub Few : {E : Type 0} → Result Ran E → Type 0
Few (Ok r) = r.taken + r.passed ≤ 65536
Few (Err k) = Unit {0}

-- bits 0 to 7 the refusal's number, 8 to 31 the steps taken, 32 to 55 the steps passed over
unfoldable pub pack_run : RunAnswer → ℕ
pack_run (ran s t) = s * 256 + t * 4294967296
pack_run (not_run k) = k

-- the rounds have room in their bits; so has the number of decided stations, which is a byte
unfoldable pub FewRounds : {E : Type 0} → Result RoundsPlayed E → Type 0
FewRounds (Ok r) = r.rounds ≤ 4294967295
FewRounds (Err k) = Unit {0}

-- bits 0 to 7 the refusal's number, 0 for rounds that were played, 8 to 15 the stations decided, 16 to 47 the rounds
unfoldable pub pack_rounds : RoundsAnswer → ℕ
pack_rounds (played r d) = d * 256 + r * 65536
pack_rounds (not_played k) = k

-- of a station, bits 8 to 11 are how it stands, 12 to 19 the island
abbrev pub packed_standing : (number kind island figure : ℕ) → ℕ
packed_standing = packed_at 4096

unfoldable pub standing_part : Standing → ℕ
standing_part stands_idle = packed_standing 0 1 0 0
standing_part (stands_going c v) = packed_standing 0 2 c (bits v)
standing_part (stands_decided c v) = packed_standing 0 3 c (bits v)
standing_part (stands_spent c v) = packed_standing 0 4 c (bits v)

-- a station's steps have room in their bits
unfoldable pub FewSteps : {E : Type 0} → Result Effort E → Type 0
FewSteps (Ok e) = e.steps ≤ 4095
FewSteps (Err k) = Unit {0}

-- and 20 to 31 its steps
unfoldable pub pack_standing : StandingAnswer → ℕ
pack_standing (stands s k) = standing_part s + k * 1048576
pack_standing (not_told k) = packed_standing k 0 0 0

-- bits 0 to 31 where a word starts in its line, behind the bracket, 32 to 63 its length; 0 for no word
unfoldable pub pack_word : (len : ℕ) → ℕ
pack_word zero = 0
pack_word (suc k) = 1 + suc k * 4294967296
