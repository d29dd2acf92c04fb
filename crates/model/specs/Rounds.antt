-- 02, One, "Halts by the round": a call that plays rounds, each spelled out as its single steps.
-- Relies on the calls; the sheet's form `rounds`, the public call and the whole-step law rely on it.
use Rattle.std.specs.Prelude.{Bool, true, false, ◌&&◌, cond, List, [], ◌∷◌, ◌++◌, ℕ, zero, suc, ◌+◌, leb, ltb, length}
use Rattle.std.specs.Prelude.{replicate}
use Rattle.std.proofs.Math.Option.{none}
use Rattle.model.specs.Bytes.{every, count, names, ended_by}
use Rattle.model.specs.Figure.{Figure}
use Rattle.model.specs.Listing.{writing, reading, has_decided, is_spent, Station, idle, active}
use Rattle.model.specs.Layout.{station_of}
use Rattle.model.specs.Sound.{while_reading}
use Rattle.model.specs.Calls.{After, Refusal, unless, unless_refused, stations, islands, board_refusal, step}
use Rattle.model.specs.Calls.{ran_from}

-- ---- which steps a round is

-- the stations 1 to i that are not suspended, in station order, each for so many single steps
unfoldable pub in_turn : (steps i : ℕ) → (suspended : ℕ → Bool) → List ℕ
in_turn steps zero suspended = []
in_turn steps (suc i) suspended = in_turn steps i suspended ++ cond (suspended (suc i)) [] (replicate steps (suc i))

-- "every other going station takes one whole step, a write and its collect, in station order": on a board that passes
-- 18 the write and its collect are n + 1 single steps, and the steps of a station that is not going are refused
-- (specs/WholeSteps.antt)
unfoldable pub round_steps : (n : ℕ) → (round : List ℕ) → List ℕ
round_steps n r = in_turn (n + 1) n (λ i. names i r)

-- "each round spelled out as its single steps"
unfoldable pub rounds_steps : (n : ℕ) → List (List ℕ) → List ℕ
rounds_steps n [] = []
rounds_steps n (r ∷ rs) = round_steps n r ++ rounds_steps n rs

-- ---- its refusals

-- "18, a going station stands in phase 2, 4 or 6": the station is in the middle of no collect
unfoldable pub settled : Station Figure → Bool
settled s = while_reading (λ t c x p a. false) s

unfoldable pub all_settled : List ℕ → Bool
all_settled b = every (stations b) λ j. settled (station_of (stations b) (islands b) j b)

-- The stations of a round rise strictly, the first is above `low` and none is "above n".
unfoldable pub rising : (low n : ℕ) → List ℕ → Bool
rising low n [] = true
rising low n (i ∷ is) = ltb low i && leb i n && rising i n is

-- "19, a round names more than k stations, station 0, one above n, or one out of rising order"
unfoldable pub round_known : (n k : ℕ) → List ℕ → Bool
round_known n k r = leb (length r) k && rising 0 n r

unfoldable pub rounds_known : (n k : ℕ) → List (List ℕ) → Bool
rounds_known n k [] = true
rounds_known n k (r ∷ rs) = round_known n k r && rounds_known n k rs

-- "It refuses, after 6 and the board's own refusals: 18 .. 19 .."; every round is tested before any is played
unfoldable pub rounds_refusal : (k : ℕ) → List (List ℕ) → List ℕ → Refusal
rounds_refusal k rs b =
    board_refusal b (unless (all_settled b) 18 (unless (rounds_known (stations b) k rs) 19 none))

-- ---- the call

-- "rounds played, and all stations that stand decided on the board at the line's end"
pub data RoundsAnswer : Type 0 where
  played : (rounds decided : ℕ) → RoundsAnswer
  not_played : (number : ℕ) → RoundsAnswer

unfoldable pub is_decided : Station Figure → Bool
is_decided idle = false
is_decided (active v (writing t c x)) = false
is_decided (active v (reading t c x p a)) = false
is_decided (active v (has_decided c x)) = true
is_decided (active v (is_spent c x)) = false

unfoldable pub decided_on : List ℕ → ℕ
decided_on b = count (stations b) λ j. is_decided (station_of (stations b) (islands b) j b)

-- the board d that the rounds leave, and what is answered of it
unfoldable pub played_to : (rounds : ℕ) → List ℕ → After RoundsAnswer
played_to r d = record { answer = played r (decided_on d); bytes = d }

unfoldable pub rounds : (k : ℕ) → List (List ℕ) → List ℕ → After RoundsAnswer
rounds k rs b =
    unless_refused (rounds_refusal k rs b) not_played b
    (played_to (length rs) (ran_from step 0 0 (rounds_steps (stations b) rs) b).bytes)

-- The rounds as a library caller lends them, in one list of bytes: a round's station numbers in order, and 255 at its
-- end, which is no station's number. Any bytes are rounds.
unfoldable pub round_end : ℕ
round_end = 255

unfoldable pub lent_rounds : List ℕ → List (List ℕ)
lent_rounds named = ended_by round_end named
