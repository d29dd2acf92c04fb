-- The calls: for each, the refusals in 01's order, then the answer and the bytes afterwards, from what is lent and
-- given.
-- Relies on all definitions but the shown line; every public contract is an equation with one of these.
use Rattle.std.specs.Prelude.{Bool, true, false, not, ◌&&◌, ◌||◌, cond, List, [], ◌∷◌, ℕ, ◌+◌, ◌-◌, eqb, leb, length}
use Rattle.std.proofs.Math.Option.{Option, none, some}
use Rattle.model.specs.declared.Record.{Record}
use Rattle.model.specs.Bytes.{byte, splice}
use Rattle.model.specs.Figure.{Figure, figures}
use Rattle.model.specs.Listing.{Register, Stage, writing, reading, has_decided, is_spent, Station, idle, active}
use Rattle.model.specs.Listing.{accepted, Array, place_array, place_column, proposed, Move, move}
use Rattle.model.specs.Filled.{Report, filled_in, met_with, met_kept_at, report, refusal}
use Rattle.model.specs.Layout.{board_length, register_at, record_at, fresh_board, lay_register, register_fields}
use Rattle.model.specs.Layout.{lay_record, record_fields, with_counts, register_of, fields_of, station_of}
use Rattle.model.specs.Sound.{sound}

-- What a call answers, and the bytes of the lent board as it returns.
pub record After (A : Type 0) : Type 0 where
  pub answer : A
  pub bytes : List ℕ

-- "A refusal answers its number only": the number, or none where the call is accepted.
abbrev pub Refusal : Type 0
Refusal = Option ℕ

-- refused with the number if the test fails, and else as what comes after it "in checking order"
unfoldable pub unless : Bool → ℕ → Refusal → Refusal
unless true number later = later
unless false number later = some number

-- Which n and which K are in range.
pub record Ranges : Type 0 where
  pub stations_in : ℕ → Bool
  pub islands_in : ℕ → Bool

-- From the head: "n is not 1 to 16"; "K is not 2 to 64". 02: "Saved boards of two stations still show and step as
-- before".
unfoldable pub ranges : Ranges
ranges = record { stations_in = λ n. leb 1 n && leb n 16; islands_in = λ K. leb 2 K && leb K 64 }

-- As given when laying. 02: "Laying now allows n = 1 or 3 to 16, else 8."
unfoldable pub laid_ranges : Ranges
laid_ranges = record { stations_in = λ n. eqb n 1 || (leb 3 n && leb n 16); islands_in = ranges.islands_in }

-- "7. The lent board is shorter than 8 bytes. 8. n is not 1 to 16. 9. K is not 2 to 64. 10. The board's length does not
-- match n and K.", 8 and 9 for the ranges that are asked for
unfoldable pub shape_refusal : Ranges → (n K : ℕ) → List ℕ → Refusal → Refusal
shape_refusal asked n K b later =
    unless (leb 8 (length b)) 7
    (unless (asked.stations_in n) 8 (unless (asked.islands_in K) 9
    (unless (eqb (length b) (board_length n K)) 10 later)))

-- n and K "from the head"
unfoldable pub stations : List ℕ → ℕ
stations b = byte b 0

unfoldable pub islands : List ℕ → ℕ
islands b = byte b 1

-- 7 to 10, then "11. The board is not sound."
unfoldable pub board_refusal : List ℕ → Refusal → Refusal
board_refusal b later =
    shape_refusal ranges (stations b) (islands b) b (unless (sound (stations b) (islands b) b) 11 later)

-- "12. The station number is 0 or above n."
unfoldable pub station_refusal : (i : ℕ) → List ℕ → Refusal → Refusal
station_refusal i b later = unless (leb 1 i && leb i (stations b)) 12 later

-- the record of station number i, "numbered from 1"
unfoldable pub station_at : ℕ → List ℕ → Station Figure
station_at i b = station_of (stations b) (islands b) (i - 1) b

-- and the steps that it says the station has taken
unfoldable pub steps_taken : (i : ℕ) → List ℕ → ℕ
steps_taken i b = (fields_of (stations b) (islands b) (i - 1) b).steps

-- and the filled registers that its collect has met so far
unfoldable pub met_so_far : (i : ℕ) → List ℕ → ℕ
met_so_far i b = (fields_of (stations b) (islands b) (i - 1) b).met

-- an accepted call's answer and bytes; "a refusal .. changes no byte"
unfoldable pub unless_refused : {A : Type 0} → Refusal → (ℕ → A) → List ℕ → After A → After A
unless_refused none turnDown b ok = ok
unless_refused (some k) turnDown b ok = record { answer = turnDown k; bytes = b }

-- "lays a fresh board"; "n and K as given when laying", soundness "not tested when laying"
unfoldable pub lay : (n K : ℕ) → List ℕ → After Refusal
lay n K b = unless_refused (shape_refusal laid_ranges n K b none) some b (record { answer = none; bytes = fresh_board n K })

-- The two ways in which an accepted call changes bytes: the record of station index j, and the one register written.
unfoldable pub put_record : (n K j : ℕ) → Record → List ℕ → List ℕ
put_record n K j f b = splice (record_at n K j) (lay_record f) b

unfoldable pub put_register : (n : ℕ) → Array → (j : ℕ) → Option (Register Figure) → List ℕ → List ℕ
put_register n a j none b = b
put_register n a j (some r) b = splice (register_at n a j) (lay_register (register_fields r)) b

-- 02: "It refuses between 12 and 13: 22, a proposal on a two-station board."
unfoldable pub two_refusal : List ℕ → Refusal → Refusal
two_refusal b later = unless (not (eqb (stations b) 2)) 22 later

-- "13. The station that proposes is not idle."
unfoldable pub not_idle : Station Figure → Refusal
not_idle idle = none
not_idle (active v s) = some 13

-- a proposal of the station with index j; its steps are counted from here, and it has met nothing
abbrev pub put_proposal : (n K j : ℕ) → Figure → List ℕ → List ℕ
put_proposal n K j v b = put_record n K j (record_fields (proposed v) (with_counts 0 0 (fields_of n K j b))) b

-- what a sound board refuses of a proposal of station number i: 12, then 22, then 13
abbrev pub proposal_refusal : (i : ℕ) → List ℕ → Refusal
proposal_refusal i b = station_refusal i b (two_refusal b (not_idle (station_at i b)))

-- "A proposal sets an idle station to phase 1", after the board's refusals, 12, 22 and 13.
unfoldable pub propose : (i : ℕ) → Figure → List ℕ → After Refusal
propose i v b =
    unless_refused (board_refusal b (proposal_refusal i b)) some b
    (record { answer = none; bytes = put_proposal (stations b) (islands b) (i - 1) v b })

-- "14. The station to step is idle. 15. The station to step has decided. 16. The station to step is spent."
unfoldable pub not_going : Station Figure → Refusal
not_going idle = some 14
not_going (active v (writing t c x)) = none
not_going (active v (reading t c x p a)) = none
not_going (active v (has_decided c x)) = some 15
not_going (active v (is_spent c x)) = some 16

-- how many filled registers the collect of the station with index j and stage s has met once it has accessed r
abbrev pub met_after : (n K j : ℕ) → Stage Figure → Register Figure → List ℕ → ℕ
met_after n K j s r b = met_with s r (fields_of n K j b).met

-- the record of station index j, with proposal v, that an accepted step brings to stage s: "the station's own accepted
-- steps since its proposal" are one more, and its collect has met k filled registers, if it still goes on
abbrev pub stepped_record : (n K j : ℕ) → Figure → Stage Figure → (k : ℕ) → List ℕ → Record
stepped_record n K j v s k b =
    let f = fields_of n K j b in record_fields (active v s) (with_counts (f.steps + 1) (met_kept_at s k) f)

-- what a move m of the station with index j, proposal v and stage s, which accesses the register r, answers and leaves
abbrev pub put_move : (n K j : ℕ) → Figure → Stage Figure → Register Figure → Move Figure → List ℕ
    → After (Report Figure)
put_move n K j v s r m b = record {
  answer = report m.answer (filled_in r) (met_after n K j s r b);
  bytes =
      put_record n K j (stepped_record n K j v m.stage (met_after n K j s r b) b)
      (put_register n (place_array s) j m.written b);
}

-- "Each step moves one station on by a single register and touches no other station's record." An accepted step of the
-- station with index j, proposal v and stage s: the listing's move over the one register at the stage's place.
unfoldable pub access : (n K j : ℕ) → Figure → Stage Figure → List ℕ → After (Report Figure)
access n K j v s b =
    let r = register_of n (place_array s) (place_column j s) b in put_move n K j v s r (move figures n K s r) b

-- the same by the station's record
unfoldable pub stepped : (n K j : ℕ) → Station Figure → List ℕ → After (Report Figure)
stepped n K j idle b = record { answer = refusal 14; bytes = b }
stepped n K j (active v s) b = access n K j v s b

-- a step on a board that is known to be sound
unfoldable pub step_on : (i : ℕ) → List ℕ → After (Report Figure)
step_on i b =
    unless_refused (station_refusal i b (not_going (station_at i b))) refusal b
    (stepped (stations b) (islands b) (i - 1) (station_at i b) b)

-- and on any lent bytes
unfoldable pub step : (i : ℕ) → List ℕ → After (Report Figure)
step i b = unless_refused (board_refusal b none) refusal b (step_on i b)

-- "S steps taken, T steps refused and passed over"
pub data RunAnswer : Type 0 where
  ran : (taken passed : ℕ) → RunAnswer
  not_run : (number : ℕ) → RunAnswer

-- After s steps taken and t passed over, the stations of a list in turn, each lent "the board exactly as the call
-- before left it"; `one` is how each is stepped.
unfoldable pub ran_from : (one : ℕ → List ℕ → After (Report Figure)) → (s t : ℕ) → List ℕ → List ℕ → After RunAnswer
ran_from one s t [] b = record { answer = ran s t; bytes = b }
ran_from one s t (i ∷ is) b =
    let r = one i b in
    cond (accepted r.answer.did) (ran_from one (s + 1) t is r.bytes) (ran_from one s (t + 1) is r.bytes)

-- "6. The items expand to more than 65,536 steps.", then the board's own refusals
unfoldable pub run : (is : List ℕ) → List ℕ → After RunAnswer
run is b = unless_refused (unless (leb (length is) 65536) 6 (board_refusal b none)) not_run b (ran_from step 0 0 is b)
