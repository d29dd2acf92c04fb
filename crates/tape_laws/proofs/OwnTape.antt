-- Every accepted step is in the ranges of a tape line, and so the algorithm's own tape is read line by line.
-- Relies on what a sound board says of an accepted step's stage and counts, and on LinesRead; the claims about two
-- tapes rely on it.
use Rattle.model.proofs.Kit.{◌≡◌, refl, sym, true, List, [], ◌∷◌, ◌++◌, map, none, ℕ, ◌-◌, ◌≤◌, arith}
use Rattle.model.specs.Bytes.{Each}
use Rattle.model.specs.Figure.{Figure, figures}
use Rattle.model.specs.Listing.{Flag, adopt, commit, flag_number, Register, Stage, writing, reading, has_decided}
use Rattle.model.specs.Listing.{is_spent, active, Answer, wrote, read, went, marked, adopted, decided, spent, refused}
use Rattle.model.specs.Listing.{outcome, accepted, place_array, place_column, move}
use Rattle.model.specs.Filled.{Report, filled_in, met_with, reported, refusal}
use Rattle.model.specs.Layout.{register_of}
use Rattle.model.specs.Sound.{most_met}
use Rattle.model.specs.Calls.{After, stations, islands, board_refusal, access, step_on, step}
use Rattle.model.specs.Claims.{Tells, AnswersTell}
use Rattle.model.specs.Forms.{read_line}
use Rattle.model.specs.Sheet.{Played, play_line, lines_of}
use Rattle.model.specs.AnyList.{Call, laying, proposing, stepping, called}
use Rattle.model.specs.SheetList.{calls_of, board_of}
use Rattle.model.specs.Tape.{Entry, entry_text, is_entry, entry_of, tape_of, lines_tape, begun, sheet_tape, own_lines, taped}
use Rattle.model.proofs.Basics.Tests.{clash, cond_case}
use Rattle.model.proofs.Board.Codec.{Fits, FitsStage, FitsStation}
use Rattle.model.proofs.Board.Good.{GoodStage, GoodStation}
use Rattle.model.proofs.Board.Values.{readable, sound_counts}
use Rattle.model.proofs.Listing.Moves.{move_good, move_fits}
use Rattle.model.proofs.Listing.MostMet.{one_filled}
use Rattle.model.proofs.Calls.Refusals.{Board, board_of_lem, call_case}
use Rattle.model.proofs.Calls.CallsKeep.{station_of_fits}
use Rattle.model.proofs.Calls.Claims.{answers_tell}
use Rattle.model.proofs.Bridge.OneRecord.{at_head, own_step}
use Rattle.tape_laws.specs.TapeLines.{EndInRange, AnswerInRange, InRange, ReadsWritten, OwnTaped}
use Rattle.tape_laws.proofs.LinesRead.{reads_written}

-- ---- one step

-- what is lent to an accepted step is a sound board
accepted_on : (i : ℕ) (b : List ℕ) → accepted (step i b).answer.did ≡ true → Board b
unfolding step accepted outcome
accepted_on i b =
    call_case (λ (d : After (Report Figure)). accepted d.answer.did ≡ true → Board b) (board_refusal b none) refusal
    b (step_on i b) (λ e f. (board_of_lem b none e).0) (λ k e f. clash (sym f))

module _ (n K : ℕ) (few : n ≤ 16) (low : K ≤ 64) where
  -- an answer tells the stage that the station comes to, whose island and figure are in their ranges
  told : (a : Answer Figure) (s : Stage Figure) (here total : ℕ) → accepted a ≡ true → Tells a s → GoodStage n K s
      → FitsStage s → here ≤ 1 → total ≤ 99 → AnswerInRange a (reported a here total)
  unfolding AnswerInRange EndInRange Tells GoodStage FitsStage Fits reported accepted outcome flag_number
  told wrote s here total t h g f one most = refl
  told read s here total t h g f one most = one
  told (went c x) s here total t h g f one most =
      (omega arith, omega (arith, rw h at g), rw h at f, most)
  told (marked j x) s here total t h g f one most =
      let flag = flag_range h.0 in
      (omega (arith, h.1, flag.0), omega (arith, h.1, flag.1), rw h.3 at f, most)
    where
      flag_range : (f : Flag) → (1 ≤ flag_number f) × (flag_number f ≤ 2)
      flag_range adopt = (omega arith, omega arith)
      flag_range commit = (omega arith, omega arith)
  told (adopted c x) s here total t h g f one most =
      (omega arith, omega (arith, rw h at g), rw h at f, most)
  told (decided c x) s here total t h g f one most =
      (omega arith, omega (arith, rw h at g), rw h at f, most)
  told (spent c x) s here total t h g f one most =
      (omega arith, omega (arith, rw h at g), rw h at f, most)
  told (refused k) s here total t h g f one most = clash (sym t)

  -- a collect has met no more registers than it has read
  total_few : (v : Figure) (s : Stage Figure) (r : Register Figure) (k : ℕ) → GoodStage n K s
      → k ≤ most_met (active v s) → met_with s r k ≤ 99
  unfolding GoodStage most_met met_with
  total_few v (writing t c x) r k g h = omega arith
  total_few v (reading t c x p a) r k g h = omega (arith, g.1, one_filled r)
  total_few v (has_decided c x) r k g h = omega arith
  total_few v (is_spent c x) r k g h = omega arith

taken_in_range : (i : ℕ) (b : List ℕ) → accepted (step i b).answer.did ≡ true
    → InRange (record { station = i; report = (step i b).answer })
unfolding InRange access GoodStation FitsStation AnswersTell
taken_in_range i b t =
    let h = accepted_on i b t in
    let n = stations b in
    let K = islands b in
    let own = own_step n K i b (at_head b h) t in
    let s = own.stage in
    let r = register_of n (place_array s) (place_column (i - 1) s) b in
    let reads = readable n K b h.sound_board (i - 1) own.own own.proposal s own.station in
    let fits : FitsStation (active own.proposal s) = rw own.stands at (station_of_fits n K (i - 1) b) in
    let counts = (sound_counts n K b h.sound_board (i - 1) own.own).met in (
      omega (arith, own.own, h.shape.stations_high),
      rw own.is
          (told n K h.shape.stations_high h.shape.islands_high _ (move figures n K s r).stage (filled_in r) _
          (rw own.is at t) (answers_tell n K s r)
          (move_good n K (omega (arith, own.own)) s r own.station.good reads) (move_fits n K s r fits.1 reads)
          (one_filled r)
          (total_few n K h.shape.stations_high h.shape.islands_high own.proposal s r _ own.station.good
          (rw own.stands at counts))),
    )

-- ---- the tape

each_both : {A : Type 0} (P : A → Type 0) (xs ys : List A) → Each P xs → Each P ys → Each P (xs ++ ys)
unfolding Each
each_both P [] ys h g = g
each_both P (x ∷ xs) ys h g = (h.0, each_both P xs ys h.1 g)

entry_in_range : (c : Call) (b : List ℕ) → Each InRange (entry_of c b)
unfolding entry_of Each
entry_in_range (laying n K) b = tt
entry_in_range (proposing i v) b = tt
entry_in_range (stepping i) b =
    cond_case (Each InRange) (accepted (step i b).answer.did) (record { station = i; report = (step i b).answer } ∷ [])
    [] (λ e. (taken_in_range i b e, tt)) (λ e. tt)

tape_in_range : (cs : List Call) (b : List ℕ) → Each InRange (tape_of cs b)
unfolding tape_of Each
tape_in_range [] b = tt
tape_in_range (c ∷ cs) b =
    each_both InRange (entry_of c b) (tape_of cs (called c b)) (entry_in_range c b) (tape_in_range cs (called c b))

lines_in_range : (ls : List (List ℕ)) (p : Played) → Each InRange (lines_tape ls p)
unfolding lines_tape Each
lines_in_range [] p = tt
lines_in_range (l ∷ ls) p =
    each_both InRange (tape_of (calls_of (board_of p) (read_line l)) (board_of p)) _ (tape_in_range _ (board_of p))
    (lines_in_range ls (play_line p.laid p.memory l))

written_taped : (es : List Entry) → Each InRange es → taped (map entry_text es) ≡ true
unfolding Each taped is_entry ReadsWritten
written_taped [] h = refl
written_taped (e ∷ es) h = rw (reads_written e h.0, is_entry, written_taped es h.1)

pub own_taped : OwnTaped
unfolding OwnTaped own_lines sheet_tape
own_taped s = written_taped (sheet_tape s) (lines_in_range (lines_of s) begun)
