-- A line of steps and a line of rounds on a lent board: what is taped at each return.
-- Relies on steps and their entries, on where items and rounds stand in a line and on what refuses them; the proofs of
-- `steps_on` and `rounds_on` rely on it.
use Rattle.model.proofs.Kit.{◌≡◌, refl, sym, ap, subst, ◌∙◌, true, false, List, [], map, none, some, Option, ℕ, ◌+◌, ◌≤◌, ◌<◌}
use Rattle.model.proofs.Kit.{le-leb, lt-leb, length, arith}
use Rattle.std.specs.Prelude.{Ok, Err, is_err}
use Rattle.std.specs.declared.result.Result.{Result}
use Rattle.model.specs.declared.refusal.Refusal.{Refusal}
use Rattle.model.specs.Calls.{board_refusal, stations}
use Rattle.model.specs.Rounds.{rounds_refusal, rounds_steps}
use Rattle.model.specs.Forms.{Items, expand, reads, read_line}
use Rattle.model.specs.Forms as forms
use Rattle.model.specs.AnyList.{Call, stepping, after}
use Rattle.model.specs.SheetList.{form_calls, calls_of}
use Rattle.model.specs.Tape.{tape_of}
use Rattle.model.specs.Told.{number, verdict}
use Rattle.model.proofs.Basics.Tests.{clash}
use Rattle.model.proofs.Calls.Refusals.{board_of_lem}
use Rattle.model.proofs.Sheet.PlayedLines.{steps_refused}
use Rattle.lexer.specs.declared.At.{At}
use Rattle.lexer.specs.Known.{KnownIs}
use Rattle.rounds.specs.Asked.{Refuses}
use Rattle.rounds.proofs.Laws.Rounds.{passed_sound}
use Rattle.item_walks.specs.ItemWalks.{PartDone}
use Rattle.line_run.specs.LineRuns.{LineCounts}
use Rattle.line_run.proofs.Laws.Counting.{counted, its_items, items_there}
use Rattle.line_rounds.specs.LineRounds.{LineHas}
use Rattle.line_rounds.proofs.Laws.WholeLine.{its, summed, rounds_there, number_stands, number_inside, rounds_stand}
use Rattle.taping.specs.declared.Taped.{Taped}
use Rattle.taping.specs.Taping.{Taping, taping, taped_steps, Ready}
use Rattle.taped_items.specs.TapedItems.{TapedFrom, ItemsTape}
use Rattle.taped_rounds.specs.TapedRounds.{RoundsTape}
use Rattle.taped_line.specs.TapedLines.{entries_taped, window, Room, CallsTaped, LineCallsTaped}
use Rattle.taped_line.proofs.Laws.Lines.{StepsOnly, only_steps, only_rounds}
use Rattle.taped_line.proofs.Laws.Entries.{blank, steps_entries, steps_board, steps_untaped}

-- ---- what was tested first, as the code finds it

turned_down : (w : Result (Unit {0}) Refusal) → is_err w ≡ true → (j : ℕ) × (verdict w ≡ some j)
unfolding verdict
turned_down (Ok x) e = clash (sym e)
turned_down (Err r) e = (number r, refl)

passes : (w : Result (Unit {0}) Refusal) → is_err w ≡ false → verdict w ≡ none
unfolding verdict
passes (Ok x) e = refl
passes (Err r) e = clash e

pub board_sound : (b : List ℕ) (w : Result (Unit {0}) Refusal) → verdict w ≡ board_refusal b none → is_err w ≡ false
    → board_refusal b none ≡ none
board_sound b w v e = sym v ∙ passes w e

pub rounds_sound : (needs : ℕ) (b : List ℕ) (w : Result (Unit {0}) Refusal) → Refuses needs b w → is_err w ≡ false
    → board_refusal b none ≡ none
rounds_sound needs b (Ok x) h e = passed_sound needs b x h
rounds_sound needs b (Err r) h e = clash e

pub ready : (b out : List ℕ) (t : Taped) → Room out t → board_refusal b none ≡ none → Ready (taping b out t)
unfolding Room
ready b out t room sound = record { sound = sound; fits = room }

-- ---- single calls

module _ (b out : List ℕ) (t : Taped) where
  -- no entry and no change
  idle_calls : (cs : List Call) → tape_of cs b ≡ [] → after cs b ≡ b → CallsTaped cs b out t t b out
  unfolding entries_taped
  idle_calls cs e a =
      record { taped = sym (ap (λ es. entries_taped es (window out t)) e); board = λ l. sym a }

  no_calls : CallsTaped [] b out t t b out
  no_calls = idle_calls [] (unfold tape_of in refl) (unfold after in refl)

  -- steps of a sound board
  steps_calls : board_refusal b none ≡ none → (is : List ℕ) (r : Taped) (d o : List ℕ)
      → taping d o r ≡ taped_steps is (taping b out t) → CallsTaped (map stepping is) b out t r d o
  steps_calls sound is r d o e =
      let board = (board_of_lem b none sound).0 in
      record {
        taped = ap blank e ∙ steps_entries is (taping b out t) board;
        board = λ l. ap (λ (s : Taping). s.board) e
            ∙ steps_board is (taping b out t) board (subst (λ (s : Taping). 1 ≤ s.room) e l);
      }

-- ---- a line of steps

module _ (line : List ℕ) (at c : ℕ) (counts : LineCounts line at c) (b out : List ℕ) (t : Taped) where
  items : Items
  items = (its_items line at c counts).0

  read : read_line line ≡ reads (forms.steps items)
  unfolding items
  read = (its_items line at c counts).1

  count_is : (n : ℕ) → n ≡ length (expand items) → (65536 < c → 65536 < n) × (c ≤ 65536 → n ≤ 65536)
  unfolding items
  count_is n e =
      let w = (counted line at c counts items read).1 in
      (λ h. omega arith, λ h. omega arith)

  as_calls : (cs : List Call) (r : Taped) (d o : List ℕ) → calls_of b (reads (forms.steps items)) ≡ cs
      → CallsTaped cs b out t r d o → LineCallsTaped line b out t r d o
  unfolding LineCallsTaped
  as_calls cs r d o e =
      subst (λ (x : List Call). CallsTaped x b out t r d o)
      (sym (ap (calls_of b) read ∙ e))

  pub too_many : 65536 < c → LineCallsTaped line b out t t b out
  unfolding calls_of form_calls
  too_many h =
      as_calls [] t b out (rw (lt-leb (length (expand items)) 65536 ((count_is _ refl).0 h))) (no_calls b out t)

  module _ (few : c ≤ 65536) where
    all_calls : calls_of b (reads (forms.steps items)) ≡ map stepping (expand items)
    unfolding calls_of form_calls
    all_calls = rw (le-leb (length (expand items)) 65536 ((count_is _ refl).1 few))

    pub steps_turned : (w : Result (Unit {0}) Refusal) → verdict w ≡ board_refusal b none → is_err w ≡ true
        → LineCallsTaped line b out t t b out
    unfolding verdict
    steps_turned (Ok x) v e = clash (sym e)
    steps_turned (Err r) v e =
        as_calls (map stepping (expand items)) t b out all_calls
        (idle_calls b out t _ (steps_untaped (expand items) b (number r) (sym v))
        (steps_refused (expand items) b (number r) (sym v)))

    -- its steps taped, whichever way
    pub steps_done : board_refusal b none ≡ none → (r : Taped) (d o : List ℕ)
        → taping d o r ≡ taped_steps (expand (its_items line at c counts).0) (taping b out t)
        → LineCallsTaped line b out t r d o
    unfolding items
    steps_done sound r d o e =
        as_calls (map stepping (expand items)) r d o all_calls (steps_calls b out t sound (expand items) r d o e)

    pub steps_taped : board_refusal b none ≡ none → (r : At Taped) (d o : List ℕ)
        → ItemsTape line at (taping b out t) r d o → LineCallsTaped line b out t r.value d o
    unfolding PartDone TapedFrom items
    steps_taped sound r d o done =
        steps_done sound _ d o (done _ items [] (items_there line at c counts items read)).ran

-- its single calls are all that it leaves
pub counted_only : (line : List ℕ) (at c : ℕ) → LineCounts line at c → StepsOnly line
counted_only line at c counts = let s = its_items line at c counts in only_steps line s.0 s.1

-- ---- a line of rounds

pub rounds_only : (line : List ℕ) (at count needs : ℕ) → LineHas line at count needs → StepsOnly line
rounds_only line at count needs has =
    let q = its line at count needs has in only_rounds line q.k q.rounds q.is

module _ (line : List ℕ) (at count needs : ℕ) (has : LineHas line at count needs) (b out : List ℕ) (t : Taped)
    (w : Result (Unit {0}) Refusal) (refuses : Refuses needs b w) where
  k : ℕ
  k = (its line at count needs has).k

  rs : List (List ℕ)
  rs = (its line at count needs has).rounds

  rounds_read : read_line line ≡ reads (forms.rounds k rs)
  unfolding k rs
  rounds_read = (its line at count needs has).is

  rounds_as : (cs : List Call) (r : Taped) (d o : List ℕ) → calls_of b (reads (forms.rounds k rs)) ≡ cs
      → CallsTaped cs b out t r d o → LineCallsTaped line b out t r d o
  unfolding LineCallsTaped
  rounds_as cs r d o e =
      subst (λ (x : List Call). CallsTaped x b out t r d o) (sym (ap (calls_of b) rounds_read ∙ e))

  asked : verdict w ≡ rounds_refusal k rs b
  unfolding Refuses
  asked = refuses k rs (summed line at count needs has k rs rounds_read).2

  -- the single calls by the refusal, if there is one
  calls_by : Option ℕ → List Call
  calls_by q = elim q [ none ↦ map stepping (rounds_steps (stations b) rs) | some number ↦ [] ]

  pub rounds_turned : is_err w ≡ true → LineCallsTaped line b out t t b out
  unfolding calls_of form_calls calls_by
  rounds_turned e = rounds_as [] t b out (ap calls_by (sym asked ∙ (turned_down w e).1)) (no_calls b out t)

  module _ (ok : is_err w ≡ false) (n : At ℕ) (known : KnownIs line (at + 1) n) where
    pub rounds_taped : (r : Taped) (d o : List ℕ)
        → RoundsTape line n.next (taping b out t) (taping d o r) → LineCallsTaped line b out t r d o
    unfolding calls_of form_calls calls_by RoundsTape
    rounds_taped r d o done =
        rounds_as (map stepping (rounds_steps (stations b) rs)) r d o (ap calls_by (sym asked ∙ passes w ok))
        (steps_calls b out t (rounds_sound needs b w refuses ok) (rounds_steps (stations b) rs) r d o
        (done rs [] (rounds_there line at count needs has n known k rs rounds_read)))

-- what the code finds by itself
pub ruleset round_lines = (number_stands, number_inside, rounds_stand, rounds_sound, ready, rounds_turned, rounds_taped)
