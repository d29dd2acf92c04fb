-- One step taped, as the code finds it at each return, and the line that it puts in.
-- Relies on what a step taped can leave and on the contracts of the steps; the proof of `tape_step` and
-- the laws of Turn rely on it.
use Rattle.model.proofs.Kit.{◌≡◌, sym, ap, ◌∙◌, Bool, true, false, List, [], ◌∷◌, ◌++◌, ℕ, ◌+◌}
use Rattle.model.proofs.Kit.{◌-◌, ◌≤◌, ◌<◌, eq-eqb, ne_eqb, length, arith}
use Rattle.model.specs.declared.StepAnswer.{StepAnswer}
use Rattle.model.specs.Bytes.{splice}
use Rattle.model.specs.Figure.{Figure}
use Rattle.model.specs.Filled.{Report}
use Rattle.model.specs.Listing.{accepted}
use Rattle.model.specs.Calls.{step_on}
use Rattle.model.specs.Tape.{Entry, entry_text}
use Rattle.model.specs.Told.{told}
use Rattle.accessing.specs.Accessed.{StepsOn}
use Rattle.stepping.specs.Stepped.{RunsOn}
use Rattle.tape_writer.proofs.Laws.WritingLength.{line_short}
use Rattle.taping.specs.declared.Taped.{Taped}
use Rattle.taping.specs.Taping.{Taping, taping, tape_line, step_line, line_taken, taped_one, taped_steps}
use Rattle.taping.proofs.Laws.Steps.{written, entry_at}
use Rattle.taping.proofs.Laws.Passed.{one_refused, all_passed}

-- ---- what one step leaves, by its tests

module _ (i : ℕ) (s : Taping) where
  one_none : s.room ≡ 0 → taped_one i s ≡ s
  unfolding taped_one
  one_none e = rw (eq-eqb s.room 0 e)

  one_written : (s.room ≡ 0 → ⊥) → accepted (step_on i s.board).answer.did ≡ true → s.left ≡ 0
      → taped_one i s ≡ written (entry_at i s.board) (step_on i s.board).bytes s
  unfolding taped_one line_taken
  one_written wanted q l = rw (ne_eqb s.room 0 wanted, q, eq-eqb s.left 0 l)

-- ---- the line that is put in

pub line_long : (line : List ℕ) (e : Entry) → line ≡ entry_text e ++ (10 ∷ []) → length line ≤ 55
line_long line e h = omega (arith, ap length h, line_short e)

pub board_is : (i : ℕ) (b : List ℕ) (a : StepAnswer) (d : List ℕ) → StepsOn i b a d → d ≡ (step_on i b).bytes
unfolding StepsOn
board_is i b a d h = h.1

pub count_few : (i : ℕ) (b : List ℕ) (n : ℕ) → n ≡ length (step_line i b) → n ≤ 55
unfolding tape_line
count_few i b n h = omega (arith, h, line_short (entry_at i b))

-- as the step and its writer leave it
module _ (i : ℕ) (b : List ℕ) (a : StepAnswer) (d : List ℕ) (h : StepsOn i b a d) (line : List ℕ)
    (is : line ≡ entry_text (record { station = i; report = told a }) ++ (10 ∷ [])) where
  pub line_is : line ≡ step_line i b
  unfolding StepsOn tape_line
  line_is = is ∙ ap (λ (r : Report Figure). entry_text (record { station = i; report = r }) ++ (10 ∷ [])) h.0

  pub line_at : (at : ℕ) (out now : List ℕ) → now ≡ splice at line out → now ≡ splice at (step_line i b) out
  line_at at out now e = e ∙ ap (λ (l : List ℕ). splice at l out) line_is

  pub line_count : (n : ℕ) → n ≡ length line → n ≡ length (step_line i b)
  line_count n e = e ∙ ap length line_is

pub ruleset writing = (line_long, board_is, line_at, line_count)

-- ---- the returns

-- a step counts one at most
pub counted_few : (i : ℕ) (b : List ℕ) (r : ℕ) (d : List ℕ) → RunsOn (i ∷ []) b r d → r ≤ 1
unfolding RunsOn
counted_few i b r d h = h.1

module _ (i : ℕ) (b out : List ℕ) (t : Taped) where
  pub none_wanted : t.room ≡ 0 → taping b out t ≡ taped_one i (taping b out t)
  none_wanted e = sym (one_none i (taping b out t) e)

  -- passed over, where r says whether the step was taken
  pub passed_over_lem : (t.room ≡ 0 → ⊥) → 0 < t.left → (r : ℕ) (d : List ℕ) → RunsOn (i ∷ []) b r d
      → taping d out (record { left = t.left - r; room = t.room; len = t.len }) ≡ taped_one i (taping b out t)
  unfolding taped_steps
  passed_over_lem wanted l = all_passed (i ∷ []) b out t wanted l

  -- q says whether the station goes on
  module _ (q : Bool) (going : q ≡ accepted (step_on i b).answer.did) where
    pub step_refused : q ≡ false → taping b out t ≡ taped_one i (taping b out t)
    step_refused n = sym (one_refused i (taping b out t) (sym going ∙ n))

    pub step_put : q ≡ true → (t.room ≡ 0 → ⊥) → t.left ≤ 0
        → (d : List ℕ) → d ≡ (step_on i b).bytes
        → (now : List ℕ) → now ≡ splice t.len (step_line i b) out
        → (n : ℕ) → n ≡ length (step_line i b)
        → taping d now (record { left = 0; room = t.room - 1; len = t.len + n })
        ≡ taped_one i (taping b out t)
    step_put y wanted none_left d h now put n count =
        (λ j. taping (h j) (put j) (record { left = 0; room = t.room - 1; len = t.len + count j }))
        ∙ sym (one_written i (taping b out t) wanted (sym going ∙ y) (omega arith))

    -- the same from what the step and the writer of its line promise
    pub line_put : q ≡ true → (t.room ≡ 0 → ⊥) → t.left ≤ 0
        → (a : StepAnswer) (d : List ℕ) → StepsOn i b a d → (line : List ℕ)
        → line ≡ entry_text (record { station = i; report = told a }) ++ (10 ∷ [])
        → (now : List ℕ) → now ≡ splice t.len line out
        → (n : ℕ) → n ≡ length line
        → taping d now (record { left = 0; room = t.room - 1; len = t.len + n })
        ≡ taped_one i (taping b out t)
    line_put y wanted none_left a d h line is now e n count =
        step_put y wanted none_left d (board_is i b a d h) now (line_at i b a d h line is t.len out now e) n
        (line_count i b a d h line is n count)

pub ruleset one_step = (none_wanted, counted_few, passed_over_lem, line_long, count_few, step_refused)
