-- Steps that are all passed over: they leave the board of their run, and what was put in stays as it is.
-- Relies on steps taped one after another and on runs of stations; the proofs of one step taped and of a line rely on
-- it.
use Rattle.model.proofs.Kit.{◌≡◌, refl, sym, ap, ◌∙◌, Bool, true, false, cond, List, [], ◌∷◌, ℕ, ◌+◌, ◌-◌, ◌≤◌}
use Rattle.model.proofs.Kit.{eqb, ne_eqb, length, arith}
use Rattle.model.specs.Listing.{accepted}
use Rattle.model.specs.Calls.{step_on}
use Rattle.model.specs.Runs.{taken, answers, after}
use Rattle.model.proofs.Basics.Tests.{by_test, cond_case}
use Rattle.model.proofs.Calls.Refused.{step_on_refused}
use Rattle.stepping.specs.Stepped.{RunsOn}
use Rattle.taping.specs.declared.Taped.{Taped}
use Rattle.taping.specs.Taping.{Taping, taping, line_taken, taped_one, taped_steps}
use Rattle.taping.proofs.Laws.Steps.{passed_over}

-- ---- one step

module _ (i : ℕ) (s : Taping) where
  pub one_refused : accepted (step_on i s.board).answer.did ≡ false → taped_one i s ≡ s
  unfolding taped_one
  one_refused q = cond_case (λ t. t ≡ s) (eqb s.room 0) _ _ (λ e. refl) (λ e. rw q)

  one_passed : (s.room ≡ 0 → ⊥) → accepted (step_on i s.board).answer.did ≡ true → (s.left ≡ 0 → ⊥)
      → taped_one i s ≡ passed_over (step_on i s.board).bytes s
  unfolding taped_one line_taken
  one_passed wanted q l = rw (ne_eqb s.room 0 wanted, q, ne_eqb s.left 0 l)

-- ---- steps of which no more are taken than there are lines to pass over

-- the board d, and so many lines left to pass over
abbrev passed_to : (d : List ℕ) (left : ℕ) → Taping → Taping
passed_to d left s = record { board = d; out = s.out; left = left; room = s.room; len = s.len }

steps_passed : (is : List ℕ) (s : Taping) → (s.room ≡ 0 → ⊥)
    → (left : ℕ) → left + taken (answers step_on s.board is) ≡ s.left
    → taped_steps is s ≡ passed_to (after step_on s.board is) left s
unfolding taped_steps taken answers after
steps_passed [] s wanted left few =
    let same : s.left ≡ left = omega (arith, few) in λ j. passed_to s.board (same j) s
steps_passed (i ∷ is) s wanted left few =
    by_test (accepted (step_on i s.board).answer.did)
    (λ y. let one = ap {B = ℕ} (λ (x : Bool). cond x 1 0) y in
    ap (taped_steps is) (one_passed i s wanted y (λ z. omega (arith, few, one)))
    ∙ steps_passed is (passed_over (step_on i s.board).bytes s) wanted left (omega (arith, few, one)))
    (λ n. let same = step_on_refused i s.board n in
    let none = ap {B = ℕ} (λ (x : Bool). cond x 1 0) n in
    let rest = ap (λ (b : List ℕ). taken (answers step_on b is)) same in
    ap (taped_steps is) (one_refused i s n)
    ∙ steps_passed is s wanted left (omega (arith, few, none, rest))
    ∙ ap (λ (b : List ℕ). passed_to (after step_on b is) left s) (sym same))

-- over lent bytes and the code's numbers, where r of the steps were taken
pub all_passed : (is b out : List ℕ) (t : Taped) → (t.room ≡ 0 → ⊥) → length is ≤ t.left
    → (r : ℕ) (d : List ℕ) → RunsOn is b r d
    → taping d out (record { left = t.left - r; room = t.room; len = t.len }) ≡ taped_steps is (taping b out t)
unfolding RunsOn
all_passed is b out t wanted few r d h =
    ap (λ (x : List ℕ). passed_to x (t.left - r) (taping b out t)) h.2
    ∙ sym (steps_passed is (taping b out t) wanted (t.left - r) (omega (arith, few, h.0, h.1)))
