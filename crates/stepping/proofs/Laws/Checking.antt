-- A single step that tests the board first: the board's own refusals, and a board that passed.
-- Relies on the model's calls and on what the test of a board answers; the proof of the public call relies on it.
use Rattle.std.specs.Prelude.{Err}
use Rattle.model.proofs.Kit.{◌≡◌, sym, ap, ◌∙◌, List, none, ℕ}
use Rattle.model.specs.declared.refusal.Refusal as refusals
use Rattle.model.specs.declared.StepAnswer.{StepAnswer}
use Rattle.model.specs.declared.StepAnswer.TheVariants.{Refused}
use Rattle.model.specs.Filled.{refusal}
use Rattle.model.specs.Calls.{Refusal, board_refusal, unless_refused, step_on, step}
use Rattle.model.specs.Told.{told, verdict, number}
use Rattle.accessing.specs.Accessed.{StepsOn}

module _ (i : ℕ) (b : List ℕ) where
  module _ (r : refusals.Refusal) (e : verdict (Err r) ≡ board_refusal b none) where
    pub turned_answer : told (Refused (number r)) ≡ (step i b).answer
    unfolding step unless_refused verdict told
    turned_answer = ap (λ (r : Refusal). (unless_refused r refusal b (step_on i b)).answer) e

    pub turned_bytes : b ≡ (step i b).bytes
    unfolding step unless_refused verdict
    turned_bytes = ap (λ (r : Refusal). (unless_refused r refusal b (step_on i b)).bytes) e

  module _ (r : StepAnswer) (d : List ℕ) (e : board_refusal b none ≡ none) (s : StepsOn i b r d) where
    pub passed_answer : told r ≡ (step i b).answer
    unfolding step unless_refused StepsOn
    passed_answer = s.0 ∙ ap (λ (q : Refusal). (unless_refused q refusal b (step_on i b)).answer) (sym e)

    pub passed_bytes : d ≡ (step i b).bytes
    unfolding step unless_refused StepsOn
    passed_bytes = s.1 ∙ ap (λ (q : Refusal). (unless_refused q refusal b (step_on i b)).bytes) (sym e)

pub ruleset checking = (turned_answer, turned_bytes, passed_answer, passed_bytes)
