-- Runs put together of runs: of no station, of one, and of one list after another; a run keeps the board sound and its
-- length.
-- Relies on the model's runs; the laws of Repeated and the run of items rely on it.
use Rattle.model.proofs.Kit.{◌≡◌, refl, sym, ap, subst, ◌∙◌, Bool, true, false, cond, List, [], ◌∷◌, ◌++◌, none, ℕ, ◌+◌}
use Rattle.model.proofs.Kit.{◌<◌, lit<, length, length-append, arith}
use Rattle.model.specs.Bytes.{byte}
use Rattle.model.specs.Layout.{board_length}
use Rattle.model.specs.Calls.{stations, islands, board_refusal, step_on, step}
use Rattle.model.proofs.Calls.Refusals.{Board, board_of_lem, board_passes}
use Rattle.model.specs.Listing.{accepted}
use Rattle.model.specs.Runs.{taken, answers, after}
use Rattle.model.proofs.Calls.Refused.{step_on_refused}
use Rattle.model.proofs.Calls.Runs.{taken_append, answers_append, after_append, after_on, ran_keeps, ran_head}
use Rattle.stepping.specs.Stepped.{RunsOn}

pub runs_none : (b : List ℕ) → RunsOn [] b 0 b
unfolding RunsOn taken answers after
runs_none b = (refl, omega arith, refl)

-- of one, which is refused or takes its step
pub runs_refused : (i : ℕ) (b : List ℕ) → accepted (step_on i b).answer.did ≡ false → RunsOn (i ∷ []) b 0 b
unfolding RunsOn taken answers after
runs_refused i b e = (omega (arith, ap {B = ℕ} (λ (x : Bool). cond x 1 0) e), omega arith, sym (step_on_refused i b e))

pub runs_taken : (i : ℕ) (b d : List ℕ) → accepted (step_on i b).answer.did ≡ true → d ≡ (step_on i b).bytes
    → RunsOn (i ∷ []) b 1 d
unfolding RunsOn taken answers after
runs_taken i b d e q = (omega (arith, ap {B = ℕ} (λ (x : Bool). cond x 1 0) e), omega arith, q)

pub runs_then : (is js b d e : List ℕ) (r s : ℕ) → RunsOn is b r d → RunsOn js d s e → RunsOn (is ++ js) b (r + s) e
unfolding RunsOn
runs_then is js b d e r s h g = (
  (λ j. h.0 j + (g.0 ∙ ap (λ (x : List ℕ). taken (answers step_on x js)) h.2) j)
      ∙ sym (taken_append (answers step_on b is) (answers step_on (after step_on b is) js))
      ∙ ap taken (sym (answers_append step_on b is js)),
  omega (arith, h.1, g.1, length-append is js),
  g.2 ∙ ap (λ (x : List ℕ). after step_on x js) h.2 ∙ sym (after_append step_on b is js),
)

module _ (is b d : List ℕ) (r : ℕ) (sound : board_refusal b none ≡ none) (h : RunsOn is b r d) where
  board : Board b
  board = (board_of_lem b none sound).0

  -- the bytes as the run over tested boards leaves them
  tested : d ≡ after step b is
  unfolding RunsOn
  tested = h.2 ∙ sym (after_on is b board)

  still : Board d
  still = subst Board (sym tested) (ran_keeps is b board)

  pub runs_sound : board_refusal d none ≡ none
  runs_sound = board_passes d still none

  pub runs_head : (k : ℕ) → k < 8 → byte d k ≡ byte b k
  runs_head k l = ap (λ (x : List ℕ). byte x k) tested ∙ ran_head is b board k l

  pub runs_length : length d ≡ length b
  unfolding stations islands
  runs_length =
      still.shape.len ∙ (λ j. board_length (runs_head 0 (lit< tt) j) (runs_head 1 (lit< tt) j))
      ∙ sym board.shape.len
