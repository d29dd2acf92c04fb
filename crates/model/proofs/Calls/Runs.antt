-- A run is its single steps one after another, and on a sound board soundness need be tested only once.
-- Relies on CallsKeep and Refusals; the code's run relies on it.
use Rattle.model.proofs.Kit.{◌≡◌, refl, ◌∙◌, Bool, true, false, cond, List, [], ◌∷◌, ◌++◌, none, ℕ, suc, ◌+◌}
use Rattle.model.proofs.Kit.{◌≤◌, ◌<◌, leb, le→leb, length, zero-add, arith}
use Rattle.model.specs.Bytes.{byte}
use Rattle.model.specs.Figure.{Figure}
use Rattle.model.specs.Listing.{Answer, accepted}
use Rattle.model.specs.Filled.{Report}
use Rattle.model.specs.Calls.{After, RunAnswer, ran, not_run, ran_from, run, board_refusal, unless_refused, step_on}
use Rattle.model.specs.Calls.{step}
use Rattle.model.specs.Runs.{taken, passed, after, answers, RunsCount}
use Rattle.model.proofs.Calls.Refusals.{Board, board_passes, unless_passes, call_case, step_on_lem}
use Rattle.model.proofs.Calls.CallsKeep.{step_on_keeps, step_keeps, step_head}

pub taken_append : (xs ys : List (Answer Figure)) → taken (xs ++ ys) ≡ taken xs + taken ys
unfolding taken
taken_append [] ys = omega arith
taken_append (x ∷ xs) ys = omega (arith, taken_append xs ys)

-- a run that took s steps, passed over t and leaves the board b
abbrev pub ran_to : (s t : ℕ) → List ℕ → After RunAnswer
ran_to s t b = record { answer = ran s t; bytes = b }

same_counts : {s t s' t' : ℕ} (b : List ℕ) → s ≡ s' → t ≡ t' → ran_to s t b ≡ ran_to s' t' b
same_counts b e f = λ j. ran_to (e j) (f j) b

-- one more step, taken or passed over
one_counted : (a : Bool) (s t x y : ℕ) (b : List ℕ)
    → cond a (ran_to (s + 1 + x) (t + y) b) (ran_to (s + x) (t + 1 + y) b)
    ≡ ran_to (s + (cond a 1 0 + x)) (t + (cond a 0 1 + y)) b
one_counted true s t x y b = same_counts b (omega arith) (omega arith)
one_counted false s t x y b = same_counts b (omega arith) (omega arith)

one_more : (a : Bool) (s t k : ℕ) → s + t ≡ k → cond a 1 0 + s + (cond a 0 1 + t) ≡ suc k
one_more true s t k e = omega arith
one_more false s t k e = omega arith

module _ (one : ℕ → List ℕ → After (Report Figure)) where
  -- steps over two lists are those over the second from where the first ended
  pub after_append : (b is js : List ℕ) → after one b (is ++ js) ≡ after one (after one b is) js
  unfolding after
  after_append b [] js = refl
  after_append b (i ∷ is) js = after_append (one i b).bytes is js

  pub answers_append : (b is js : List ℕ)
      → answers one b (is ++ js) ≡ answers one b is ++ answers one (after one b is) js
  unfolding answers after
  answers_append b [] js = refl
  answers_append b (i ∷ is) js = cc (answers_append (one i b).bytes is js)

  -- A run is its single steps: S of them were taken, T refused, and the board is the one that they leave.
  pub ran_is : (s t : ℕ) (is b : List ℕ)
      → ran_from one s t is b ≡ ran_to (s + taken (answers one b is)) (t + passed (answers one b is)) (after one b is)
  unfolding ran_from answers after taken passed
  ran_is s t [] b = same_counts b (omega arith) (omega arith)
  ran_is s t (i ∷ is) b =
      rw (ran_is (s + 1) t is (one i b).bytes, ran_is s (t + 1) is (one i b).bytes)
      (one_counted (accepted (one i b).answer.did) s t _ _ _)

  -- S and T together are all of them
  pub ran_both : (b is : List ℕ) → taken (answers one b is) + passed (answers one b is) ≡ length is
  unfolding answers taken passed
  ran_both b [] = refl
  ran_both b (i ∷ is) = one_more (accepted (one i b).answer.did) _ _ _ (ran_both (one i b).bytes is)

-- Every board on the way is sound, so that no step need test it.
pub ran_on : (s t : ℕ) (is b : List ℕ) → Board b → ran_from step s t is b ≡ ran_from step_on s t is b
unfolding ran_from
ran_on s t [] b h = refl
ran_on s t (i ∷ is) b h =
    let k = step_on_keeps i b h in
    rw (step_on_lem i b h, ran_on (s + 1) t is (step_on i b).bytes k, ran_on s (t + 1) is (step_on i b).bytes k)

pub after_on : (is b : List ℕ) → Board b → after step b is ≡ after step_on b is
unfolding after
after_on [] b h = refl
after_on (i ∷ is) b h = rw (step_on_lem i b h) (after_on is (step_on i b).bytes (step_on_keeps i b h))

pub ran_keeps : (is b : List ℕ) → Board b → Board (after step b is)
unfolding after
ran_keeps [] b h = h
ran_keeps (i ∷ is) b h = ran_keeps is (step i b).bytes (step_keeps i b h)

-- The head stays as it was.
pub ran_head : (is b : List ℕ) → Board b → (k : ℕ) → k < 8 → byte (after step b is) k ≡ byte b k
unfolding after
ran_head [] b h k l = refl
ran_head (i ∷ is) b h k l = ran_head is (step i b).bytes (step_keeps i b h) k l ∙ step_head i b h k l

-- A run that is not turned down is its single steps.
run_passes : (is b : List ℕ) → board_refusal b none ≡ none → length is ≤ 65536 → run is b ≡ ran_from step 0 0 is b
unfolding run unless_refused
run_passes is b e h = rw (unless_passes (leb (length is) 65536) 6 _ (le→leb (length is) 65536 h), e)

-- So a run over a sound board tests soundness once.
pub run_on : (is b : List ℕ) → Board b → length is ≤ 65536 → run is b ≡ ran_from step_on 0 0 is b
run_on is b h l = run_passes is b (board_passes b h none) l ∙ ran_on 0 0 is b h

pub run_is : (is b : List ℕ) → board_refusal b none ≡ none → length is ≤ 65536
    → run is b ≡ ran_to (taken (answers step b is)) (passed (answers step b is)) (after step b is)
run_is is b e h = run_passes is b e h ∙ ran_is step 0 0 is b ∙ simp zero-add

pub runs_count : RunsCount
unfolding RunsCount
runs_count is b e h = (run_is is b e h, ran_both step b is)

-- Whatever a run answers, a sound board stays sound.
pub run_keeps : (is b : List ℕ) → Board b → Board (run is b).bytes
unfolding run
run_keeps is b h =
    call_case (λ a. Board a.bytes) _ not_run b (ran_from step 0 0 is b)
    (λ e. rw (ran_is step 0 0 is b) (ran_keeps is b h)) (λ k e. h)
