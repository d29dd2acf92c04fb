-- A run: one more step of the loop, and the answer at each return.
-- Relies on the model's runs; the proofs of `run_on` and `run` rely on it.
use Rattle.model.proofs.Kit.{◌≡◌, refl, sym, ap, subst, ◌∙◌, List, [], ◌∷◌, ◌++◌, none, some, ℕ, ◌+◌, ◌-◌, ◌≤◌, ◌<◌}
use Rattle.model.proofs.Kit.{lt-leb, leb, le→leb, length, take, get_or, take_all, add-one, arith}
use lib.Seq.{take-suc}
use Rattle.std.specs.Prelude.{Ok, Err}
use Rattle.model.specs.declared.refusal.Refusal as refusals
use Rattle.model.specs.declared.refusal.Refusal.TheVariants.{TooManySteps}
use Rattle.model.specs.Calls.{After, Refusal, RunAnswer, ran, not_run, board_refusal, unless, unless_refused, step_on, step}
use Rattle.model.specs.Calls.{ran_from, run}
use Rattle.model.specs.Told.{verdict, number, run_told}
use Rattle.model.proofs.Calls.Refusals.{board_of_lem, board_passes, unless_fails, unless_passes}
use Rattle.model.proofs.Calls.CallsKeep.{step_on_keeps}
use Rattle.model.specs.Runs.{taken, passed, answers, after}
use Rattle.model.proofs.Calls.Runs.{taken_append, answers_append, after_append, ran_to, ran_is, ran_both, run_on}
use Rattle.stepping.specs.Stepped.{RunsOn}

-- after the first i stations: the board d and the count k
pub record AfterI (is b : List ℕ) (i : ℕ) (d : List ℕ) (k : ℕ) : Type 0 where
  pub inside : i ≤ length is
  pub count : k ≡ taken (answers step_on b (take i is))
  pub below : k ≤ i
  pub bytes : d ≡ after step_on b (take i is)
  pub sound : board_refusal d none ≡ none

pub begun : (is b : List ℕ) → board_refusal b none ≡ none → AfterI is b 0 b 0
unfolding taken answers after
begun is b s = record { inside = omega arith; count = refl; below = omega arith; bytes = refl; sound = s }

one_more : (is : List ℕ) (i : ℕ) → i < length is → take (i + 1) is ≡ take i is ++ (get_or is i 0 ∷ [])
one_more is i h = ap (λ (k : ℕ). take k is) (add-one i) ∙ take-suc is i 0 h

pub again : (is b : List ℕ) (i : ℕ) (d : List ℕ) (k : ℕ) → AfterI is b i d k → i < length is
    → (m : ℕ) (e : List ℕ) → RunsOn (get_or is i 0 ∷ []) d m e → AfterI is b (i + 1) e (k + m)
unfolding RunsOn after
again is b i d k h l m e s =
    let next : List ℕ = get_or is i 0 ∷ [] in
    record {
      inside = omega arith;
      count =
          (λ j. h.count j + (s.0 ∙ ap (λ (x : List ℕ). taken (answers step_on x next)) h.bytes) j)
          ∙ sym (taken_append (answers step_on b (take i is)) (answers step_on (after step_on b (take i is)) next))
          ∙ ap taken (sym (ap (answers step_on b) (one_more is i l) ∙ answers_append step_on b (take i is) next));
      below = let one : m ≤ 1 = s.1 in omega (arith, h.below);
      bytes =
          s.2 ∙ ap (λ (x : List ℕ). after step_on x next) h.bytes
          ∙ sym (ap (after step_on b) (one_more is i l) ∙ after_append step_on b (take i is) next);
      sound =
          subst (λ (x : List ℕ). board_refusal x none ≡ none) (sym s.2)
          (board_passes _ (step_on_keeps (get_or is i 0) d (board_of_lem d none h.sound).0) none);
    }

-- the count stays far below what 32 bits hold
pub small : (is b : List ℕ) (i : ℕ) (d : List ℕ) (k : ℕ) → AfterI is b i d k → length is ≤ 65536
    → (x m : ℕ) (e : List ℕ) → RunsOn (x ∷ []) d m e → k + m < 4294967296
unfolding RunsOn
small is b i d k h l x m e s = let one : m ≤ 1 = s.1 in omega (arith, h.below, h.inside)

pub ended : (is b : List ℕ) (i : ℕ) (d : List ℕ) (k : ℕ) → AfterI is b i d k → length is ≤ i → RunsOn is b k d
unfolding RunsOn
ended is b i d k h l =
    let q : take i is ≡ is = take_all i is l in (
      h.count ∙ ap (λ (x : List ℕ). taken (answers step_on b x)) q,
      omega (arith, h.below, h.inside),
      h.bytes ∙ ap (after step_on b) q,
    )

pub runs_below : (is b : List ℕ) (r : ℕ) (d : List ℕ) → RunsOn is b r d → r ≤ length is
unfolding RunsOn
runs_below is b r d h = h.1

-- ---- the call

module _ (is b : List ℕ) where
  module _ (r : refusals.Refusal) (e : unless (leb (length is) 65536) 6 (board_refusal b none) ≡ some (number r)) where
    refuses_answer : run_told (Err r) ≡ (run is b).answer
    unfolding run unless_refused run_told
    refuses_answer = ap (λ (r : Refusal). (unless_refused r not_run b (ran_from step 0 0 is b)).answer) (sym e)

    refuses_bytes : b ≡ (run is b).bytes
    unfolding run unless_refused
    refuses_bytes = ap (λ (r : Refusal). (unless_refused r not_run b (ran_from step 0 0 is b)).bytes) (sym e)

  module _ (h : 65536 < length is) where
    six : unless (leb (length is) 65536) 6 (board_refusal b none) ≡ some 6
    six = unless_fails (leb (length is) 65536) 6 _ (lt-leb (length is) 65536 h)

    pub six_answer : run_told (Err TooManySteps) ≡ (run is b).answer
    six_answer = refuses_answer TooManySteps six

    pub six_bytes : b ≡ (run is b).bytes
    six_bytes = refuses_bytes TooManySteps six

  module _ (l : length is ≤ 65536) where
    module _ (r : refusals.Refusal) (e : verdict (Err r) ≡ board_refusal b none) where
      board_turned : unless (leb (length is) 65536) 6 (board_refusal b none) ≡ some (number r)
      unfolding verdict
      board_turned = unless_passes (leb (length is) 65536) 6 _ (le→leb (length is) 65536 l) ∙ sym e

      pub board_answer : run_told (Err r) ≡ (run is b).answer
      board_answer = refuses_answer r board_turned

      pub board_bytes : b ≡ (run is b).bytes
      board_bytes = refuses_bytes r board_turned

    module _ (s : board_refusal b none ≡ none) (r : ℕ) (d : List ℕ) (h : RunsOn is b r d) where
      whole : ran_to (0 + taken (answers step_on b is)) (0 + passed (answers step_on b is)) (after step_on b is) ≡ run is b
      whole = sym (run_on is b (board_of_lem b none s).0 l ∙ ran_is step_on 0 0 is b)

      pub ran_answer : (p : ℕ) → p ≡ length is - r → run_told (Ok (record { taken = r; passed = p })) ≡ (run is b).answer
      unfolding RunsOn run_told
      ran_answer p e =
          let t : r ≡ 0 + taken (answers step_on b is) = omega (arith, h.0) in
          let u : p ≡ 0 + passed (answers step_on b is) = omega (arith, ran_both step_on b is, h.0, h.1) in
          (λ j. ran (t j) (u j)) ∙ ap (λ (x : After RunAnswer). x.answer) whole

      pub ran_bytes : d ≡ (run is b).bytes
      unfolding RunsOn
      ran_bytes = h.2 ∙ ap (λ (x : After RunAnswer). x.bytes) whole

pub ruleset counting = (small, ended)

pub ruleset running = (six_answer, six_bytes, board_answer, board_bytes, runs_below, ran_answer, ran_bytes)
