-- A run by its single steps, and one line of a sheet on a memory: what it prints, and what it leaves.
-- Relies on the calls' laws and on runs as lists of steps; EachForm, the limits and the code's player rely on it.
use Rattle.model.proofs.Kit.{◌≡◌, refl, sym, ap, ◌∙◌, cond, inl, inr, ◌⊎◌, List, [], ◌∷◌, ◌++◌, map, none, some}
use Rattle.model.proofs.Kit.{ℕ, ◌≤◌, ◌<◌, lt-leb, leb-true, leb-false, eq-eqb, ne_eqb, leb, le→leb, length, take}
use Rattle.model.proofs.Kit.{drop, take-append-drop}
use Rattle.model.specs.Figure.{Figure}
use Rattle.model.specs.Layout.{board_length}
use Rattle.model.specs.Filled.{refusal}
use Rattle.model.specs.Calls.{After, Refusal, RunAnswer, ran, not_run, unless, board_refusal, unless_refused, lay}
use Rattle.model.specs.Calls.{step, step_on, ran_from, run, stations}
use Rattle.model.specs.Calls as calls
use Rattle.model.specs.Rounds.{rounds_refusal, rounds_steps, played_to}
use Rattle.model.specs.Rounds as byRound
use Rattle.model.specs.Proposals.{Proposal, proposals_refusal, propose_all}
use Rattle.model.specs.Forms.{propose, steps, Items, expand}
use Rattle.model.specs.Sheet.{Played, refused_text, or_refused, laid_text, proposed_text, ran_text, turned_down}
use Rattle.model.specs.Sheet.{play_board, on_board, play_form}
use Rattle.model.specs.AnyList.{Call, stepping, called, after}
use Rattle.model.specs.SheetList.{singles}
use Rattle.model.specs.Runs.{taken, passed, answers}
use Rattle.model.proofs.Basics.Tests.{cond_case}
use Rattle.model.proofs.Calls.Refusals.{Board, board_passes, unless_passes, unless_fails, refusal_case}
use Rattle.model.proofs.Calls.Runs.{run_is}
use Rattle.model.proofs.Calls.Rounds.{rounds_case}
use Rattle.model.proofs.Calls.Proposals.{together_case}
use Rattle.model.proofs.Bridge.RunCalls.{ran_calls, singles_leave}

-- ---- runs, refused or not

-- on a board that is turned down, so is every single step
pub steps_refused : (is b : List ℕ) (k : ℕ) → board_refusal b none ≡ some k → after (map stepping is) b ≡ b
unfolding after called step unless_refused
steps_refused [] b k e = refl
steps_refused (i ∷ is) b k e =
    ap (λ (r : Refusal). after (map stepping is) (unless_refused r refusal b (step_on i b)).bytes) e
    ∙ steps_refused is b k e

module _ (is b : List ℕ) where
  pub run_six : 65536 < length is → run is b ≡ (record { answer = not_run 6; bytes = b })
  unfolding run unless_refused
  run_six h =
      ap (λ (r : Refusal). unless_refused r not_run b (ran_from step 0 0 is b))
      (unless_fails (leb (length is) 65536) 6 (board_refusal b none) (lt-leb (length is) 65536 h))

  module _ (h : length is ≤ 65536) where
    passes_six : unless (leb (length is) 65536) 6 (board_refusal b none) ≡ board_refusal b none
    passes_six = unless_passes (leb (length is) 65536) 6 (board_refusal b none) (le→leb (length is) 65536 h)

    pub run_turned_down : (k : ℕ) → board_refusal b none ≡ some k → run is b ≡ (record { answer = not_run k; bytes = b })
    unfolding run unless_refused
    run_turned_down k e = ap (λ (r : Refusal). unless_refused r not_run b (ran_from step 0 0 is b)) (passes_six ∙ e)

    pub run_taken : board_refusal b none ≡ none
        → run is b
        ≡ (record {
          answer = ran (taken (answers step b is)) (passed (answers step b is));
          bytes = after (map stepping is) b;
        })
    run_taken e =
        run_is is b e h
        ∙ (λ j. record {
          answer = ran (taken (answers step b is)) (passed (answers step b is));
          bytes = ran_calls is b j;
        })

  -- whatever a run answers, the bytes are those that its single steps leave
  pub run_leaves : (run is b).bytes ≡ after (cond (leb (length is) 65536) (map stepping is) []) b
  unfolding after
  run_leaves =
      cond_case (λ (cs : List Call). (run is b).bytes ≡ after cs b) (leb (length is) 65536) (map stepping is) []
      (λ e. go (leb-true (length is) 65536 e) (refusal_case (board_refusal b none)))
      (λ e. ap (λ (a : After RunAnswer). a.bytes) (run_six (leb-false (length is) 65536 e)))
    where
      go : length is ≤ 65536 → (board_refusal b none ≡ none) ⊎ ((k : ℕ) × (board_refusal b none ≡ some k))
          → (run is b).bytes ≡ after (map stepping is) b
      go h (inl e) = ap (λ (a : After RunAnswer). a.bytes) (run_taken h e)
      go h (inr e) =
          ap (λ (a : After RunAnswer). a.bytes) (run_turned_down h e.0 e.1)
          ∙ sym (steps_refused is b e.0 e.1)

-- ---- rounds, refused or not

-- the single calls of a line of rounds
pub rounds_leave : (k : ℕ) (rs : List (List ℕ)) (b : List ℕ)
    → (byRound.rounds k rs b).bytes
    ≡ after (elim (rounds_refusal k rs b) [ none ↦ map stepping (rounds_steps (stations b) rs) | some j ↦ [] ]) b
unfolding played_to after
rounds_leave k rs b =
    rounds_case k rs b (λ a. a.bytes ≡ after (elim (rounds_refusal k rs b) [
      | none ↦ map stepping (rounds_steps (stations b) rs)
      | some j ↦ []
    ]) b)
    (λ e. rw e (ran_calls (rounds_steps (stations b) rs) b)) (λ j e. rw e)

-- ---- proposals together, refused or not

-- the single calls of a line of pairs
pub together_leaves : (ps : List Proposal) (b : List ℕ)
    → (propose_all ps b).bytes ≡ after (elim (proposals_refusal ps b) [ none ↦ singles ps | some j ↦ [] ]) b
unfolding after
together_leaves ps b =
    together_case ps b (λ a. a.bytes ≡ after (elim (proposals_refusal ps b) [ none ↦ singles ps | some j ↦ [] ]) b)
    (λ e. rw e (singles_leave ps b)) (λ j e. rw e)

-- ---- lines

-- a `board` line: a refused one alters nothing, and one that is accepted leaves the board as the laying leaves it
module _ (laid : ℕ) (m : List ℕ) (n K : ℕ) where
  pub board_refused : (k : ℕ) → (lay n K (take (board_length n K) m)).answer ≡ some k
      → play_board laid m n K ≡ turned_down laid m k
  unfolding play_board
  board_refused k e = rw e

  pub board_lays : (lay n K (take (board_length n K) m)).answer ≡ none
      → play_board laid m n K
      ≡ (record {
        printed = laid_text n K;
        laid = board_length n K;
        memory = (lay n K (take (board_length n K) m)).bytes ++ drop (board_length n K) m;
      })
  unfolding play_board
  board_lays e = rw e

module _ (laid : ℕ) (m : List ℕ) where
  -- "5. A form other than `board` comes before any accepted `board`."
  pub no_board : {A : Type 0} (say : A → List ℕ) (call : List ℕ → After A) → laid ≡ 0
      → on_board laid m say call ≡ turned_down laid m 5
  unfolding on_board
  no_board say call e = rw (eq-eqb laid 0 e)

  module _ (on : laid ≡ 0 → ⊥) where
    pub on_board_lem : {A : Type 0} (say : A → List ℕ) (call : List ℕ → After A)
        → on_board laid m say call
        ≡ (record {
          printed = say (call (take laid m)).answer;
          laid = laid;
          memory = (call (take laid m)).bytes ++ drop laid m;
        })
    unfolding on_board
    on_board_lem say call = rw (ne_eqb laid 0 on)

    -- "(proposed i v)" is printed exactly if the proposal is accepted, and otherwise the refusal's number
    pub propose_prints : (i : ℕ) (v : Figure)
        → (play_form laid m (propose i v)).printed ≡ or_refused (calls.propose i v (take laid m)).answer
        (proposed_text i v)
    unfolding play_form
    propose_prints i v =
        ap (λ (p : Played). p.printed) (on_board_lem (λ a. or_refused a (proposed_text i v)) (calls.propose i v))

    -- "prints (ran S T): S steps taken, T steps refused and passed over", counted on the single steps' own answers
    pub steps_print : (is : Items) → length (expand is) ≤ 65536 → Board (take laid m)
        → (play_form laid m (steps is)).printed
        ≡ ran_text (ran (taken (answers step (take laid m) (expand is)))
        (passed (answers step (take laid m) (expand is))))
    unfolding play_form
    steps_print is h b =
        ap (λ (p : Played). p.printed) (on_board_lem ran_text (run (expand is)))
        ∙ ap (λ (a : After RunAnswer). ran_text a.answer)
        (run_taken (expand is) (take laid m) h (board_passes (take laid m) b none))

    turned : (is : Items) (k : ℕ) → run (expand is) (take laid m) ≡ (record { answer = not_run k; bytes = take laid m })
        → play_form laid m (steps is) ≡ turned_down laid m k
    unfolding play_form turned_down ran_text
    turned is k e =
        on_board_lem ran_text (run (expand is))
        ∙ (λ j. record { printed = ran_text (e j).answer; laid = laid; memory = (e j).bytes ++ drop laid m })
        ∙ (λ j. record { printed = refused_text k; laid = laid; memory = take-append-drop laid m j })

    -- "6. The items expand to more than 65,536 steps."
    pub steps_six : (is : Items) → 65536 < length (expand is) → play_form laid m (steps is) ≡ turned_down laid m 6
    steps_six is h = turned is 6 (run_six (expand is) (take laid m) h)
