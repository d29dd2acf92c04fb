-- A call by the round is its single steps or a refusal; it keeps a sound board sound, and a refused one alters nothing.
-- Relies on Runs and Refusals; a sheet's line of rounds and the code's rounds rely on it.
use Rattle.model.proofs.Kit.{◌≡◌, refl, ap, List, none, some, ℕ, length, arith}
use Rattle.model.specs.Calls.{After, RunAnswer, unless_refused, stations, step, ran_from}
use Rattle.model.specs.Rounds.{RoundsAnswer, played, not_played, rounds_refusal, rounds_steps, played_to}
use Rattle.model.specs.Rounds.{rounds}
use Rattle.model.specs.Runs.{after}
use Rattle.model.proofs.Calls.Refusals.{Board, call_case}
use Rattle.model.proofs.Calls.Runs.{ran_is, ran_keeps}

module _ (k : ℕ) (rs : List (List ℕ)) (b : List ℕ) where
  -- the single steps of the rounds, one after another
  steps_bytes : (ran_from step 0 0 (rounds_steps (stations b) rs) b).bytes ≡ after step b (rounds_steps (stations b) rs)
  steps_bytes = ap (λ (a : After RunAnswer). a.bytes) (ran_is step 0 0 (rounds_steps (stations b) rs) b)

  pub rounds_pass : rounds_refusal k rs b ≡ none
      → rounds k rs b ≡ played_to (length rs) (after step b (rounds_steps (stations b) rs))
  unfolding rounds unless_refused
  rounds_pass e = rw e (ap (played_to (length rs)) steps_bytes)

  pub rounds_turned : (j : ℕ) → rounds_refusal k rs b ≡ some j
      → rounds k rs b ≡ (record { answer = not_played j; bytes = b })
  unfolding rounds unless_refused
  rounds_turned j e = rw e

  pub rounds_case : (P : After RoundsAnswer → Type 0)
      → (rounds_refusal k rs b ≡ none → P (played_to (length rs) (after step b (rounds_steps (stations b) rs))))
      → ((j : ℕ) → rounds_refusal k rs b ≡ some j → P (record { answer = not_played j; bytes = b }))
      → P (rounds k rs b)
  unfolding rounds
  rounds_case P f g =
      call_case P (rounds_refusal k rs b) not_played b _ (λ e. rw steps_bytes (f e)) g

  pub rounds_refused : (j : ℕ) → (rounds k rs b).answer ≡ not_played j → (rounds k rs b).bytes ≡ b
  unfolding played_to
  rounds_refused j =
      rounds_case (λ a. a.answer ≡ not_played j → a.bytes ≡ b)
      (λ e f. absurd (let z : ◌≡◌ {A = ℕ} 0 1 = cc in omega arith)) (λ i e f. refl)

  -- the rounds that are told of are all of them
  pub rounds_told_lem : (r d : ℕ) → (rounds k rs b).answer ≡ played r d → r ≡ length rs
  unfolding played_to
  rounds_told_lem r d =
      rounds_case (λ a. a.answer ≡ played r d → r ≡ length rs) (λ e f. cc)
      (λ j e f. absurd (let z : ◌≡◌ {A = ℕ} 0 1 = cc in omega arith))

  pub rounds_keep : Board b → Board (rounds k rs b).bytes
  unfolding played_to
  rounds_keep h = rounds_case (λ a. Board a.bytes) (λ e. ran_keeps (rounds_steps (stations b) rs) b h) (λ j e. h)
