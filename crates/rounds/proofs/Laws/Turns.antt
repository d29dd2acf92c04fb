-- Steps on a sound board one after another: a station's turn, and those of all stations.
-- Relies on the model's runs and on the steps of one station; the proofs of one round rely on it, and so do those of
-- one that is taped.
use Rattle.model.proofs.Kit.{◌≡◌, sym, ap, subst, ◌∙◌, Bool, true, false, cond, List, [], ◌++◌, none, ℕ, suc, ◌+◌, ◌-◌}
use Rattle.model.proofs.Kit.{◌≤◌, replicate, get_or, add-one, arith}
use Rattle.model.specs.Calls.{stations, board_refusal, step_on}
use Rattle.model.specs.Rounds.{in_turn}
use Rattle.model.specs.Runs.{after}
use Rattle.soundness.proofs.Laws.Placing.{head_long, n_high}
use Rattle.stepping.proofs.Laws.Repeated.{Ran, ran_none, ran_then, ran_sound}
use Rattle.rounds.specs.Suspended.{suspended}
use Rattle.rounds.specs.Rounds.{after_turns}

-- ---- a station's turn, which it takes unless it is suspended

module _ (b : List ℕ) (halted : Bool) (js : List ℕ) where
  pub turn_passed : halted ≡ true → b ≡ after step_on b (cond halted [] js)
  unfolding after
  turn_passed h = ap (λ (x : Bool). after step_on b (cond x [] js)) (sym h)

  pub turn_taken : halted ≡ false → (d : List ℕ) → d ≡ after step_on b js → d ≡ after step_on b (cond halted [] js)
  turn_taken h d q = q ∙ ap (λ (x : Bool). after step_on b (cond x [] js)) (sym h)

-- ---- all stations in turn

-- the steps with those of one station more
pub turns_more : (steps j : ℕ) (halted : List Bool) → in_turn steps (j + 1) (suspended halted)
    ≡ in_turn steps j (suspended halted) ++ cond (get_or halted j false) [] (replicate steps (j + 1))
unfolding in_turn suspended
turns_more steps j halted =
    ap (λ (k : ℕ). in_turn steps k (suspended halted)) (add-one j)
    ∙ (λ i. in_turn steps j (suspended halted) ++ cond (get_or halted (back i) false) [] (replicate steps (number i)))
  where
    back : suc j - 1 ≡ j
    back = omega arith

    number : suc j ≡ j + 1
    number = omega arith

module _ (b : List ℕ) (halted : List Bool) (steps : ℕ) where
  pub turns_begun : board_refusal b none ≡ none → Ran b (in_turn steps 0 (suspended halted)) b
  unfolding in_turn
  turns_begun s = ran_none b s

  -- the code reads the entry of the index as a wider number
  pub one_turn_more : (j index : ℕ) (d e : List ℕ) → Ran b (in_turn steps j (suspended halted)) d → index ≡ j
      → e ≡ after step_on d (cond (get_or halted index false) [] (replicate steps (j + 1)))
      → Ran b (in_turn steps (j + 1) (suspended halted)) e
  one_turn_more j index d e r same h =
      subst (λ (l : List ℕ). Ran b l e) (sym (turns_more steps j halted))
      (ran_then b (in_turn steps j (suspended halted)) d _ e r
      (h ∙ ap (λ (k : ℕ). after step_on d (cond (get_or halted k false) [] (replicate steps (j + 1)))) same))

  pub turns_ended : (j : ℕ) (d : List ℕ) → Ran b (in_turn steps j (suspended halted)) d → j ≤ get_or b 0 0
      → get_or b 0 0 ≤ j
      → d ≡ after_turns steps halted b
  unfolding stations
  turns_ended j d r l m =
      let e : j ≡ get_or b 0 0 = omega arith in
      r.bytes ∙ ap (λ (k : ℕ). after step_on b (in_turn steps k (suspended halted))) e

pub ruleset turning = (turn_passed, turn_taken)

pub ruleset turns = (head_long, n_high, ran_sound, turns_begun, turns_ended)

pub ruleset heads = (head_long, n_high)
