-- A station's turn taped, and those of all stations, over lent bytes and the code's numbers.
-- Relies on steps taped one after another and on the steps of stations in turn; the proofs of one round rely on it.
use Rattle.model.proofs.Kit.{◌≡◌, sym, ap, subst, ◌∙◌, Bool, true, false, cond, List, [], ℕ, ◌+◌, ◌≤◌, length}
use Rattle.model.proofs.Kit.{replicate, get_or, arith}
use Rattle.model.specs.Calls.{stations}
use Rattle.model.specs.Rounds.{in_turn}
use Rattle.soundness.proofs.Laws.Placing.{head_long, n_high}
use Rattle.rounds.specs.Suspended.{suspended}
use Rattle.rounds.proofs.Laws.Turns.{turns_more}
use Rattle.taping.specs.declared.Taped.{Taped}
use Rattle.taping.specs.Taping.{Taping, taping, taped_steps, Ready}
use Rattle.taping.proofs.Laws.Steps.{Tapes, tapes_none, tapes_then}
use Rattle.taped_rounds.specs.TapedRounds.{turns_taped}

-- ---- a station's turn, which it takes unless it is suspended

module _ (s : Taping) (halted : Bool) (js : List ℕ) where
  pub turn_passed : halted ≡ true → s ≡ taped_steps (cond halted [] js) s
  unfolding taped_steps
  turn_passed h = ap (λ (x : Bool). taped_steps (cond x [] js) s) (sym h)

  pub turn_taken : halted ≡ false → (t : Taping) → t ≡ taped_steps js s → t ≡ taped_steps (cond halted [] js) s
  turn_taken h t q = q ∙ ap (λ (x : Bool). taped_steps (cond x [] js) s) (sym h)

-- ---- all stations in turn, each that is not suspended for so many steps

module _ (b₀ out₀ : List ℕ) (t₀ : Taped) (halted : List Bool) (steps : ℕ) where
  -- the state before the round
  abbrev Begun : Taping
  Begun = taping b₀ out₀ t₀

  pub turns_begun : Ready Begun → Tapes Begun (in_turn steps 0 (suspended halted)) Begun
  unfolding in_turn
  turns_begun h = tapes_none Begun h

  module _ (j : ℕ) (b out : List ℕ) (t : Taped)
      (p : Tapes Begun (in_turn steps j (suspended halted)) (taping b out t)) where
    pub turns_ready : Ready (taping b out t)
    turns_ready = p.kept.ready

    pub turns_board : length b ≡ length b₀
    turns_board = p.kept.board

    pub turns_out : length out ≡ length out₀
    turns_out = p.kept.out

    pub one_turn_more : (d now : List ℕ) (r : Taped)
        → taping d now r ≡ taped_steps (cond (get_or halted j false) [] (replicate steps (j + 1))) (taping b out t)
        → Tapes Begun (in_turn steps (j + 1) (suspended halted)) (taping d now r)
    one_turn_more d now r e =
        subst (λ (l : List ℕ). Tapes Begun l (taping d now r)) (sym (turns_more steps j halted))
        (tapes_then Begun (in_turn steps j (suspended halted)) (taping b out t) _ (taping d now r) p e)

    pub turns_ended : steps ≡ get_or b₀ 0 0 + 1 → j ≤ get_or b₀ 0 0 → get_or b₀ 0 0 ≤ j
        → taping b out t ≡ turns_taped halted Begun
    unfolding stations
    turns_ended s l m =
        let e : j ≡ get_or b₀ 0 0 = omega arith in
        p.state ∙ (λ i. taped_steps (in_turn (s i) (e i) (suspended halted)) Begun)

-- what the code finds by itself: one turn, and all of them
pub ruleset turning = (turn_passed, turn_taken)

pub ruleset turns = (head_long, n_high, turns_begun, turns_ready, turns_board, turns_out, turns_ended)
