-- The steps of one station taped one after another, over lent bytes and the code's numbers.
-- Relies on one step taped and on steps taped one after another; the proof of `tape_turn` relies on it.
use Rattle.model.proofs.Kit.{◌≡◌, refl, sym, ap, subst, ◌∙◌, Bool, true, not, ◌&&◌, eqb, eqb→eq, List, [], ◌∷◌, ℕ, zero, suc, ◌+◌, ◌-◌}
use Rattle.model.proofs.Kit.{◌≤◌, ◌<◌, length, replicate, arith}
use borrow.Author.Tests.{not-true}
use Rattle.model.proofs.Basics.Tests.{true-T, and_l, and_r}
use lib.ListN.{replicate-append-replicate}
use Rattle.model.specs.Listing.{accepted}
use Rattle.model.specs.Calls.{step_on}
use Rattle.taping.specs.declared.Taped.{Taped}
use Rattle.taping.specs.Taping.{Taping, taping, taped_one, taped_steps, Ready}
use Rattle.taping.proofs.Laws.Steps.{Tapes, tapes_none, tapes_then, steps_append, unchanged}
use Rattle.taping.proofs.Laws.Single.{step_refused}

-- a step that leaves everything as it was does so again
again_same : (i : ℕ) (s : Taping) → taped_one i s ≡ s → (k : ℕ) → taped_steps (replicate k i) s ≡ s
unfolding taped_steps
again_same i s e zero = refl
again_same i s e (suc k) = ap (taped_steps (replicate k i)) e ∙ again_same i s e k

module _ (b₀ out₀ : List ℕ) (t₀ : Taped) (i : ℕ) where
  -- the state before the turn
  abbrev Begun : Taping
  Begun = taping b₀ out₀ t₀

  -- a station that does not go on: each of its steps leaves everything as it is
  pub turn_refused : (q : Bool) → q ≡ accepted (step_on i b₀).answer.did → not q ≡ true
      → (count : ℕ) → Begun ≡ taped_steps (replicate count i) Begun
  turn_refused q going n count =
      sym (again_same i Begun (sym (step_refused i b₀ out₀ t₀ q going (not-true q n))) count)

  pub turn_begun : Ready Begun → Tapes Begun (replicate 0 i) Begun
  turn_begun h = tapes_none Begun h

  module _ (b out : List ℕ) (t : Taped) (k : ℕ) (p : Tapes Begun (replicate k i) (taping b out t)) where
    pub turn_ready : Ready (taping b out t)
    turn_ready = p.kept.ready

    pub turn_board : length b ≡ length b₀
    turn_board = p.kept.board

    pub turn_out : length out ≡ length out₀
    turn_out = p.kept.out

    pub turn_ended : (count : ℕ) → k ≤ count → count ≤ k → taping b out t ≡ taped_steps (replicate count i) Begun
    turn_ended count l m =
        let e : k ≡ count = omega arith in
        p.state ∙ ap (λ (n : ℕ). taped_steps (replicate n i) Begun) e

    module _ (d now : List ℕ) (r : Taped) (e : taping d now r ≡ taped_one i (taping b out t)) where
      pub turn_more : Tapes Begun (replicate (k + 1) i) (taping d now r)
      unfolding taped_steps
      turn_more =
          subst (λ (is : List ℕ). Tapes Begun is (taping d now r)) (replicate-append-replicate k 1 i)
          (tapes_then Begun (replicate k i) (taping b out t) (i ∷ []) (taping d now r) p e)

      pub more_board : length d ≡ length b₀
      more_board = turn_more.kept.board

      pub more_out : length now ≡ length out₀
      more_out = turn_more.kept.out

      -- a step that changed nothing: neither do those that are left
      pub turn_over : true ≡ eqb r.left t.left && (eqb r.room t.room && eqb r.len t.len) → (count : ℕ) → k < count
          → taping d now r ≡ taped_steps (replicate count i) Begun
      unfolding taped_steps
      turn_over same count h =
          let q = true-T _ (sym same) in
          let l = eqb→eq r.left t.left (and_l _ _ q) in
          let m = eqb→eq r.room t.room (and_l _ _ (and_r (eqb r.left t.left) _ q)) in
          let whole : k + (count - k) ≡ count = omega arith in
          let still = unchanged (i ∷ []) (taping b out t) (ap (λ (s : Taping). s.left) (sym e) ∙ l)
          (ap (λ (s : Taping). s.room) (sym e) ∙ m) in
          e ∙ still ∙ sym (again_same i (taping b out t) still (count - k))
          ∙ ap (taped_steps (replicate (count - k) i)) p.state
          ∙ sym (steps_append (replicate k i) (replicate (count - k) i) Begun)
          ∙ ap (λ (is : List ℕ). taped_steps is Begun) (replicate-append-replicate k (count - k) i
          ∙ ap (λ (n : ℕ). replicate n i) whole)

pub ruleset turning = (turn_refused, turn_ready, turn_board, turn_out, turn_ended, more_board, more_out)
