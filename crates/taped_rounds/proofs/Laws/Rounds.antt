-- Rounds taped one after another, as they stand in a line.
-- Relies on one round's steps and on what holds of the rounds of a line; the proof of `tape_rounds_at` relies on it.
use Rattle.model.proofs.Kit.{◌≡◌, sym, ap, subst, ◌∙◌, Bool, List, [], ◌∷◌, ◌++◌, ℕ, ◌+◌, length, get_or}
use Rattle.model.specs.Calls.{stations}
use Rattle.model.specs.Rounds.{round_steps, rounds_steps}
use Rattle.soundness.proofs.Laws.Placing.{n_high}
use Rattle.rounds.specs.Suspended.{Suspends}
use Rattle.rounds.proofs.Laws.Rounds.{round_steps_lem, rounds_more}
use Rattle.lexer.specs.declared.At.{At}
use Rattle.line_rounds.specs.LineRounds.{RoundIs}
use Rattle.line_rounds.proofs.Laws.AllRounds.{Passed, passed_begun, passed_all, passed_more}
use Rattle.taping.specs.declared.Taped.{Taped}
use Rattle.taping.specs.Taping.{Taping, taping, taped_steps, Ready}
use Rattle.taping.proofs.Laws.Steps.{Tapes, tapes_none, tapes_then}
use Rattle.taped_rounds.specs.TapedRounds.{turns_taped, RoundsTape}

-- the rounds rs were taped from the state s, and t is the state that they leave
unfoldable pub TapedRounds : (s t : Taping) (rs : List (List ℕ)) → Type 0
TapedRounds s t rs = Tapes s (rounds_steps (stations s.board) rs) t

pub no_rounds : (s : Taping) → Ready s → TapedRounds s s []
unfolding TapedRounds rounds_steps
no_rounds s h = tapes_none s h

one_round_more : (s t : Taping) (rs : List (List ℕ)) (halted : List Bool) (r : List ℕ) (u : Taping)
    → TapedRounds s t rs → Suspends halted r → u ≡ turns_taped halted t
    → TapedRounds s u (rs ++ (r ∷ []))
unfolding TapedRounds stations
one_round_more s t rs halted r u p h q =
    let n = get_or s.board 0 0 in
    let m = get_or t.board 0 0 in
    subst (λ (l : List ℕ). Tapes s l u) (sym (rounds_more n rs r))
    (tapes_then s (rounds_steps n rs) t (round_steps n r) u p
    (q ∙ ap (λ (l : List ℕ). taped_steps l t)
    (round_steps_lem m halted r (n_high t.board p.kept.ready.sound) h
    ∙ ap (λ (k : ℕ). round_steps k r) p.kept.head)))

-- ---- the rounds of a line, from the state before them

module _ (line : List ℕ) (at : ℕ) (b₀ out₀ : List ℕ) (t₀ : Taped) where
  abbrev Begun : Taping
  Begun = taping b₀ out₀ t₀

  module _ (b out : List ℕ) (t : Taped) (place : ℕ) (passed : Passed line at (TapedRounds Begun (taping b out t)) place)
    where
      pub rounds_ready : Ready (taping b out t)
      unfolding TapedRounds
      rounds_ready = passed.holds.kept.ready

      pub rounds_board : length b ≡ length b₀
      unfolding TapedRounds
      rounds_board = passed.holds.kept.board

      pub rounds_out : length out ≡ length out₀
      unfolding TapedRounds
      rounds_out = passed.holds.kept.out

      -- no round is left
      pub taped_all : (get_or line place 0 ≡ 32 → ⊥) → RoundsTape line at Begun (taping b out t)
      unfolding RoundsTape TapedRounds
      taped_all closed rs rest e = (passed_all line at _ place passed closed rs rest e).state

      pub taped_more : get_or line place 0 ≡ 32 → (r : At (List Bool)) → RoundIs line (place + 1) r
          → (d now : List ℕ) (u : Taped) → taping d now u ≡ turns_taped r.value (taping b out t)
          → Passed line at (TapedRounds Begun (taping d now u)) r.next
      taped_more more r round_is d now u q =
          passed_more line at _ place passed more r round_is _
          (λ rs one p h. one_round_more Begun (taping b out t) rs r.value one (taping d now u) p h q)

-- what the code finds by itself
pub ruleset taping_rounds = (passed_begun, no_rounds, rounds_board, rounds_out, taped_more)
