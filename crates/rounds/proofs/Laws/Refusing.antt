-- The refusals of a call by the round, as the code meets them.
-- Relies on the board's own refusals and on what rounds need; the proofs of the refusals rely on it.
use Rattle.std.specs.Prelude.{Ok, Err}
use Rattle.std.specs.declared.result.Result.{Result}
use Rattle.model.proofs.Kit.{◌≡◌, sym, ap, ◌∙◌, Bool, true, false, List, none, ℕ, ◌≤◌, ◌<◌, leb, get_or}
use Rattle.model.proofs.Kit.{le-leb, lt-leb, arith}
use Rattle.model.specs.declared.refusal.Refusal as refusals
use Rattle.model.specs.declared.refusal.Refusal.TheVariants.{CollectUnderWay, UnknownRound}
use Rattle.model.specs.Calls.{stations, board_refusal, unless}
use Rattle.model.specs.Rounds.{all_settled, rounds_known, rounds_refusal}
use Rattle.model.specs.Told.{verdict}
use Rattle.model.proofs.Calls.Refusals.{board_first}
use Rattle.halts.specs.Needs as halts
use Rattle.halts.proofs.Laws.Known.{rounds_known_lem}
use Rattle.soundness.proofs.Laws.Placing.{head_long, n_high}
use Rattle.soundness.proofs.Laws.Checked.{turned, past_board}
use Rattle.rounds.specs.Asked.{Refuses}

module _ (needs : ℕ) (b : List ℕ) where
  pub board_refused : (v : Result (Unit {0}) refusals.Refusal) (r : refusals.Refusal) → v ≡ Err r
      → verdict v ≡ board_refusal b none
      → Refuses needs b (Err r)
  unfolding Refuses verdict rounds_refusal
  board_refused v r e h k rs q = sym (board_first b _ _ (turned b v r e h))

  module _ (sound : board_refusal b none ≡ none) where
    pub eighteen : all_settled b ≡ false → Refuses needs b (Err CollectUnderWay)
    unfolding Refuses verdict rounds_refusal unless
    eighteen e k rs q =
        sym (past_board b sound _ ∙ ap (λ (s : Bool). unless s 18 (unless (rounds_known (stations b) k rs) 19 none)) e)

    -- 19 is left, which is the one comparison
    left : all_settled b ≡ true → (k : ℕ) (rs : List (List ℕ)) → halts.needs k rs ≡ needs
        → rounds_refusal k rs b ≡ unless (leb needs (get_or b 0 0)) 19 none
    unfolding rounds_refusal unless stations
    left e k rs q =
        past_board b sound _ ∙ ap (λ (s : Bool). unless s 18 (unless (rounds_known (get_or b 0 0) k rs) 19 none)) e
        ∙ ap (λ (s : Bool). unless s 19 none)
        (rounds_known_lem (get_or b 0 0) (omega (arith, n_high b sound)) k rs
        ∙ ap (λ (x : ℕ). leb x (get_or b 0 0)) q)

    pub nineteen : all_settled b ≡ true → get_or b 0 0 < needs → Refuses needs b (Err UnknownRound)
    unfolding Refuses verdict unless
    nineteen e l k rs q =
        sym (left e k rs q ∙ ap (λ (s : Bool). unless s 19 none) (lt-leb needs (get_or b 0 0) l))

    pub none_left : (x : Unit {0}) → all_settled b ≡ true → needs ≤ get_or b 0 0 → Refuses needs b (Ok x)
    unfolding Refuses verdict unless
    none_left x e l k rs q =
        sym (left e k rs q ∙ ap (λ (s : Bool). unless s 19 none) (le-leb needs (get_or b 0 0) l))

pub ruleset refusing = (head_long, eighteen, nineteen, none_left)
