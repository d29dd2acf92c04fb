-- Rounds on a lent board: the call's own promise with its answer packed, and the list that is too long to tell of.
-- Relies on the packing's definitions and on the model's rounds; the proof of `lufanelis_rounds` relies on it.
use Rattle.model.proofs.Kit.{◌≡◌, refl, sym, ap, ◌∙◌, List, ℕ, ◌≤◌, ◌<◌, le-leb, lt-leb, length, arith}
use Rattle.std.specs.Prelude.{Ok, Err}
use Rattle.std.specs.declared.result.Result.{Result}
use Rattle.model.specs.declared.refusal.Refusal.{Refusal}
use Rattle.model.specs.declared.RoundsPlayed.{RoundsPlayed}
use Rattle.model.specs.Rounds.{rounds, round_end, lent_rounds}
use Rattle.model.specs.Told.{rounds_told}
use Rattle.model.proofs.Basics.Ended.{parts_fewer}
use Rattle.model.proofs.Calls.Rounds.{rounds_told_lem}
use Rattle.packing.specs.Packing.{pack_rounds, FewRounds}
use Rattle.capi.specs.LentLines.{countable}

module _ (k : ℕ) (named b : List ℕ) where
  pub rounds_too_long : 4294967295 < length named
      → (18446744073709551615
      ≡ countable named (pack_rounds (rounds k (lent_rounds named) b).answer) 18446744073709551615)
      × (b ≡ countable named (rounds k (lent_rounds named) b).bytes b)
  unfolding countable
  rounds_too_long h = rw (lt-leb (length named) 4294967295 h) (refl, refl)

  module _ (w : Result RoundsPlayed Refusal) (d : List ℕ)
      (answered : (rounds_told w ≡ (rounds k (lent_rounds named) b).answer)
      × (d ≡ (rounds k (lent_rounds named) b).bytes)) (few : length named ≤ 4294967295) where
    -- the number of rounds fits its bits
    pub rounds_few : FewRounds w
    rounds_few = go w refl
      where
        go : (v : Result RoundsPlayed Refusal) → w ≡ v → FewRounds v
        go (Ok p) e = unfold FewRounds lent_rounds in
            omega (
              arith,
              rounds_told_lem k (lent_rounds named) b p.rounds p.decided
                  (sym answered.0 ∙ ap rounds_told e ∙ (unfold rounds_told in refl)),
              parts_fewer round_end named,
            )
        go (Err j) e = unfold FewRounds in tt

    pub rounds_packed : (r : ℕ) → r ≡ pack_rounds (rounds_told w)
        → (r ≡ countable named (pack_rounds (rounds k (lent_rounds named) b).answer) 18446744073709551615)
        × (d ≡ countable named (rounds k (lent_rounds named) b).bytes b)
    unfolding countable
    rounds_packed r h =
        rw (le-leb (length named) 4294967295 few) (h ∙ ap pack_rounds answered.0, answered.1)
