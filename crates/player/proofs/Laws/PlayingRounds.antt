-- A line of rounds: what is printed, and what is left of the memory, at each return of its player.
-- Relies on a call on the board that was laid and on the play of a line's rounds; the proof of `line::play_rounds`
-- relies on it.
use Rattle.model.proofs.Kit.{◌≡◌, refl, sym, subst, List, ◌++◌, ℕ, ◌<◌, length, drop, take, w32, Fits, arith}
use Prim.Native.Nat.{min}
use Rattle.std.specs.Prelude.{Ok, Err}
use Rattle.model.specs.declared.refusal.Refusal as refusals
use Rattle.model.specs.declared.refusal.Refusal.TheVariants.{NoBoardLaid}
use Rattle.model.specs.declared.RoundsPlayed.{RoundsPlayed}
use Rattle.model.specs.Rounds.{played, rounds}
use Rattle.model.specs.Told.{number, rounds_told}
use Rattle.model.specs.Sheet.{played_text, play_form}
use Rattle.model.proofs.Calls.Rounds.{rounds_told_lem}
use Rattle.answer_writer.proofs.Bounds.{refused_short, played_short}
use Rattle.line_rounds.specs.LineRounds.{LineHas, PlaysLine}
use Rattle.line_rounds.proofs.Laws.WholeLine.{its, few}
use Rattle.player.specs.Played.{PlaysRounds}
use Rattle.player.proofs.Laws.Parts.{part_inside}
use Rattle.player.proofs.Laws.Playing.{five, on_part}

module _ (line : List ℕ) (laid : ℕ) (m : List ℕ) where
  pub rounds_five : (k : refusals.Refusal) → (laid ≡ 0) × (k ≡ NoBoardLaid) → PlaysRounds line laid m (Err k) m
  unfolding PlaysRounds play_form
  rounds_five j e = λ k rs q. five laid m _ _ j e

  module _ (part : ℕ) (d : List ℕ) where
    -- a line is too short for more rounds than a number of 32 bits tells
    pub rounds_fit : (at count needs : ℕ) → LineHas line at count needs → (r : RoundsPlayed)
        → PlaysLine line (take part m) (Ok r) d → Fits w32 r.rounds
    unfolding PlaysLine rounds_told
    rounds_fit at count needs has r plays =
        let there = its line at count needs has in
        record {
          fits = omega (
            arith,
            rounds_told_lem there.k there.rounds (take part m) r.rounds r.decided
                (sym (plays there.k there.rounds there.is).0),
            few line there.k there.rounds there.is,
          );
        }

    module _ (lent : (laid ≡ 0 → ⊥) × (part ≡ min laid (length m))) where
      pub rounds_turned : (j : refusals.Refusal) → PlaysLine line (take part m) (Err j) d
          → PlaysRounds line laid m (Err j) (d ++ drop part m)
      unfolding PlaysRounds PlaysLine play_form played_text rounds_told
      rounds_turned j plays k rs q =
          on_part laid m played_text (rounds k rs) part (rounds_told (Err j)) d lent (plays k rs q).0 (plays k rs q).1 (Err j)
          refl (refused_short (number j))

      pub rounds_play : (r : RoundsPlayed) → PlaysLine line (take part m) (Ok r) d → (l : List ℕ)
          → l ≡ played_text (played r.rounds r.decided) → PlaysRounds line laid m (Ok l) (d ++ drop part m)
      unfolding PlaysRounds PlaysLine play_form rounds_told
      rounds_play r plays l h k rs q =
          on_part laid m played_text (rounds k rs) part (rounds_told (Ok r)) d lent (plays k rs q).0 (plays k rs q).1 (Ok l)
          (sym h) (subst (λ (x : List ℕ). length x < 512) (sym h) (played_short r.rounds r.decided))

pub ruleset rounds_line = (part_inside, rounds_five, rounds_fit, rounds_turned, rounds_play)
