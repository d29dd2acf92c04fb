-- The rounds of a line one after another: what holds of the rounds before each place where the next one begins, and so
-- at the end of all of them; for anything that holds of rounds, as that they were played or taped.
-- Relies on the walk along a list in a line and on rounds played; the proof of `play_rounds_at` relies on it, and so
-- does that of the rounds taped.
use Rattle.model.proofs.Kit.{◌≡◌, subst, Bool, List, [], ◌∷◌, ◌++◌, none, ℕ, ◌+◌, ◌-◌, ◌<◌, length, drop, get_or, arith}
use Rattle.model.specs.Calls.{board_refusal}
use Rattle.model.specs.Forms.{found, round_in, rounds_in}
use Rattle.model.specs.Grammar.{written_round}
use Rattle.model.proofs.Sheet.Lists.{Stations, round_read, round_stood}
use Rattle.list_laws.proofs.Laws.Walks.{Kind, Walk, walk_begun, walk_inside, walk_ended, next, Behind, walk_more}
use Rattle.rounds.specs.Suspended.{Suspends}
use Rattle.rounds.specs.Rounds.{after_round}
use Rattle.rounds.proofs.Laws.Rounds.{RanRounds, no_rounds, one_round_more, rounds_sound, rounds_bytes}
use Rattle.lexer.specs.declared.At.{At}
use Rattle.line_rounds.specs.LineRounds.{RoundStands, RoundRead, RoundIs, RoundsStand, RoundsPlay}

pub round_kind : Kind (List ℕ)
round_kind = record {
  write = written_round;
  InRange = Stations;
  one = round_in;
  reads = round_read;
  stood = round_stood;
}

-- P holds of the rounds before `place`, where the rounds are that are left
pub record Passed (line : List ℕ) (at : ℕ) (P : List (List ℕ) → Type 0) (place : ℕ) : Type 0 where
  pub past : List (List ℕ)
  pub walk : Walk round_kind line at past place
  pub holds : P past

module _ (line : List ℕ) (at : ℕ) (P : List (List ℕ) → Type 0) where
  pub passed_begun : RoundsStand line at → P [] → Passed line at P at
  unfolding rounds_in round_kind
  passed_begun h p = record {
    past = [];
    walk = walk_begun round_kind line at h.rounds h.rest h.read;
    holds = p;
  }

  module _ (place : ℕ) (passed : Passed line at P place) where
    pub passed_inside : place < length line
    passed_inside = walk_inside round_kind line at passed.past place passed.walk

    -- no round is left
    pub passed_all : (get_or line place 0 ≡ 32 → ⊥)
        → (rs : List (List ℕ)) (rest : List ℕ) → rounds_in (drop at line) ≡ found rs rest → P rs
    unfolding rounds_in round_kind
    passed_all closed rs rest e =
        subst P (walk_ended round_kind line at passed.past place passed.walk closed rs rest e) passed.holds

    module _ (more : get_or line place 0 ≡ 32) where
      round : List ℕ
      round = (next round_kind line at passed.past place passed.walk more).thing

      pub round_stands : RoundStands line (place + 1)
      unfolding round_kind
      round_stands =
          let n = next round_kind line at passed.past place passed.walk more in
          record { round = n.thing; rest = _; read = n.read }

      module _ (r : At (List Bool)) (round_is : RoundIs line (place + 1) r) where
        there : RoundRead line (place + 1) round
            (Behind round_kind line at passed.past place passed.walk more) r
        unfolding RoundIs round_kind round
        there = round_is round _ (next round_kind line at passed.past place passed.walk more).read

        pub passed_less : length line - r.next < length line - place
        passed_less = omega (arith, there.behind, there.inside)

        -- and Q holds with one round more
        pub passed_more : (Q : List (List ℕ) → Type 0)
            → ((rs : List (List ℕ)) (one : List ℕ) → P rs → Suspends r.value one → Q (rs ++ (one ∷ [])))
            → Passed line at Q r.next
        unfolding round
        passed_more Q f = record {
          past = passed.past ++ (round ∷ []);
          walk = walk_more round_kind line at passed.past place passed.walk more r.next there.follows;
          holds = f passed.past round passed.holds there.set;
        }

-- ---- the rounds played, from the board b to the board d

module _ (line : List ℕ) (at : ℕ) (b d : List ℕ) (place : ℕ)
    (passed : Passed line at (RanRounds b d) place) where
  pub passed_sound : board_refusal d none ≡ none
  passed_sound = rounds_sound b passed.past d passed.holds

  pub played_all : (get_or line place 0 ≡ 32 → ⊥) → RoundsPlay line at b d
  unfolding RoundsPlay
  played_all closed rs rest e = rounds_bytes b rs d (passed_all line at _ place passed closed rs rest e)

  pub played_more : get_or line place 0 ≡ 32 → (r : At (List Bool)) → RoundIs line (place + 1) r
      → (e : List ℕ) → e ≡ after_round r.value d
      → Passed line at (RanRounds b e) r.next
  played_more more r round_is e q =
      passed_more line at _ place passed more r round_is _
      (λ rs one p s. one_round_more b rs d r.value one e p s q)

-- what the code finds by itself
pub ruleset playing = (passed_begun, no_rounds, played_more)
