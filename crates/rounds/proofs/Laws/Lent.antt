-- The rounds of a lent list, one after another: what they need and that they are played.
-- Relies on bytes in parts, on what rounds need and on rounds played; the proofs of the lent rounds rely on it.
use Rattle.model.proofs.Kit.{◌≡◌, refl, sym, ap, ◌∙◌, Bool, List, [], ◌∷◌, ◌++◌, append_assoc, append-nil, none, ℕ}
use Rattle.model.proofs.Kit.{◌+◌, ◌-◌, ◌≤◌, ◌<◌, length, take, drop, length-append, length-drop}
use Rattle.model.proofs.Kit.{arith}
use Prim.Native.Nat.{max}
use Rattle.std.specs.List.{fold}
use lib.ListN.{length-take}
use Rattle.scan.specs.Scan.{index_of}
use Rattle.model.specs.Calls.{board_refusal}
use Rattle.model.specs.Rounds.{round_end, lent_rounds}
use Rattle.model.proofs.Basics.Ended.{no_parts, parts_found}
use Rattle.halts.specs.Needs.{climb, climbs, closed, round_needs, needs}
use Rattle.halts.proofs.Laws.Grown.{needs_grown}
use Rattle.rounds.specs.Asked.{Asks}
use Rattle.rounds.specs.Suspended.{Suspends}
use Rattle.rounds.specs.Rounds.{after_round, after_rounds}
use Rattle.rounds.proofs.Laws.Rounds.{RanRounds, no_rounds, one_round_more, rounds_bytes, rounds_sound}
use Rattle.rounds.proofs.Laws.Rounds.{rounds_length}

-- ---- the stations of one round

-- a fold over the stations
pub climbs_fold : (last : ℕ) (r : List ℕ) → fold climb last r ≡ climbs last r
unfolding climbs
climbs_fold last [] = refl
climbs_fold last (i ∷ is) = climbs_fold (climb last i) is

-- ---- one round after another

-- the rounds in front of `at`
pub record Upto (named : List ℕ) (at : ℕ) (done : List (List ℕ)) : Type 0 where
  pub rest : done ++ lent_rounds (drop at named) ≡ lent_rounds named

module _ (named : List ℕ) where
  all_done : (at : ℕ) (done : List (List ℕ)) → Upto named at done → length named ≤ at → done ≡ lent_rounds named
  unfolding lent_rounds round_end
  all_done at done u l =
      sym (append-nil done) ∙ ap (λ (x : List (List ℕ)). done ++ x) (sym (no_parts 255 named at l)) ∙ u.rest

  module _ (at end : ℕ) (l : at < length named) (e : end ≡ at + index_of 255 (drop at named)) where
    next : (done : List (List ℕ)) → Upto named at done
        → Upto named (end + 1) (done ++ (take (end - at) (drop at named) ∷ []))
    unfolding lent_rounds round_end index_of
    next done u = record {
      rest =
          append_assoc done (take (end - at) (drop at named) ∷ []) (lent_rounds (drop (end + 1) named))
          ∙ ap (λ (x : List (List ℕ)). done ++ x)
          (sym (parts_found 255 (index_of 255) refl (λ b s t. rw t) (λ b s t. rw t) named at end e l))
          ∙ u.rest;
    }

-- what the rounds in front of `at` ask
pub record AskedTo (most : ℕ) (named : List ℕ) (at rounds asked : ℕ) : Type 0 where
  pub done : List (List ℕ)
  pub upto : Upto named at done
  pub count : rounds ≡ length done
  pub few : rounds ≤ at
  pub asks : asked ≡ needs most done

module _ (most : ℕ) (named : List ℕ) where
  pub asked_begun : AskedTo most named 0 0 0
  unfolding needs
  asked_begun =
      record { done = []; upto = record { rest = refl }; count = refl; few = omega arith; asks = refl }

  pub asked_more : (at rounds asked end last own more : ℕ) → AskedTo most named at rounds asked → at < length named
      → end ≡ at + index_of 255 (drop at named)
      → end ≤ length named
      → last ≡ climbs 0 (take (end - at) (drop at named))
      → own ≡ closed last (end - at) most
      → more ≡ max asked own
      → AskedTo most named (end + 1) (rounds + 1) more
  unfolding round_needs
  asked_more at rounds asked end last own more a l e h c o m = record {
    done = a.done ++ (round ∷ []);
    upto = next named at end l e a.done a.upto;
    count = simp length-append (omega (arith, a.count));
    few = omega (arith, a.few, e);
    asks =
        m ∙ (λ i. max (a.asks i) ((o ∙ (λ j. closed (c j) (width j) most)) i))
        ∙ sym (needs_grown most a.done round);
  }
    where
      round : List ℕ
      round = take (end - at) (drop at named)

      width : end - at ≡ length round
      width = simp (length-take, length-drop) (omega arith)

  pub asked_all : (at rounds asked : ℕ) → AskedTo most named at rounds asked → length named ≤ at
      → Asks most named (record { rounds = rounds; needs = asked })
  asked_all at rounds asked a l =
      let all = all_done named at a.done a.upto l in
      record { rounds = a.count ∙ ap length all; needs = a.asks ∙ ap (needs most) all }

-- the rounds in front of `at` were played
pub record PlayedTo (b named : List ℕ) (at : ℕ) (d : List ℕ) : Type 0 where
  pub done : List (List ℕ)
  pub upto : Upto named at done
  pub plays : RanRounds b d done

module _ (b named : List ℕ) where
  pub played_begun : board_refusal b none ≡ none → PlayedTo b named 0 b
  played_begun s = record { done = []; upto = record { rest = refl }; plays = no_rounds b s }

  pub played_more : (at end : ℕ) (d e : List ℕ) (halted : List Bool) → PlayedTo b named at d → at < length named
      → end ≡ at + index_of 255 (drop at named)
      → Suspends halted (take (end - at) (drop at named))
      → e ≡ after_round halted d
      → PlayedTo b named (end + 1) e
  played_more at end d e halted p l q s h = record {
    done = p.done ++ (take (end - at) (drop at named) ∷ []);
    upto = next named at end l q p.done p.upto;
    plays = one_round_more b p.done d halted _ e p.plays s h;
  }

  module _ (at : ℕ) (d : List ℕ) (p : PlayedTo b named at d) where
    pub played_sound : board_refusal d none ≡ none
    played_sound = rounds_sound b p.done d p.plays

    pub played_length : length d ≡ length b
    played_length = rounds_length b p.done d p.plays

    pub played_all : length named ≤ at → d ≡ after_rounds (lent_rounds named) b
    played_all l =
        rounds_bytes b p.done d p.plays
        ∙ ap (λ (rs : List (List ℕ)). after_rounds rs b)
        (all_done named at p.done p.upto l)

pub ruleset playing = (played_begun, played_more, played_length)
