-- The call by the round over a lent list, at each return.
-- Relies on rounds played and refused; the proof of the public call relies on it.
use Rattle.std.specs.Prelude.{Ok, Err}
use Rattle.model.proofs.Kit.{◌≡◌, sym, List, ℕ}
use Rattle.model.specs.declared.refusal.Refusal as refusals
use Rattle.model.specs.Rounds.{lent_rounds, decided_on, rounds}
use Rattle.model.specs.Told.{rounds_told}
use Rattle.rounds.specs.declared.lent.Asked.{Asked}
use Rattle.rounds.specs.Asked.{Refuses, Asks}
use Rattle.rounds.specs.Rounds.{after_rounds}
use Rattle.rounds.proofs.Laws.Rounds.{rounds_turned, rounds_passed, passed_sound, left_sound, refused_answer, refused_bytes}
use Rattle.rounds.proofs.Laws.Rounds.{played_answer, played_bytes}

module _ (most : ℕ) (named b : List ℕ) (asked : Asked) (a : Asks most named asked) where
  module _ (r : refusals.Refusal) (h : Refuses asked.needs b (Err r)) where
    pub call_refused_answer : rounds_told (Err r) ≡ (rounds most (lent_rounds named) b).answer
    call_refused_answer = refused_answer most (lent_rounds named) b r (rounds_turned asked.needs b most _ (sym a.needs) r h)

    pub call_refused_bytes : b ≡ (rounds most (lent_rounds named) b).bytes
    call_refused_bytes = refused_bytes most (lent_rounds named) b r (rounds_turned asked.needs b most _ (sym a.needs) r h)

  module _ (x : Unit {0}) (h : Refuses asked.needs b (Ok x)) (d : List ℕ) (q : d ≡ after_rounds (lent_rounds named) b)
    where
      pub call_played_answer : (decided : ℕ) → decided ≡ decided_on d
          → rounds_told (Ok (record { rounds = asked.rounds; decided = decided })) ≡ (rounds most (lent_rounds named) b).answer
      call_played_answer decided p =
          played_answer most (lent_rounds named) b d (rounds_passed asked.needs b most _ (sym a.needs) x h) q asked.rounds
          decided a.rounds p

      pub call_played_bytes : d ≡ (rounds most (lent_rounds named) b).bytes
      call_played_bytes =
          played_bytes most (lent_rounds named) b d (rounds_passed asked.needs b most _ (sym a.needs) x h) q

pub ruleset calling = (
  passed_sound,
  left_sound,
  call_refused_answer,
  call_refused_bytes,
  call_played_answer,
  call_played_bytes,
)
