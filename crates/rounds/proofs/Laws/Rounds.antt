-- Rounds played one after another, and what the call then answers; for any rounds, however they were read.
-- Relies on steps on a sound board and on the set of suspended stations; the lent rounds and a sheet's line rely on it,
-- played or taped.
use Rattle.model.proofs.Kit.{◌≡◌, refl, sym, ap, subst, ◌∙◌, Bool, cond, List, [], ◌∷◌, ◌++◌, append_assoc, append-nil}
use Rattle.model.proofs.Kit.{none, some, ℕ, zero, suc, ◌+◌, ◌≤◌, length, replicate, get_or, lt-ltb, arith}
use Rattle.std.specs.Prelude.{Ok, Err}
use Rattle.model.specs.declared.refusal.Refusal as refusals
use Rattle.model.specs.Calls.{After, stations, board_refusal, step_on, step}
use Rattle.model.specs.Bytes.{names}
use Rattle.model.specs.Rounds.{RoundsAnswer, played, in_turn, round_steps, rounds_steps, decided_on}
use Rattle.model.specs.Rounds.{played_to, rounds_refusal, rounds}
use Rattle.model.specs.Runs.{after}
use Rattle.model.specs.Told.{verdict, number, rounds_told}
use Rattle.model.proofs.Calls.Refusals.{board_of_lem, board_passes}
use Rattle.model.proofs.Calls.Runs.{after_on}
use Rattle.model.proofs.Calls.Rounds as model
use Rattle.halts.specs.Needs as halts
use Rattle.soundness.proofs.Laws.Placing.{n_high}
use Rattle.stepping.proofs.Laws.Repeated.{Ran, ran_none, ran_then}
use Rattle.rounds.specs.Asked.{Refuses}
use Rattle.rounds.specs.Suspended.{suspended, Suspends}
use Rattle.rounds.specs.Rounds.{after_round, after_rounds}

-- ---- one round by the set of its suspended stations

in_turn_same : (steps i : ℕ) (f g : ℕ → Bool) → ((j : ℕ) → 1 ≤ j → j ≤ i → f j ≡ g j)
    → in_turn steps i f ≡ in_turn steps i g
unfolding in_turn
in_turn_same steps zero f g h = refl
in_turn_same steps (suc i) f g h =
    λ k. in_turn_same steps i f g (λ j l m. h j l (omega arith)) k
    ++ cond (h (suc i) (omega arith) (omega arith) k) [] (replicate steps (suc i))

pub round_steps_lem : (n : ℕ) (halted : List Bool) (r : List ℕ) → n ≤ 16 → Suspends halted r
    → in_turn (n + 1) n (suspended halted) ≡ round_steps n r
unfolding round_steps
round_steps_lem n halted r h s =
    in_turn_same (n + 1) n (suspended halted) (λ i. names i r) (λ j l m. s.holds j l (omega arith))

-- ---- one round after another

pub rounds_more : (n : ℕ) (rs : List (List ℕ)) (r : List ℕ)
    → rounds_steps n (rs ++ (r ∷ [])) ≡ rounds_steps n rs ++ round_steps n r
unfolding rounds_steps
rounds_more n [] r = append-nil (round_steps n r)
rounds_more n (q ∷ rs) r =
    ap (λ (l : List ℕ). round_steps n q ++ l) (rounds_more n rs r)
    ∙ sym (append_assoc (round_steps n q) (rounds_steps n rs) (round_steps n r))

-- the rounds rs were played on the board b, and d is the board that they leave
unfoldable pub RanRounds : (b d : List ℕ) (rs : List (List ℕ)) → Type 0
RanRounds b d rs = Ran b (rounds_steps (stations b) rs) d

pub no_rounds : (b : List ℕ) → board_refusal b none ≡ none → RanRounds b b []
unfolding RanRounds rounds_steps
no_rounds b s = ran_none b s

pub one_round_more : (b : List ℕ) (rs : List (List ℕ)) (d : List ℕ) (halted : List Bool) (r e : List ℕ)
    → RanRounds b d rs
    → Suspends halted r → e ≡ after_round halted d
    → RanRounds b e (rs ++ (r ∷ []))
unfolding RanRounds stations
one_round_more b rs d halted r e p s q =
    subst (λ (l : List ℕ). Ran b l e) (sym (rounds_more (get_or b 0 0) rs r))
    (ran_then b (rounds_steps (get_or b 0 0) rs) d (round_steps (get_or b 0 0) r) e p
    (q ∙ ap (after step_on d)
    (round_steps_lem (get_or d 0 0) halted r (n_high d p.sound) s ∙ ap (λ (n : ℕ). round_steps n r) p.head)))

pub rounds_sound : (b : List ℕ) (rs : List (List ℕ)) (d : List ℕ) → RanRounds b d rs → board_refusal d none ≡ none
unfolding RanRounds
rounds_sound b rs d p = p.sound

pub rounds_length : (b : List ℕ) (rs : List (List ℕ)) (d : List ℕ) → RanRounds b d rs → length d ≡ length b
unfolding RanRounds
rounds_length b rs d p = p.len

pub rounds_bytes : (b : List ℕ) (rs : List (List ℕ)) (d : List ℕ) → RanRounds b d rs
    → d ≡ after_rounds rs b
unfolding RanRounds
rounds_bytes b rs d p = p.bytes

-- ---- what the refusals answered, as the code then finds it

module _ (needs : ℕ) (b : List ℕ) (k : ℕ) (rs : List (List ℕ)) (e : halts.needs k rs ≡ needs) where
  pub rounds_turned : (r : refusals.Refusal) → Refuses needs b (Err r) → rounds_refusal k rs b ≡ some (number r)
  unfolding Refuses verdict
  rounds_turned r h = sym (h k rs e)

  pub rounds_passed : (x : Unit {0}) → Refuses needs b (Ok x) → rounds_refusal k rs b ≡ none
  unfolding Refuses verdict
  rounds_passed x h = sym (h k rs e)

-- rounds that need just so many stations
asking : ℕ → List (List ℕ)
asking zero = []
asking (suc m) = (suc m ∷ []) ∷ []

asking_needs : (m : ℕ) → halts.needs 1 (asking m) ≡ m
unfolding asking halts.needs halts.round_needs halts.closed halts.climbs halts.climb
asking_needs zero = refl
asking_needs (suc m) = rw (lt-ltb 0 (suc m) (omega arith)) (omega arith)

module _ (needs : ℕ) (b : List ℕ) (x : Unit {0}) (h : Refuses needs b (Ok x)) where
  pub passed_sound : board_refusal b none ≡ none
  unfolding rounds_refusal
  passed_sound =
      board_passes b (board_of_lem b _ (rounds_passed needs b 1 (asking needs) (asking_needs needs) x h)).0 none

  pub left_sound : (rs : List (List ℕ)) (d : List ℕ) → d ≡ after_rounds rs b → board_refusal d none ≡ none
  left_sound rs d e = (ran_then b [] b (rounds_steps (stations b) rs) d (ran_none b passed_sound) e).sound

-- ---- what the call answers

module _ (k : ℕ) (rs : List (List ℕ)) (b : List ℕ) where
  -- refused: the number, and the board as it was
  module _ (r : refusals.Refusal) (e : rounds_refusal k rs b ≡ some (number r)) where
    pub refused_answer : rounds_told (Err r) ≡ (rounds k rs b).answer
    unfolding rounds_told
    refused_answer = ap (λ (x : After RoundsAnswer). x.answer) (sym (model.rounds_turned k rs b (number r) e))

    pub refused_bytes : b ≡ (rounds k rs b).bytes
    refused_bytes = ap (λ (x : After RoundsAnswer). x.bytes) (sym (model.rounds_turned k rs b (number r) e))

  -- played: how many rounds, how many stand decided, and the board that the single steps leave
  module _ (d : List ℕ) (e : rounds_refusal k rs b ≡ none) (h : d ≡ after_rounds rs b) where
    all : played_to (length rs) (after step b (rounds_steps (stations b) rs)) ≡ rounds k rs b
    all = sym (model.rounds_pass k rs b e)

    left : d ≡ after step b (rounds_steps (stations b) rs)
    unfolding rounds_refusal
    left = h ∙ sym (after_on (rounds_steps (stations b) rs) b (board_of_lem b _ e).0)

    pub played_answer : (count decided : ℕ) → count ≡ length rs → decided ≡ decided_on d
        → rounds_told (Ok (record { rounds = count; decided = decided })) ≡ (rounds k rs b).answer
    unfolding rounds_told played_to
    played_answer count decided c q =
        (λ i. played (c i) (q i)) ∙ ap (λ (x : List ℕ). played (length rs) (decided_on x)) left
        ∙ ap (λ (x : After RoundsAnswer). x.answer) all

    pub played_bytes : d ≡ (rounds k rs b).bytes
    unfolding played_to
    played_bytes = left ∙ ap (λ (x : After RoundsAnswer). x.bytes) all
