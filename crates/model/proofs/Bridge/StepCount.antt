-- Along a list of calls a station's count grows by its accepted steps, and by nothing else.
-- Relies on StepsTaken and OwnCount; it proves the claims of specs/StepCount.antt.
use Rattle.model.proofs.Kit.{◌≡◌, refl, sym, ap, ◌∙◌, subst₂, List, [], ◌∷◌, none, ℕ}
use Rattle.model.proofs.Kit.{◌+◌, ◌-◌, ◌≤◌, ◌<◌, length, map, arith}
use Rattle.model.specs.Bytes.{number, part}
use Rattle.model.specs.Figure.{Figure}
use Rattle.model.specs.Layout.{fresh_board, record_of, read_record}
use Rattle.model.specs.Calls.{After, RunAnswer, stations, islands, board_refusal, steps_taken, lay}
use Rattle.model.specs.Calls.{propose, step, run}
use Rattle.model.specs.Rounds.{RoundsAnswer, rounds_refusal, rounds_steps, played_to, rounds}
use Rattle.model.specs.Runs as runs
use Rattle.model.specs.AnyList.{Call, proposing, stepping, called, after, AllAllowed}
use Rattle.model.specs.Proposals.{Proposal, AllFit, propose_all}
use Rattle.model.specs.SheetList.{singles}
use Rattle.model.specs.Claims.{Passes}
use Rattle.model.specs.StepCount.{steps_by, steps_in, StepCount}
use Rattle.model.proofs.Board.Codec.{Fits}
use Rattle.model.proofs.Calls.Refusals.{Board, board_of_lem, laid_fresh}
use Rattle.model.proofs.Calls.StepsTaken.{proposed_on, proposed_none, idle_none, access_steps}
use Rattle.model.proofs.Calls.StepsTaken.{steps_most, steps_few}
use Rattle.model.proofs.Calls.CallsKeep.{good_stage}
use Rattle.model.proofs.Board.Fresh.{fresh_zero}
use Rattle.model.proofs.Bridge.Single.{Ready, by_head, propose_ready}
use Rattle.model.proofs.Bridge.OneRecord.{at_head, laid_ready, sound_here, own_step}
use Rattle.model.proofs.Bridge.OwnCount.{Counts, list_adds}
use Rattle.model.proofs.Bridge.RunCalls.{ran_calls, steps_allowed, singles_leave, singles_allowed}
use Rattle.model.proofs.Calls.Runs.{runs_count}
use Rattle.model.proofs.Calls.Rounds.{rounds_pass}
use Rattle.model.proofs.Calls.Proposals.{together_case}

-- the steps that a record says were taken, and those of station index j
abbrev steps_of : List ℕ → ℕ
steps_of r = (read_record r).steps

abbrev taken : (n K j : ℕ) → List ℕ → ℕ
taken n K j b = steps_of (record_of n K j b)

-- no station of a fresh board has taken a step
none_fresh : (n K j : ℕ) → j < n → taken n K j (fresh_board n K) ≡ 0
unfolding read_record number part
none_fresh n K j own = ap steps_of (fresh_zero n K j own)

-- One call on a sound board of n and K, and the count of station number i.
module _ (n K i : ℕ) (low : 1 ≤ i) (high : i ≤ n) where
  few : (b : List ℕ) → Ready n K b → taken n K (i - 1) b ≤ 3264
  few b r = by_head (λ m L. taken m L (i - 1) b ≤ 3264) r (steps_few b r.board (i - 1) (omega (arith, r.is_n)))

  -- a proposal leaves the count: one that proposes had none; and an accepted step of the station adds one
  counts : (b : List ℕ) → Ready n K b → Counts n K i low high steps_of b
  counts b r = record {
    proposes = λ v fits a.
        by_head (λ m L. taken m L (i - 1) (propose i v b).bytes ≡ taken m L (i - 1) b) r
        (proposed_none i v b r.board a ∙ sym (idle_none i v b r.board a));
    steps = λ a.
        let s = own_step n K i b r a in
        rw s.is
        (access_steps n K b (sound_here n K i b r).len (i - 1) s.own s.proposal s.stage
        (good_stage n K s.proposal s.stage s.station.good) s.goes (omega (arith, few b r)));
  }

  taken_adds : (cs : List Call) (b : List ℕ) → Ready n K b → AllAllowed cs b
      → (taken n K (i - 1) (after cs b) ≡ taken n K (i - 1) b + steps_in i cs b) × Ready n K (after cs b)
  taken_adds cs b r a =
      list_adds n K i low high steps_of (λ cs b. Unit {0}) (λ c cs b r a p. (counts b r, tt)) cs b r a tt

-- ---- in the words of the claim

-- by the size in the head of the board that the list leaves
after_ready : (n K i : ℕ) → 1 ≤ i → i ≤ n → (cs : List Call) (b : List ℕ) → Ready n K b → AllAllowed cs b
    → steps_taken i (after cs b) ≡ taken n K (i - 1) b + steps_in i cs b
unfolding steps_taken
after_ready n K i low high cs b r a =
    let along = taken_adds n K i low high cs b r a in
    subst₂ (λ m L. taken m L (i - 1) (after cs b) ≡ taken n K (i - 1) b + steps_in i cs b) (sym along.1.is_n)
    (sym along.1.is_k) along.0

-- from a board where the station has taken none
after_none : (n K i : ℕ) → 1 ≤ i → i ≤ n → (cs : List Call) (b : List ℕ) → Ready n K b → AllAllowed cs b
    → taken n K (i - 1) b ≡ 0 → steps_taken i (after cs b) ≡ steps_in i cs b
after_none n K i low high cs b r a z = omega (arith, after_ready n K i low high cs b r a)

since : (b : List ℕ) → Board b → (i : ℕ) (v : Figure) → Fits v → (propose i v b).answer ≡ none → (cs : List Call)
    → AllAllowed cs (propose i v b).bytes
    → steps_taken i (after cs (propose i v b).bytes) ≡ steps_in i cs (propose i v b).bytes
since b h i v f e cs a =
    let on = proposed_on i v b h e in
    after_none (stations b) (islands b) i on.low on.high cs (propose i v b).bytes
    (propose_ready (stations b) (islands b) i v b f (at_head b h)) a (proposed_none i v b h e)

laid : (n K : ℕ) (lent : List ℕ) → (lay n K lent).answer ≡ none → (i : ℕ) → 1 ≤ i → i ≤ n → (cs : List Call)
    → AllAllowed cs (lay n K lent).bytes
    → steps_taken i (after cs (lay n K lent).bytes) ≡ steps_in i cs (lay n K lent).bytes
laid n K lent e i low high cs a =
    after_none n K i low high cs (lay n K lent).bytes (laid_ready n K lent e) a
    (rw (laid_fresh n K lent e).1 (none_fresh n K (i - 1) (omega arith)))

-- a run and rounds as the list of their steps
module _ (b : List ℕ) (h : Board b) (i : ℕ) (low : 1 ≤ i) (high : i ≤ stations b) where
  stepped : (is d : List ℕ) → d ≡ runs.after step b is
      → steps_taken i d ≡ steps_taken i b + steps_in i (map stepping is) b
  unfolding steps_taken
  stepped is d e =
      ap (steps_taken i) (e ∙ ran_calls is b)
      ∙ after_ready _ _ i low high (map stepping is) b (at_head b h) (steps_allowed is b)

  running : board_refusal b none ≡ none → (is : List ℕ) → length is ≤ 65536
      → steps_taken i (run is b).bytes ≡ steps_taken i b + steps_in i (map stepping is) b
  unfolding runs.RunsCount
  running p is few = stepped is _ (ap (λ (a : After RunAnswer). a.bytes) (runs_count is b p few).0)

  playing : (k : ℕ) (rs : List (List ℕ)) → rounds_refusal k rs b ≡ none
      → steps_taken i (rounds k rs b).bytes
      ≡ steps_taken i b + steps_in i (map stepping (rounds_steps (stations b) rs)) b
  unfolding played_to
  playing k rs e = stepped _ _ (ap (λ (a : After RoundsAnswer). a.bytes) (rounds_pass k rs b e))

-- and proposals put in together, among which no step is
no_steps : (i : ℕ) (ps : List Proposal) (b : List ℕ) → steps_in i (singles ps) b ≡ 0
unfolding steps_in steps_by singles
no_steps i [] b = refl
no_steps i (p ∷ ps) b = omega (arith, no_steps i ps (called (proposing p.station p.figure) b))

together : (b : List ℕ) → Board b → (i : ℕ) → 1 ≤ i → i ≤ stations b → (ps : List Proposal) → AllFit ps
    → steps_taken i (propose_all ps b).bytes ≡ steps_taken i b
unfolding steps_taken
together b h i low high ps fits =
    together_case ps b (λ a. steps_taken i a.bytes ≡ steps_taken i b)
    (λ e. ap (steps_taken i) (singles_leave ps b)
    ∙ after_ready _ _ i low high (singles ps) b (at_head b h) (singles_allowed ps fits b)
    ∙ omega (arith, no_steps i ps b))
    (λ k e. refl)

pub step_count : StepCount
unfolding Passes Fits steps_taken
step_count = record {
  adds = λ b p i low high cs. after_ready _ _ i low high cs b (at_head b (board_of_lem b none p).0);
  since = λ b p. since b (board_of_lem b none p).0;
  laid = laid;
  running = λ b p i low high. running b (board_of_lem b none p).0 i low high p;
  playing = λ b p. playing b (board_of_lem b none p).0;
  together = λ b p. together b (board_of_lem b none p).0;
  fits = λ b p i low high.
      let h = (board_of_lem b none p).0 in
      let own : i - 1 < stations b = omega arith in
      (steps_most b h (i - 1) own, steps_few b h (i - 1) own);
}
