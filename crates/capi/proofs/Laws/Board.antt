-- The calls on a lent board: a call's own promise, with its answer packed.
-- Relies on the packing's definitions and on the model's runs; the proofs of `board` rely on it.
use Rattle.model.proofs.Kit.{◌≡◌, refl, sym, ap, ◌∙◌, List, none, some, ℕ, ◌+◌, ◌-◌, ◌≤◌, leb, leb→le, length}
use Rattle.model.proofs.Kit.{arith}
use Rattle.std.specs.Prelude.{Ok, Err}
use Rattle.std.specs.declared.result.Result.{Result}
use Rattle.model.specs.declared.refusal.Refusal as refusals
use Rattle.model.specs.declared.Ran.{Ran}
use Rattle.model.specs.declared.Effort.{Effort}
use Rattle.model.specs.Figure.{Figure}
use Rattle.model.specs.Calls.{After, Refusal, RunAnswer, ran, not_run, unless, board_refusal, ran_from, step, run, propose}
use Rattle.model.specs.Calls.{station_refusal, station_at, steps_taken}
use Rattle.model.specs.Told.{verdict, run_told, standing_told, standing_answered}
use Rattle.model.proofs.Calls.Refusals.{call_case, unless_none, board_of_lem, station_of_lem, index_inside}
use Rattle.model.specs.Runs as ofRuns
use Rattle.model.specs.Runs.{taken, passed}
use Rattle.model.proofs.Calls.Runs.{ran_is, ran_both}
use Rattle.model.specs.Standing as model
use Rattle.model.specs.Standing.{standing_of, stands, not_told, standing}
use Rattle.model.proofs.Calls.StepsTaken.{steps_few}
use Rattle.packing.specs.Packing.{pack_verdict, pack_run, Few, FewSteps}

-- ---- verdicts

-- the call's verdict, packed, beside the bytes that it left
pub packs : (r : ℕ) (v : Result (Unit {0}) refusals.Refusal) (a : Refusal) (d e : List ℕ) → r ≡ pack_verdict (verdict v) → (verdict v ≡ a) × (d ≡ e)
    → (r ≡ pack_verdict a) × (d ≡ e)
packs r v a d e h answered = (h ∙ ap pack_verdict answered.0, answered.1)

-- the figure as it was passed on
pub proposes : (i : ℕ) (v z : Figure) (b : List ℕ) (r : ℕ) (w : Result (Unit {0}) refusals.Refusal) (d : List ℕ) → z ≡ v
    → r ≡ pack_verdict (verdict w)
    → (verdict w ≡ (propose i z b).answer) × (d ≡ (propose i z b).bytes)
    → (r ≡ pack_verdict (propose i v b).answer) × (d ≡ (propose i v b).bytes)
proposes i v z b r w d e h answered = (
  h ∙ ap pack_verdict (answered.0 ∙ ap (λ (x : Figure). (propose i x b).answer) e),
  answered.1 ∙ ap (λ (x : Figure). (propose i x b).bytes) e,
)

-- ---- how a station stands

-- the steps that are told are those of a sound board
told_few : (i : ℕ) (b : List ℕ) (s : model.Standing) (k : ℕ) → standing i b ≡ stands s k → k ≤ 4095
unfolding standing
told_few i b s k e = go (board_refusal b (station_refusal i b none)) refl e
  where
    go : (r : Refusal) → board_refusal b (station_refusal i b none) ≡ r
        → elim r [ none ↦ stands (standing_of (station_at i b)) (steps_taken i b) | some j ↦ not_told j ] ≡ stands s k
        → k ≤ 4095
    go none q f =
        let h = board_of_lem b _ q in
        let on = (station_of_lem i b none h.1).0 in
        let same : steps_taken i b ≡ k = cc in
        let few : steps_taken i b ≤ 3264 = unfold steps_taken in steps_few b h.0 (i - 1) (index_inside i b on) in
        omega arith
    go (some j) q f = absurd (let z : ◌≡◌ {A = ℕ} 0 1 = cc in omega arith)

pub standing_few : (i : ℕ) (b : List ℕ) (w : Result Effort refusals.Refusal) → standing_answered w ≡ standing i b → FewSteps w
standing_few i b w e = go w refl
  where
    go : (v : Result Effort refusals.Refusal) → w ≡ v → FewSteps v
    go (Ok s) q = unfold FewSteps in
        told_few i b (standing_told s.standing) s.steps (sym e ∙ ap standing_answered q ∙ (unfold standing_answered in refl))
    go (Err k) q = unfold FewSteps in tt

-- ---- runs

-- "6. The items expand to more than 65,536 steps.": the counts of a run that ran stay below
few : (is b : List ℕ) (s t : ℕ) → (run is b).answer ≡ ran s t → s + t ≤ 65536
unfolding run
few is b s t =
    call_case (λ (a : After RunAnswer). a.answer ≡ ran s t → s + t ≤ 65536)
    (unless (leb (length is) 65536) 6 (board_refusal b none)) not_run b (ran_from step 0 0 is b)
    counted (λ k e f. absurd (let z : ◌≡◌ {A = ℕ} 0 1 = cc in omega arith))
  where
    counted : unless (leb (length is) 65536) 6 (board_refusal b none) ≡ none → (ran_from step 0 0 is b).answer ≡ ran s t
        → s + t ≤ 65536
    counted e f =
        let g : ran (0 + taken (ofRuns.answers step b is)) (0 + passed (ofRuns.answers step b is)) ≡ ran s t =
        sym (ap (λ (a : After RunAnswer). a.answer) (ran_is step 0 0 is b)) ∙ f in
        let p : 0 + taken (ofRuns.answers step b is) ≡ s = cc in
        let q : 0 + passed (ofRuns.answers step b is) ≡ t = cc in
        omega (
          arith,
          ran_both step b is,
          leb→le (length is) 65536 (unless_none (leb (length is) 65536) 6 (board_refusal b none) e).0,
        )

module _ (is b : List ℕ) (w : Result Ran refusals.Refusal) (d : List ℕ)
    (answered : (run_told w ≡ (run is b).answer) × (d ≡ (run is b).bytes)) where
  -- the counts fit their bits
  pub run_few : Few w
  run_few = go w refl
    where
      go : (v : Result Ran refusals.Refusal) → w ≡ v → Few v
      go (Ok r) e = unfold Few in few is b r.taken r.passed (sym answered.0 ∙ ap run_told e ∙ (unfold run_told in refl))
      go (Err k) e = unfold Few in tt

  pub run_packed : (r : ℕ) → r ≡ pack_run (run_told w) → (r ≡ pack_run (run is b).answer) × (d ≡ (run is b).bytes)
  run_packed r h = (h ∙ ap pack_run answered.0, answered.1)
