-- A refused call answers its number and leaves every byte; a move of a going station is never a refusal.
-- Relies on the calls' definitions, Refusals and Runs; the laws of lists of calls rely on it.
use Rattle.model.proofs.Kit.{◌≡◌, refl, sym, ap, ◌∙◌, true, false, List, none, some, ℕ, zero, suc, ◌-◌}
use Rattle.model.proofs.Kit.{replicate, arith}
use Rattle.model.specs.Figure.{Figure, figures}
use Rattle.model.specs.Listing.{Order, Turn, Register, Seen, Stage, writing, reading, has_decided, is_spent}
use Rattle.model.specs.Listing.{Station, idle}
use Rattle.model.specs.Listing.{active, accepted, outcome, Move, stay, see, move}
use Rattle.model.specs.Filled.{Report, refusal}
use Rattle.model.specs.Calls.{After, Refusal, RunAnswer, not_run, board_refusal, station_refusal, station_at}
use Rattle.model.specs.Calls.{stations}
use Rattle.model.specs.Calls.{islands, lay, propose, not_going, access, stepped, step_on, step, run}
use Rattle.model.specs.Runs.{after}
use Rattle.model.proofs.Basics.Tests.{clash}
use Rattle.model.proofs.Listing.Cases.{ended_case, read_case}
use Rattle.model.proofs.Listing.Going.{Going}
use Rattle.model.proofs.Calls.CallsKeep.{going_of}
use Rattle.model.proofs.Calls.Runs.{ran_is}
use Rattle.model.proofs.Calls.Refusals.{some_none, call_case, station_of_lem}

-- what a caller sees: a refused call's bytes are those it was lent
pub lay_refused : (n K : ℕ) (b : List ℕ) (k : ℕ) → (lay n K b).answer ≡ some k → (lay n K b).bytes ≡ b
unfolding lay
lay_refused n K b k =
    call_case (λ (a : After Refusal). a.answer ≡ some k → a.bytes ≡ b) _ some b _ (λ e f. some_none k (sym f))
    (λ j e f. refl)

pub propose_refused : (i : ℕ) (v : Figure) (b : List ℕ) (k : ℕ) → (propose i v b).answer ≡ some k
    → (propose i v b).bytes ≡ b
unfolding propose
propose_refused i v b k =
    call_case (λ (a : After Refusal). a.answer ≡ some k → a.bytes ≡ b) _ some b _ (λ e f. some_none k (sym f))
    (λ j e f. refl)

pub run_refused : (is b : List ℕ) (k : ℕ) → (run is b).answer ≡ not_run k → (run is b).bytes ≡ b
unfolding run
run_refused is b k =
    call_case (λ (a : After RunAnswer). a.answer ≡ not_run k → a.bytes ≡ b) _ not_run b _
    (λ e f. absurd (let g = sym (ap (λ (a : After RunAnswer). a.answer) (ran_is step 0 0 is b)) ∙ f in let z : ◌≡◌
    {A = ℕ} 0 1 = cc in omega arith)) (λ j e f. refl)

-- ---- a move of a going station answers no refusal

pub read_accepts : {F : Type 0} (K : ℕ) (o : Order F) (n : ℕ) (t : Turn) (c : ℕ) (x : F) (p : ℕ) (a : Seen F)
    (r : Register F)
    → accepted (move o n K (reading t c x p a) r).answer ≡ true
unfolding stay accepted outcome
read_accepts {F} K o n t c x p a r =
    let Accepts : Move F → Type 0 = λ m. accepted m.answer ≡ true in
    read_case K Accepts c t x o n p a r (λ l. refl) (λ l. ended_case K Accepts c t x (see o t a r) (search))

pub access_accepts : (n K i : ℕ) (v : Figure) (s : Stage Figure) (b : List ℕ) → Going s
    → accepted (access n K i v s b).answer.did ≡ true
unfolding access move accepted outcome
access_accepts n K i v (writing t c x) b h = refl
access_accepts n K i v (reading t c x p a) b h = read_accepts K figures n t c x p a _
access_accepts n K i v (has_decided c x) b h = absurd h
access_accepts n K i v (is_spent c x) b h = absurd h

-- ---- a refused step

stepped_refused : (n K i : ℕ) (z : Station Figure) (b : List ℕ) → not_going z ≡ none
    → accepted (stepped n K i z b).answer.did ≡ false
    → (stepped n K i z b).bytes ≡ b
unfolding stepped
stepped_refused n K i idle b g e = refl
stepped_refused n K i (active v s) b g e = clash (sym (access_accepts n K i v s b (going_of v s g)) ∙ e)

pub step_on_refused : (i : ℕ) (b : List ℕ) → accepted (step_on i b).answer.did ≡ false → (step_on i b).bytes ≡ b
unfolding step_on
step_on_refused i b =
    call_case (λ (a : After (Report Figure)). accepted a.answer.did ≡ false → a.bytes ≡ b)
    (station_refusal i b (not_going (station_at i b))) refusal b _
    (λ e f. stepped_refused (stations b) (islands b) (i - 1) (station_at i b) b (station_of_lem i b _ e).1 f)
    (λ k e f. refl)

-- and so does every step of that station that would follow
pub refused_again : (i : ℕ) (b : List ℕ) → accepted (step_on i b).answer.did ≡ false → (k : ℕ)
    → after step_on b (replicate k i) ≡ b
unfolding after
refused_again i b e zero = refl
refused_again i b e (suc k) =
    ap (λ (d : List ℕ). after step_on d (replicate k i)) (step_on_refused i b e) ∙ refused_again i b e k

pub step_refused : (i : ℕ) (b : List ℕ) → accepted (step i b).answer.did ≡ false → (step i b).bytes ≡ b
unfolding step
step_refused i b =
    call_case (λ (a : After (Report Figure)). accepted a.answer.did ≡ false → a.bytes ≡ b)
    (board_refusal b none) refusal b (step_on i b)
    (λ e f. step_on_refused i b f) (λ k e f. refl)
