-- A number that is read off one station's record, left by the station's proposal and raised by one by each accepted
-- step of it: along a list of calls it grows by those steps, and by nothing else.
-- Relies on OneRecord; the count of steps and the steps of a station where all propose one figure rely on it.
use Rattle.model.proofs.Kit.{◌≡◌, refl, ap, ◌∙◌, true, ◌&&◌, cond, List, [], ◌∷◌, none, ℕ, ◌+◌, ◌-◌, ◌≤◌, eqb}
use Rattle.model.proofs.Kit.{eq-eqb, ne_eqb, ℕ_discrete, arith}
use Rattle.model.specs.Figure.{Figure}
use Rattle.model.specs.Listing.{accepted}
use Rattle.model.specs.Layout.{record_of}
use Rattle.model.specs.Calls.{propose, step}
use Rattle.model.specs.AnyList.{Call, laying, proposing, stepping, called, after, Allowed, AllAllowed}
use Rattle.model.specs.StepCount.{steps_by, steps_in}
use Rattle.model.proofs.Basics.Tests.{by_test}
use Rattle.model.proofs.Board.Codec.{Fits}
use Rattle.model.proofs.Calls.Refused.{lay_refused, step_refused}
use Rattle.model.proofs.Bridge.Single.{Ready}
use Rattle.model.proofs.Bridge.OneRecord.{other_step, by_proposal}
use Rattle.model.proofs.Bridge.Lists.{ready_along}

-- the number that `of` reads off the record of station number i
module _ (n K i : ℕ) (low : 1 ≤ i) (high : i ≤ n) (of : List ℕ → ℕ) where
  abbrev count : List ℕ → ℕ
  count b = of (record_of n K (i - 1) b)

  -- what the station's own calls do to it on the board b
  pub record Counts (b : List ℕ) : Type 0 where
    pub proposes : (v : Figure) → Fits v → (propose i v b).answer ≡ none → count (propose i v b).bytes ≡ count b
    pub steps : accepted (step i b).answer.did ≡ true → count (step i b).bytes ≡ count b + 1

  module _ (b : List ℕ) (r : Ready n K b) (h : Counts b) where
    stepping_adds : (k : ℕ) → count (step k b).bytes ≡ count b + steps_by i (stepping k) b
    unfolding steps_by
    stepping_adds k = go (ℕ_discrete i k)
      where
        go : Dec (i ≡ k) → count (step k b).bytes ≡ count b + cond (eqb i k && accepted (step k b).answer.did) 1 0
        go (yes e) =
            rw (← e, eq-eqb i i refl)
            (by_test (accepted (step i b).answer.did) (λ a. rw a (h.steps a))
            (λ a. rw (step_refused i b a, a) (omega arith)))
        go (no f) = rw (ne_eqb i k f) (ap of (other_step n K i b r low high k f) ∙ omega arith)

    call_adds : (c : Call) → Allowed c b → count (called c b) ≡ count b + steps_by i c b
    unfolding called Allowed steps_by Fits
    call_adds (laying m L) a = rw (lay_refused m L b a.0 a.1) (omega arith)
    call_adds (proposing k v) a =
        by_proposal n K i b r low high (λ d. count d ≡ count b) (λ d. ap of) k v (h.proposes v a) ∙ omega arith
    call_adds (stepping k) a = stepping_adds k

  -- Along a list from a board for which P tells enough of the calls to come.
  pub list_adds : (P : List Call → List ℕ → Type 0)
      → ((c : Call) (cs : List Call) (b : List ℕ) → Ready n K b → Allowed c b → P (c ∷ cs) b
      → Counts b × P cs (called c b))
      → (cs : List Call) (b : List ℕ) → Ready n K b → AllAllowed cs b → P cs b
      → (count (after cs b) ≡ count b + steps_in i cs b) × Ready n K (after cs b)
  unfolding after AllAllowed steps_in
  list_adds P f [] b r a p = (omega arith, r)
  list_adds P f (c ∷ cs) b r a p =
      let (h, q) = f c cs b r a.0 p in
      let rest = list_adds P f cs (called c b) (ready_along n K c b r a.0) a.1 q in
      (omega (arith, rest.0, call_adds b r h c a.0), rest.1)
