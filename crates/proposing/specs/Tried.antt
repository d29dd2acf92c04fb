-- Pairs that were tried one after another on a sound board.
-- Relies on the model's refusals of pairs and on sets of station numbers; the contract of one pair more relies on it.
use Rattle.std.specs.Prelude.{◌≡◌, Bool, List, [], ◌∷◌, ◌++◌, ℕ, zero, suc}
use Rattle.std.proofs.Math.Option.{none, some}
use Rattle.std.specs.declared.result.Result.{Result}
use Rattle.model.specs.declared.refusal.Refusal.{Refusal}
use Rattle.model.specs.Calls as calls
use Rattle.model.specs.Figure.{Figure}
use Rattle.model.specs.Proposals.{Proposal, named, pairs_refusal}
use Rattle.model.specs.Told.{verdict}
use Rattle.proposing.specs.Flags.{Flagged}
use Rattle.proposing.specs.Lent.{pair_of}

-- the stations that the pairs name are in the array, and the pairs are refused as so_far says
pub record Tried (b : List ℕ) (ps : List Proposal) (flags : List Bool) (so_far : Result (Unit {0}) Refusal) : Type 0 where
  pub stations : Flagged flags (named ps)
  pub refused : verdict so_far ≡ pairs_refusal ps b

-- one pair more of the station i, whatever its figure is
unfoldable pub TriesNext : (b : List ℕ) (flags : List Bool) (i : ℕ) (so_far : Result (Unit {0}) Refusal) (after : List Bool)
    (r : Result (Unit {0}) Refusal) → Type 0
TriesNext b flags i so_far after r =
    (ps : List Proposal) (v : Figure) → Tried b ps flags so_far → Tried b (ps ++ (pair_of i v ∷ [])) after r

-- ---- the same by the refusal's number

-- a refusal by its number; no refusal has the number 0
unfoldable pub numbered : ℕ → calls.Refusal
numbered zero = none
numbered (suc k) = some (suc k)

-- the stations that the pairs name are in the array, and the pairs are refused with the number, 0 for not at all
pub record TriedNumber (b : List ℕ) (ps : List Proposal) (flags : List Bool) (number : ℕ) : Type 0 where
  pub stations : Flagged flags (named ps)
  pub refused : numbered number ≡ pairs_refusal ps b

-- one pair more of the station i, whatever its figure is
unfoldable pub TriesNextNumber : (b : List ℕ) (flags : List Bool) (i number : ℕ) (after : List Bool) (r : ℕ) → Type 0
TriesNextNumber b flags i number after r =
    (ps : List Proposal) (v : Figure) → TriedNumber b ps flags number → TriedNumber b (ps ++ (pair_of i v ∷ [])) after r
