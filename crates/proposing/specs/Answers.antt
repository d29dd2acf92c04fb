-- What a proposal, and pairs put in together, answer and leave on a sound board.
-- Relies on the model's proposals; the contracts of the inner functions and of a sheet's pairs rely on it.
use Rattle.std.specs.Prelude.{◌≡◌, List, ℕ}
use Rattle.std.specs.declared.result.Result.{Result}
use Rattle.model.specs.declared.refusal.Refusal.{Refusal}
use Rattle.model.specs.Figure.{Figure}
use Rattle.model.specs.Calls.{propose}
use Rattle.model.specs.Proposals.{Proposal, propose_all}
use Rattle.model.specs.Told.{verdict}

-- a proposal's answer r and bytes d, as the model gives them
unfoldable pub Proposes : (i : ℕ) (v : Figure) (b : List ℕ) (r : Result (Unit {0}) Refusal) (d : List ℕ) → Type 0
Proposes i v b r d = (verdict r ≡ (propose i v b).answer) × (d ≡ (propose i v b).bytes)

-- and of pairs
unfoldable pub ProposesAll : (ps : List Proposal) (b : List ℕ) (r : Result (Unit {0}) Refusal) (d : List ℕ) → Type 0
ProposesAll ps b r d = (verdict r ≡ (propose_all ps b).answer) × (d ≡ (propose_all ps b).bytes)
