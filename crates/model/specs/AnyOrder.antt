-- 02, Four, of proposals put in together: "the board afterwards equals that of single proposals in any order".
-- Relies on the proposals and on the kit's permutations of a list; proofs/Calls/AnyOrder.antt proves `AnyOrder`.
use Rattle.std.specs.Prelude.{List, [], ◌∷◌, ℕ, ◌≡◌}
use Rattle.std.proofs.Math.Option.{none}
use mathlib.Core.List.{Permᴰ}
use Rattle.model.specs.Calls.{propose}
use Rattle.model.specs.Claims.{Passes}
use Rattle.model.specs.Proposals.{Proposal, AllFit, one_by_one, propose_all}

-- each single proposal is accepted, lent the board as the one before left it
unfoldable pub AllAccepted : List Proposal → List ℕ → Type 0
AllAccepted [] b = Unit {0}
AllAccepted (p ∷ ps) b =
    ((propose p.station p.figure b).answer ≡ none) × AllAccepted ps (propose p.station p.figure b).bytes

-- Any order qs of the pairs ps:
pub record AnyOrder : Type 0 where
  -- where they are accepted together, each is accepted by itself in that order ..
  pub each : (ps qs : List Proposal) → Permᴰ ps qs → AllFit ps → (b : List ℕ) → (propose_all ps b).answer ≡ none
      → AllAccepted qs b
  -- .. and the board afterwards is the same;
  pub same : (ps qs : List Proposal) → Permᴰ ps qs → AllFit ps → (b : List ℕ) → (propose_all ps b).answer ≡ none
      → (propose_all ps b).bytes ≡ one_by_one qs b
  -- where each is accepted by itself in that order, on a sound board, they are accepted together.
  pub together : (ps qs : List Proposal) → Permᴰ ps qs → AllFit ps → (b : List ℕ) → Passes b → AllAccepted qs b
      → (propose_all ps b).answer ≡ none
