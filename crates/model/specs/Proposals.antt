-- 02, Four, figures put in together: the proposals of several stations in one call, all of them or none.
-- Relies on the calls; the sheet's pairs, the public call and the claim that any order serves rely on it.
use Rattle.std.specs.Prelude.{Bool, true, not, ◌&&◌, List, [], ◌∷◌, ℕ, ◌/◌, ◌%◌, map}
use Rattle.std.proofs.Math.Option.{none, some}
use Rattle.std.specs.Int.{w32}
use Rattle.std.proofs.Common.{to_z, SFits}
use Rattle.model.specs.Bytes.{names, Each}
use Rattle.model.specs.Figure.{Figure}
use Rattle.model.specs.Calls.{After, Refusal, unless, unless_refused, board_refusal, proposal_refusal, propose}

-- A pair: a station's number and the figure that it proposes.
pub record Proposal : Type 0 where
  pub station : ℕ
  pub figure : Figure

-- "A figure is a signed 32-bit whole number"
unfoldable pub AllFit : List Proposal → Type 0
AllFit ps = Each (λ p. SFits w32 p.figure) ps

-- ---- their refusals

-- the stations that pairs name, as written
unfoldable pub named : List Proposal → List ℕ
named ps = map (λ (p : Proposal). p.station) ps

-- no number stands in a list twice
unfoldable pub each_once : List ℕ → Bool
each_once [] = true
each_once (i ∷ is) = not (names i is) && each_once is

-- a refusal, and where there is none a later one
abbrev pub or_later : Refusal → Refusal → Refusal
or_later r later = elim r [ none ↦ later | some k ↦ some k ]

-- "Then pairs are tried as written, 12 before 13 in each, and the first fault is answered."; 22 "between 12 and 13"
unfoldable pub first_fault : List Proposal → List ℕ → Refusal
first_fault [] b = none
first_fault (p ∷ ps) b = or_later (proposal_refusal p.station b) (first_fault ps b)

-- what a sound board refuses of pairs: "before 12: 20, a station is named twice", whether or not the board has it
unfoldable pub pairs_refusal : List Proposal → List ℕ → Refusal
pairs_refusal ps b = unless (each_once (named ps)) 20 (first_fault ps b)

-- and before that the board's own refusals
unfoldable pub proposals_refusal : List Proposal → List ℕ → Refusal
proposals_refusal ps b = board_refusal b (pairs_refusal ps b)

-- ---- the call

-- single proposals as written, each lent "the board exactly as the call before left it"
unfoldable pub one_by_one : List Proposal → List ℕ → List ℕ
one_by_one [] b = b
one_by_one (p ∷ ps) b = one_by_one ps (propose p.station p.figure b).bytes

-- "All are accepted or none"; every pair is tried on the board as it was lent, before any is put in
unfoldable pub propose_all : List Proposal → List ℕ → After Refusal
propose_all ps b = unless_refused (proposals_refusal ps b) some b (record { answer = none; bytes = one_by_one ps b })

-- The pairs as a library caller lends them, each as one number: bits 0 to 7 the station, 32 to 63 the figure's 32 bits
-- of two's complement, those between not looked at. Any numbers are pairs, and no numbers are no pair.
unfoldable pub lent_pair : ℕ → Proposal
lent_pair x = record { station = x % 256; figure = to_z w32 (x / 4294967296) }

unfoldable pub lent_pairs : List ℕ → List Proposal
lent_pairs xs = map lent_pair xs
