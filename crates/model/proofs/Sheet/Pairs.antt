-- Pairs as they are written: the reader finds in them those pairs, and takes nothing else for them.
-- Relies on the reading of numbers and of lists; both directions of the grammar rely on it.
use Rattle.model.proofs.Kit.{◌≡◌, sym, ap, ◌∙◌, List, [], ◌∷◌, ◌++◌, append_assoc, some, ℕ, ◌≤◌, lit<}
use Rattle.model.proofs.Kit.{◌+◌, eqb, eqb-true, length, drop, length-append, w32, SFits, arith}
use Rattle.model.specs.Bytes.{byte, Each}
use Rattle.model.specs.Show.{text_from, text, decimal, signed}
use Rattle.model.specs.Proposals.{Proposal, AllFit}
use Rattle.model.specs.Forms.{proposals, found, spaced, number_in, figure_in, pair_in, pairs_in, same, together_in}
use Rattle.model.specs.Grammar.{written_list, written_pair, PairInRange}
use Rattle.model.proofs.Sheet.Readers.{Always, always_then, always_if}
use Rattle.model.proofs.Sheet.Numbers.{Stops, then_found, figure_signed}
use Rattle.model.proofs.Sheet.NumbersBack.{Stood, in_front, spaced_stood, figure_stood}
use Rattle.model.proofs.Sheet.Lists.{station_read, bracket_stops, space_stops, list_read, ListStood, list_stood}
use Rattle.model.proofs.Sheet.Lists.{station_stood}

pub pair_regrouped : (p : Proposal) (rest : List ℕ)
    → written_pair p ++ rest ≡ 40 ∷ (decimal p.station ++ (32 ∷ (signed p.figure ++ (41 ∷ rest))))
unfolding written_pair text text_from
pair_regrouped p rest = simp append_assoc

-- ---- what is read of written pairs

pub pair_read : (p : Proposal) → PairInRange p → (rest : List ℕ) → Stops rest
    → pair_in (written_pair p ++ rest) ≡ found p rest
unfolding pair_in spaced PairInRange found
pair_read p h rest s =
    ap pair_in (pair_regrouped p rest) ∙ then_found _ (station_read p.station h.0 _ (space_stops _))
    ∙ then_found _ (figure_signed p.figure h.1 _ (bracket_stops rest))

pub pairs_read : (ps : List Proposal) → Each PairInRange ps → (rest : List ℕ)
    → pairs_in (written_list written_pair ps ++ (41 ∷ rest)) ≡ found ps rest
unfolding pairs_in
pairs_read ps h rest =
    list_read written_pair pair_in PairInRange pair_read ps _
    (omega (arith, length-append (written_list written_pair ps) (41 ∷ rest))) h rest

pub together_read : (ps : List Proposal) → Each PairInRange ps
    → together_in (written_list written_pair ps ++ (41 ∷ [])) ≡ some (proposals ps)
unfolding together_in same
together_read ps h = then_found _ (pairs_read ps h [])

-- ---- what the reader takes for pairs

pub pair_stood : (l : List ℕ) → Always (Stood written_pair PairInRange l) (pair_in l)
unfolding pair_in Stood PairInRange found Always
pair_stood l =
    let P = Stood written_pair PairInRange l in
    always_if P (eqb (byte l 0) 40) _
    (λ e. always_then (Stood decimal (λ i. i ≤ 99) (drop 1 l)) P (number_in 0 99 (drop 1 l)) _ (station_stood (drop 1 l))
    (λ r t. always_then (Stood (λ v. 32 ∷ signed v) (SFits w32) r.rest) P (spaced figure_in r.rest) _
    (spaced_stood signed (SFits w32) figure_in r.rest figure_stood)
    (λ s u. always_if P (eqb (byte s.rest 0) 41) _
    (λ q. (
      in_front l 40 (lit< tt) (eqb-true (byte l 0) 40 e)
          ∙ ap (λ (x : List ℕ). 40 ∷ x)
          (t.0 ∙ ap (λ (x : List ℕ). decimal r.value ++ x)
          (u.0 ∙ ap (λ (x : List ℕ). 32 ∷ (signed s.value ++ x))
          (in_front s.rest 41 (lit< tt) (eqb-true (byte s.rest 0) 41 q))))
          ∙ sym (pair_regrouped (record { station = r.value; figure = s.value }) (drop 1 s.rest)),
      (t.1, u.1),
    )))))

pub pairs_stood : (l : List ℕ) → Always (ListStood written_pair PairInRange l) (pairs_in l)
unfolding pairs_in
pairs_stood l = list_stood written_pair PairInRange pair_in pair_stood (length l + 1) l

-- a bracket behind the space is that of a first pair
pub one_at_least : (ps : List Proposal) → byte (written_list written_pair ps ++ (41 ∷ [])) 1 ≡ 40 → 1 ≤ length ps
unfolding written_list
one_at_least [] e = absurd (let z : ◌≡◌ {A = ℕ} 0 40 = e in omega arith)
one_at_least (p ∷ ps) e = omega arith

-- pairs that a line can name have figures of 32 bits
pub pairs_fit : (ps : List Proposal) → Each PairInRange ps → AllFit ps
unfolding Each PairInRange AllFit
pairs_fit [] h = tt
pairs_fit (p ∷ ps) h = (h.0.1, pairs_fit ps h.1)
