-- A line that was read as pairs: where they stand, and the answer of its call at each return.
-- Relies on the sheet's Readings, on what a read line holds and on pairs put in together; the proof of `propose_line`
-- relies on it.
use Rattle.model.proofs.Kit.{◌≡◌, refl, sym, ap, subst, ◌∙◌, List, [], ◌∷◌, ◌++◌, none, ℕ, ◌≤◌, length, drop}
use Rattle.model.proofs.Kit.{length-append, arith}
use Rattle.std.specs.Prelude.{Ok, Err}
use Rattle.std.specs.declared.result.Result.{Result}
use Rattle.model.specs.declared.refusal.Refusal.{Refusal}
use Rattle.model.specs.Bytes.{Each}
use Rattle.model.specs.Show.{text, text_from}
use Rattle.model.specs.Calls.{board_refusal}
use Rattle.model.specs.Forms as forms
use Rattle.model.specs.Forms.{found, pairs_in, up_to_stop, first_word, word_place, reads, read_line}
use Rattle.model.specs.Grammar.{written, written_list, written_pair, PairInRange, InRange}
use Rattle.model.specs.Proposals.{Proposal, AllFit}
use Rattle.model.specs.Told.{verdict}
use Rattle.model.proofs.Sheet.Lists.{ListStood, no_more}
use Rattle.model.proofs.Sheet.Pairs.{pairs_read, pairs_stood, pairs_fit}
use Rattle.model.proofs.Sheet.Readers.{Always}
use Rattle.model.proofs.Sheet.WrittenBack.{LineStood, line_stood}
use Rattle.sheet.specs.declared.form.LineForm.TheVariants as line-forms
use Rattle.sheet.specs.LineForms.{line_form}
use Rattle.sheet.proofs.Laws.Readings.{read_as_lem, not_long}
use Rattle.proposing.specs.Answers.{ProposesAll}
use Rattle.proposing.proofs.Laws.Together.{board_refuses_all, pairs_refuse, pairs_free, pairs_put}
use Rattle.line_proposals.specs.LinePairs.{PairsStand, PairsTaken, OfPairs, PairsRefuse, PairsPut, PairsPropose}
use Rattle.line_proposals.specs.LinePairs.{LineCounts, LineHas, ProposesLine}

-- ---- pairs that stand at a place of a line, on a sound board

all_fit : (line : List ℕ) (at : ℕ) (h : PairsStand line at) → AllFit h.pairs
unfolding Always ListStood found
all_fit line at h =
    pairs_fit h.pairs
    (subst (Always (ListStood written_pair PairInRange (drop at line))) h.read (pairs_stood _)).1

module _ (line : List ℕ) (at : ℕ) (b : List ℕ) (sound : board_refusal b none ≡ none) (r : Result (Unit {0}) Refusal)
    (says : PairsRefuse line at b r) where
  pub pairs_refused : (k : Refusal) → r ≡ Err k → PairsPropose line at b (Err k) b
  unfolding OfPairs
  pairs_refused k z ps rest e = pairs_refuse ps b sound r (says ps rest e) k z

  module _ (x : Unit {0}) (z : r ≡ Ok x) where
    pub pairs_taken : PairsStand line at → PairsTaken line at b
    unfolding OfPairs
    pairs_taken h = record {
      stand = h;
      taken = pairs_free h.pairs b sound r (says h.pairs h.rest h.read) x z (all_fit line at h);
    }

    pub pairs_done : (d : List ℕ) → PairsPut line at b d → PairsPropose line at b (Ok tt) d
    unfolding OfPairs
    pairs_done d put ps rest e = pairs_put ps b sound r (says ps rest e) x z d (put ps rest e)

-- ---- a line that was read as pairs

-- behind the word stand the pairs, up to the line's last bracket
behind_word : (ps : List Proposal)
    → drop (word_place (written (forms.proposals ps))) (written (forms.proposals ps))
    ≡ written_list written_pair ps ++ (41 ∷ [])
unfolding word_place first_word up_to_stop written written_list text text_from
behind_word [] = refl
behind_word (p ∷ ps) = refl

module _ (line : List ℕ) (ps : List Proposal) (e : read_line line ≡ reads (forms.proposals ps)) where
  stood : (line ≡ written (forms.proposals ps)) × ((1 ≤ length ps) × Each PairInRange ps)
  unfolding LineStood InRange
  stood = subst (LineStood line) e (line_stood line)

  -- a line that is read has at most 255 bytes, and so fewer pairs
  pub few_pairs : length ps ≤ 255
  unfolding written text text_from
  few_pairs =
      omega (
        arith,
        not_long line _ e,
        no_more written_pair ps,
        ap length stood.0,
        length-append (written_list written_pair ps) (41 ∷ []),
      )

  module _ (at : ℕ) (has : LineHas line at) where
    placed : word_place line ≡ at
    unfolding LineHas LineCounts line_form
    placed =
        let q : reads (line-forms.Proposals (word_place line) (length ps)) ≡ reads (line-forms.Proposals at has.0)
        = sym (ap (line_form (word_place line)) e) ∙ has.1 in cc

    there : pairs_in (drop at line) ≡ found ps []
    there =
        ap (λ (k : ℕ). pairs_in (drop k line)) (sym placed)
        ∙ ap (λ (l : List ℕ). pairs_in (drop (word_place l) l)) stood.0 ∙ ap pairs_in (behind_word ps)
        ∙ pairs_read ps stood.1.1 []

module _ (line : List ℕ) (at : ℕ) (has : LineHas line at) where
  pub pairs_stand : PairsStand line at
  unfolding LineHas LineCounts
  pairs_stand =
      let q = read_as_lem (word_place line) (read_line line) (reads (line-forms.Proposals at has.0)) has.1 in
      record { pairs = q.0; rest = []; read = there line q.0 q.1 at has }

  module _ (b : List ℕ) where
    pub line_proposed : (r : Result (Unit {0}) Refusal) (d : List ℕ) → PairsPropose line at b r d → ProposesLine line b r d
    unfolding OfPairs ProposesLine
    line_proposed r d h ps e = h ps [] (there line ps e at has)

pub line_refused : (line b : List ℕ) (w : Result (Unit {0}) Refusal) (k : Refusal) → w ≡ Err k → verdict w ≡ board_refusal b none
    → ProposesLine line b (Err k) b
unfolding ProposesLine ProposesAll
line_refused line b w k e h ps q = board_refuses_all ps b w k e h

-- what the code finds by itself, on a sound board and of the call
pub ruleset steps = (pairs_refused, pairs_done)

pub ruleset call = (pairs_stand, line_proposed, line_refused)

-- the count that the line was read with is that of its pairs
pub counted : (line : List ℕ) (at count : ℕ) → LineCounts line at count → (ps : List Proposal)
    → read_line line ≡ reads (forms.proposals ps) → count ≡ length ps
unfolding LineCounts line_form
counted line at count has ps e =
    let q : reads (line-forms.Proposals (word_place line) (length ps)) ≡ reads (line-forms.Proposals at count)
    = sym (ap (line_form (word_place line)) e) ∙ has in cc
