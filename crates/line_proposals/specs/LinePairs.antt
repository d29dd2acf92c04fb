-- Pairs as they stand in a line.
-- Relies on the model's reader of pairs and on proposals put in together; the contracts of the crate rely on it.
use Rattle.std.specs.Prelude.{◌≡◌, List, ℕ, ◌≤◌, ◌<◌, length, drop}
use Rattle.std.specs.declared.result.Result.{Result}
use Rattle.model.specs.declared.refusal.Refusal.{Refusal}
use Rattle.model.specs.Proposals.{Proposal, pairs_refusal, one_by_one}
use Rattle.model.specs.AnyOrder.{AllAccepted}
use Rattle.model.specs.Forms as forms
use Rattle.model.specs.Forms.{found, pair_in, pairs_in, word_place, reads, read_line}
use Rattle.model.specs.Told.{verdict}
use Rattle.lexer.specs.declared.At.{At}
use Rattle.pair_reader.specs.declared.Pair.{Pair}
use Rattle.sheet.specs.declared.form.LineForm.TheVariants.{Proposals}
use Rattle.sheet.specs.LineForms.{line_form}
use Rattle.proposing.specs.Answers.{ProposesAll}

-- a pair stands at `at`
pub record PairStands (line : List ℕ) (at : ℕ) : Type 0 where
  pub pair : Proposal
  pub rest : List ℕ
  pub read : pair_in (drop at line) ≡ found pair rest

-- the pair at `at`, with the place where the rest of the line begins
pub record PairRead (line : List ℕ) (at : ℕ) (pair : Proposal) (rest : List ℕ) (r : At Pair) : Type 0 where
  pub station : r.value.station ≡ pair.station
  pub figure : r.value.figure ≡ pair.figure
  pub follows : drop r.next line ≡ rest
  pub behind : at < r.next
  pub inside : r.next ≤ length line

unfoldable pub PairIs : (line : List ℕ) (at : ℕ) → At Pair → Type 0
PairIs line at r =
    (pair : Proposal) (rest : List ℕ) → pair_in (drop at line) ≡ found pair rest → PairRead line at pair rest r

-- pairs stand from `at` on, each behind a space, up to the closing bracket
pub record PairsStand (line : List ℕ) (at : ℕ) : Type 0 where
  pub pairs : List Proposal
  pub rest : List ℕ
  pub read : pairs_in (drop at line) ≡ found pairs rest

-- and the board d takes every one of them
pub record PairsTaken (line : List ℕ) (at : ℕ) (d : List ℕ) : Type 0 where
  pub stand : PairsStand line at
  pub taken : AllAccepted stand.pairs d

-- what holds of the pairs that stand there
unfoldable pub OfPairs : (line : List ℕ) (at : ℕ) → (List Proposal → Type 0) → Type 0
OfPairs line at P = (ps : List Proposal) (rest : List ℕ) → pairs_in (drop at line) ≡ found ps rest → P ps

-- the board b refuses them as r says
abbrev pub PairsRefuse : (line : List ℕ) (at : ℕ) (b : List ℕ) → Result (Unit {0}) Refusal → Type 0
PairsRefuse line at b r = OfPairs line at (λ ps. verdict r ≡ pairs_refusal ps b)

-- put in on the board b they leave the board d
abbrev pub PairsPut : (line : List ℕ) (at : ℕ) (b d : List ℕ) → Type 0
PairsPut line at b d = OfPairs line at (λ ps. d ≡ one_by_one ps b)

-- and the whole call on a sound board
abbrev pub PairsPropose : (line : List ℕ) (at : ℕ) (b : List ℕ) → Result (Unit {0}) Refusal → List ℕ → Type 0
PairsPropose line at b r d = OfPairs line at (λ ps. ProposesAll ps b r d)

-- the line was read as so many pairs, which stand from `at` on
unfoldable pub LineCounts : (line : List ℕ) (at count : ℕ) → Type 0
LineCounts line at count = line_form (word_place line) (read_line line) ≡ reads (Proposals at count)

unfoldable pub LineHas : (line : List ℕ) (at : ℕ) → Type 0
LineHas line at = (count : ℕ) × LineCounts line at count

-- and its pairs are put in as the call for several stations puts them in
unfoldable pub ProposesLine : (line b : List ℕ) → Result (Unit {0}) Refusal → List ℕ → Type 0
ProposesLine line b r d =
    (ps : List Proposal) → read_line line ≡ reads (forms.proposals ps) → ProposesAll ps b r d
