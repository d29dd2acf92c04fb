-- Pairs put in together: the answer and bytes at each return, however the pairs were read.
-- Relies on the model's proposals; the proofs of the public call and of a sheet's pairs rely on it.
use Rattle.model.proofs.Kit.{◌≡◌, sym, ap, ◌∙◌, List, [], ◌∷◌, none, some, ℕ, ◌/◌}
use Rattle.std.specs.Prelude.{Ok, Err}
use Rattle.std.specs.declared.result.Result.{Result}
use Rattle.model.specs.declared.refusal.Refusal as refusals
use Rattle.model.specs.Bytes.{Each}
use Rattle.model.specs.Calls.{After, Refusal, board_refusal}
use Rattle.model.specs.Proposals.{Proposal, AllFit, lent_pair, lent_pairs, pairs_refusal, proposals_refusal, one_by_one}
use Rattle.model.specs.Proposals.{propose_all}
use Rattle.model.specs.AnyOrder.{AllAccepted}
use Rattle.model.specs.Told.{verdict, number}
use Rattle.model.proofs.Basics.Numbers.{signed_fits}
use Rattle.model.proofs.Calls.Refusals.{board_first}
use Rattle.model.proofs.Calls.Proposals.{passed_of, all_accepted, together_is, together_turned}
use Rattle.soundness.proofs.Laws.Checked.{turned, past_board}
use Rattle.proposing.specs.Answers.{ProposesAll}

module _ (ps : List Proposal) (b : List ℕ) where
  refuses : (k : refusals.Refusal) → proposals_refusal ps b ≡ some (number k) → ProposesAll ps b (Err k) b
  unfolding ProposesAll verdict
  refuses k e =
      let q = sym (together_turned ps b (number k) e) in
      (ap (λ (a : After Refusal). a.answer) q, ap (λ (a : After Refusal). a.bytes) q)

  pub board_refuses_all : (w : Result (Unit {0}) refusals.Refusal) (k : refusals.Refusal) → w ≡ Err k
      → verdict w ≡ board_refusal b none
      → (verdict (Err k) ≡ (propose_all ps b).answer) × (b ≡ (propose_all ps b).bytes)
  unfolding ProposesAll proposals_refusal
  board_refuses_all w k e h = refuses k (board_first b _ (number k) (turned b w k e h))

  module _ (sound : board_refusal b none ≡ none) (r : Result (Unit {0}) refusals.Refusal)
      (says : verdict r ≡ pairs_refusal ps b) where
    so_refused : proposals_refusal ps b ≡ verdict r
    unfolding proposals_refusal
    so_refused = past_board b sound _ ∙ sym says

    pub pairs_refuse : (k : refusals.Refusal) → r ≡ Err k → ProposesAll ps b (Err k) b
    unfolding verdict
    pairs_refuse k e = refuses k (so_refused ∙ ap verdict e)

    module _ (x : Unit {0}) (e : r ≡ Ok x) where
      free : proposals_refusal ps b ≡ none
      unfolding verdict
      free = so_refused ∙ ap verdict e

      pub pairs_free : AllFit ps → AllAccepted ps b
      pairs_free fits = all_accepted ps b fits (passed_of ps b free)

      pub pairs_put : (d : List ℕ) → d ≡ one_by_one ps b → ProposesAll ps b (Ok tt) d
      unfolding ProposesAll verdict
      pairs_put d q =
          let all = sym (together_is ps b free) in
          (ap (λ (a : After Refusal). a.answer) all, q ∙ ap (λ (a : After Refusal). a.bytes) all)

pub as_promised : (ps : List Proposal) (b : List ℕ) (r : Result (Unit {0}) refusals.Refusal) (d : List ℕ) → ProposesAll ps b r d
    → (verdict r ≡ (propose_all ps b).answer) × (d ≡ (propose_all ps b).bytes)
unfolding ProposesAll
as_promised ps b r d h = h

-- a lent figure has 32 bits
pub lent_fit : (xs : List ℕ) → AllFit (lent_pairs xs)
unfolding AllFit Each lent_pairs lent_pair
lent_fit [] = tt
lent_fit (x ∷ xs) = (signed_fits (x / 4294967296), lent_fit xs)

-- what each step of the call has to show
pub ruleset call = (board_refuses_all, as_promised)
