-- A call that tests the board first: what the test answered, as the code then finds it.
-- Relies on the model's calls; the proofs of the public calls rely on it.
use Rattle.std.specs.Prelude.{Ok, Err}
use Rattle.std.specs.declared.result.Result.{Result}
use Rattle.model.proofs.Kit.{◌≡◌, sym, ap, ◌∙◌, List, none, some, ℕ}
use Rattle.model.specs.declared.refusal.Refusal as refusals
use Rattle.model.specs.Calls.{Refusal, board_refusal}
use Rattle.model.specs.Told.{verdict, number}
use Rattle.model.proofs.Calls.Refusals.{board_of_lem, board_passes}

module _ (b : List ℕ) (v : Result (Unit {0}) refusals.Refusal) where
  pub passed : (x : Unit {0}) → v ≡ Ok x → verdict v ≡ board_refusal b none → board_refusal b none ≡ none
  unfolding verdict
  passed x e h = sym h ∙ ap verdict e

  pub turned : (r : refusals.Refusal) → v ≡ Err r → verdict v ≡ board_refusal b none → board_refusal b none ≡ some (number r)
  unfolding verdict
  turned r e h = sym h ∙ ap verdict e

-- a sound board passes its own refusals, whatever comes after them
pub past_board : (b : List ℕ) → board_refusal b none ≡ none → (later : Refusal) → board_refusal b later ≡ later
past_board b sound = board_passes b (board_of_lem b none sound).0
