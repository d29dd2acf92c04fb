-- What rounds ask of a board, and whether a board refuses rounds that ask so much.
-- Relies on the model's rounds and on what rounds need; the contracts of the lent rounds and the refusals rely on it.
use Rattle.std.specs.Prelude.{◌≡◌, List, ℕ, length}
use Rattle.std.specs.declared.result.Result.{Result}
use Rattle.model.specs.declared.refusal.Refusal as refusals
use Rattle.model.specs.Rounds.{lent_rounds, rounds_refusal}
use Rattle.model.specs.Told.{verdict}
use Rattle.halts.specs.Needs as halts
use Rattle.rounds.specs.declared.lent.Asked.{Asked}

-- the verdict r on a call with any rounds that need so much
unfoldable pub Refuses : (needs : ℕ) (b : List ℕ) (r : Result (Unit {0}) refusals.Refusal) → Type 0
Refuses needs b r = (k : ℕ) (rs : List (List ℕ)) → halts.needs k rs ≡ needs → verdict r ≡ rounds_refusal k rs b

-- of the rounds of a lent list: how many they are, and what they need
pub record Asks (most : ℕ) (named : List ℕ) (r : Asked) : Type 0 where
  pub rounds : r.rounds ≡ length (lent_rounds named)
  pub needs : r.needs ≡ halts.needs most (lent_rounds named)
