-- A set of suspended stations as an array: entry i − 1 says whether station i is in it.
-- Relies on the model's rounds; the contracts of one round and of the readers of rounds rely on it.
use Rattle.std.specs.Prelude.{◌≡◌, Bool, false, ◌||◌, List, ℕ, ◌-◌, ◌≤◌, eqb, length, get_or}
use Rattle.model.specs.Bytes.{names}

unfoldable pub suspended : List Bool → ℕ → Bool
suspended halted i = get_or halted (i - 1) false

-- the array holds the stations that a round names, as far as a board can have them
pub record Suspends (halted : List Bool) (round : List ℕ) : Type 0 where
  pub size : length halted ≡ 16
  pub holds : (i : ℕ) → 1 ≤ i → i ≤ 16 → suspended halted i ≡ names i round

-- the array r holds one station more
pub record Adds (halted : List Bool) (station : ℕ) (r : List Bool) : Type 0 where
  pub size : length r ≡ 16
  pub holds : (i : ℕ) → 1 ≤ i → i ≤ 16 → suspended r i ≡ suspended halted i || eqb i station
