-- A set of station numbers as an array: entry i says whether the number i is in it.
-- Relies on the model's `names`; the contracts of those who name stations one after another rely on it.
use Rattle.std.specs.Prelude.{◌≡◌, Bool, false, List, [], ◌∷◌, ◌++◌, ℕ, ◌≤◌, length, get_or}
use Rattle.model.specs.Bytes.{names}

-- the array holds the numbers of a list, as far as a byte can be one
pub record Flagged (flags : List Bool) (is : List ℕ) : Type 0 where
  pub size : length flags ≡ 256
  pub holds : (i : ℕ) → i ≤ 255 → get_or flags i false ≡ names i is

-- r says whether the number i is in a list, which the array `after` holds with i at its end; for any list that the
-- array held
unfoldable pub Names : (flags : List Bool) (i : ℕ) (after : List Bool) (r : Bool) → Type 0
Names flags i after r = (is : List ℕ) → Flagged flags is → Flagged after (is ++ (i ∷ [])) × (r ≡ names i is)
