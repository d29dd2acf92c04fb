-- Where a byte stands first in a list.
-- Relies on the model for the equality of numbers; the contract of `find` relies on it.
use Rattle.std.specs.Prelude.{eqb, List, [], ◌∷◌, ℕ, suc, cond}

-- how many bytes stand in front of the first `mark`, and their number where there is none
unfoldable pub index_of : (mark : ℕ) → List ℕ → ℕ
index_of mark [] = 0
index_of mark (b ∷ bs) = cond (eqb b mark) 0 (suc (index_of mark bs))
