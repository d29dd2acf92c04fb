-- What rounds ask of a board, as one number: how many stations it must have, and 255 for rounds that no board takes.
-- Relies on no definition of the model; the contracts of the lent rounds and of a line's rounds rely on it.
use Rattle.std.specs.Prelude.{cond, List, [], ◌∷◌, ℕ, max, leb, ltb, length}

-- a station after `last`, which it must be above
unfoldable pub climb : (last i : ℕ) → ℕ
climb last i = cond (ltb last i) i 255

-- the highest station of a round that rises from `last`
unfoldable pub climbs : (last : ℕ) → List ℕ → ℕ
climbs last [] = last
climbs last (i ∷ is) = climbs (climb last i) is

-- a round that climbs to `last` with so many stations, of which it may have k
unfoldable pub closed : (last count k : ℕ) → ℕ
closed last count k = cond (leb count k) last 255

unfoldable pub round_needs : (k : ℕ) → List ℕ → ℕ
round_needs k r = closed (climbs 0 r) (length r) k

unfoldable pub needs : (k : ℕ) → List (List ℕ) → ℕ
needs k [] = 0
needs k (r ∷ rs) = max (round_needs k r) (needs k rs)
