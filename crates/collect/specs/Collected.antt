-- What a collect has seen, read off a record's fields and put back into them.
-- Relies on the layout of the seen fields; the contracts of the reads rely on it.
use Rattle.std.specs.Prelude.{◌≡◌, [], ◌∷◌, ℕ}
use Rattle.model.specs.declared.Record.{Record}
use Rattle.model.specs.declared.Register as Fields
use Rattle.collect.specs.declared.Turn as Coded
use Rattle.collect.specs.declared.Turn.TheVariants.{M, A, B}
use Rattle.model.specs.Figure.{Figure, figures}
use Rattle.model.specs.Listing.{Flag, Turn, turn_m, turn_a, turn_b, Seen, nothing, seen, third, add, see}
use Rattle.model.specs.Layout.{seen_number, best_island, best_figure, seen_of, register_value, changed, seen_is, highest_is}
use Rattle.model.specs.Layout.{best_is}

unfoldable pub collected : Record → Seen Figure
collected f = seen_of f.seen f.highest f.best

unfoldable pub noting : Record → (seen highest : ℕ) (best : Figure) → Record
noting f s k y = changed (seen_is s ∷ highest_is k ∷ best_is y ∷ []) f

unfoldable pub with_seen : Record → Seen Figure → Record
with_seen f a = noting f (seen_number a) (best_island a) (best_figure a)

-- the seen fields are those of what they stand for: seen is at most 3, and the best fields are zero while it is 0
unfoldable pub Kept : Record → Type 0
Kept f = with_seen f (collected f) ≡ f

-- a record after one more register was read
unfoldable pub seeing : Turn → Record → Fields.Register → Record
seeing t f g = with_seen f (see figures t (collected f) (register_value g))

-- the turn of the listing, which in B knows the flag f that the station itself wrote
unfoldable pub turn_of : Coded.Turn → (f : Flag) → Turn
turn_of M f = turn_m
turn_of A f = turn_a
turn_of B f = turn_b f

-- the record r is f after one more entry of m, with island k and figure y, and after one more of A
unfoldable pub AddsM : (f : Record) (k : ℕ) (y : Figure) (r : Record) → Type 0
AddsM f k y r = (d : Flag) → r ≡ with_seen f (add figures turn_m (collected f) d k y)

unfoldable pub AddsA : (f : Record) (y : Figure) (r : Record) → Type 0
AddsA f y r = (d : Flag) (k : ℕ) → r ≡ with_seen f (add figures turn_a (collected f) d k y)

-- the record r is f after one more entry of B, with flag d and figure y; the flag e that
-- the station itself wrote does not matter
unfoldable pub Adds : (d : Flag) (f : Record) (y : Figure) (r : Record) → Type 0
Adds d f y r = (e : Flag) → r ≡ with_seen f (add figures (turn_b e) (collected f) d 0 y)

-- what a collect ends with: where nothing was seen, the station's own pair
unfoldable pub ended_seen : (c : ℕ) (x : Figure) → Seen Figure → Seen Figure
ended_seen c x nothing = seen third c x
ended_seen c x (seen g k y) = seen g k y
