-- Figures: signed 32-bit whole numbers, as two's complement bytes, and their order.
-- Relies on Bytes; the layout, soundness and the calls rely on it.
use Rattle.std.specs.Prelude.{Bool, false, ◌&&◌, ◌||◌, List, ℕ, eqb, ltb, ℤ, pos, negsuc, nat_abs}
use Rattle.std.specs.Int.Signed.{lt_z}
use Rattle.std.specs.Int.{w32}
use Rattle.std.proofs.Common.{to_z, of_z}
use Rattle.model.specs.Bytes.{number, digits}
use Rattle.model.specs.Listing.{Order}

-- "A figure is a signed 32-bit whole number; its full width is allowed." The field's term is value.
-- `pos n` is the number n and `negsuc n` the number −(n + 1).
abbrev pub Figure : Type 0
Figure = ℤ

-- "figures in two's complement": the figure that four bytes hold, and the four bytes of a figure
unfoldable pub figure : List ℕ → Figure
figure b = to_z w32 (number b)

unfoldable pub figure_bytes : Figure → List ℕ
figure_bytes v = digits 4 (of_z w32 v)

-- "one figure only", "different figures"
unfoldable pub same_figure : Figure → Figure → Bool
same_figure (pos a) (pos b) = eqb a b
same_figure (pos a) (negsuc b) = false
same_figure (negsuc a) (pos b) = false
same_figure (negsuc a) (negsuc b) = eqb a b

-- "a correction counts by its size without sign; of two equal sizes the positive is larger. So 0, −1, 1, −2, 2 rise."
-- x is above y: y has the lesser size (`nat_abs`), or they have one size and x, the greater number, is the positive one.
-- This is the one place that knows the order.
unfoldable pub above : Figure → Figure → Bool
above x y = ltb (nat_abs y) (nat_abs x) || (eqb (nat_abs y) (nat_abs x) && lt_z y x)

-- what the listing asks of figures
unfoldable pub figures : Order Figure
figures = record { same = same_figure; above = above }
