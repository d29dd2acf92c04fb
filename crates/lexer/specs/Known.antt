-- A number or a figure that stands at a place of a line, as the model's reader finds it there.
-- Relies on the model's numbers and on Placed; the contracts of the known number and figure rely on it.
use Rattle.std.specs.Prelude.{◌≡◌, List, ℕ, drop, Ok}
use Rattle.std.proofs.Math.Option.{some}
use Rattle.model.specs.Figure.{Figure}
use Rattle.model.specs.Forms.{Read, spaced, number_in, figure_in}
use Rattle.lexer.specs.declared.At.{At}
use Rattle.lexer.specs.Placed.{NumberIs, FigureIs}

-- a number up to the size of the largest figure; every other number of a line is below
unfoldable pub NumberStands : List ℕ → ℕ → Type 0
NumberStands line at = (r : Read ℕ) × (number_in 0 2147483648 (drop at line) ≡ some r)

-- the answer is the one that a reader of such a number finds
abbrev pub KnownIs : List ℕ → ℕ → At ℕ → Type 0
KnownIs line at r = NumberIs line at 0 2147483648 (Ok r)

-- a space and a figure behind it
unfoldable pub FigureStands : List ℕ → ℕ → Type 0
FigureStands line at = (r : Read Figure) × (spaced figure_in (drop at line) ≡ some r)

abbrev pub KnownFigureIs : List ℕ → ℕ → At Figure → Type 0
KnownFigureIs line at r = FigureIs line at (Ok r)
