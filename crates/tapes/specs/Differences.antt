-- A line by its number and its place on a tape, and the first one that differs on two tapes.
-- Relies on the model's tapes; the contract of `first_difference` and of the comparison rely on it.
use Rattle.std.specs.Prelude.{◌≡◌, List, ℕ, ◌-◌, ◌≤◌, length, take, drop, Some, None}
use Rattle.std.specs.declared.option.Option.{Option}
use Rattle.std.proofs.Math.Option.{none, some}
use Rattle.model.specs.Sheet.{lines_of}
use Rattle.model.specs.Tape.{line_at, line_start, differ_from}
use Rattle.tapes.specs.declared.difference.Gap.{Gap}

-- the line with this number stands on the tape from one place up to another
pub record Stands (tape : List ℕ) (number start end : ℕ) : Type 0 where
  pub line : line_at number (lines_of tape) ≡ some (take (end - start) (drop start tape))
  pub begins : line_start number (lines_of tape) ≡ start
  pub order : start ≤ end
  pub inside : end ≤ length tape

-- both tapes have a line with this number, and it is the first at which they differ
pub record DifferAt (a b : List ℕ) (g : Gap) : Type 0 where
  pub number : differ_from 0 (lines_of a) (lines_of b) ≡ some g.number
  pub first : Stands a g.number g.start g.first
  pub second : Stands b g.number g.start g.second

unfoldable pub GapIs : (a b : List ℕ) → Option Gap → Type 0
GapIs a b (Some g) = DifferAt a b g
GapIs a b None = differ_from 0 (lines_of a) (lines_of b) ≡ none
