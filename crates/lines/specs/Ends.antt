-- The place where a line ends.
-- Relies on the model's lines; the contract of `line_end` relies on it.
use Rattle.std.specs.Prelude.{◌≡◌, List, ◌∷◌, ℕ, ◌+◌, ◌-◌, ◌≤◌, ◌<◌, length, take, drop}
use Rattle.model.specs.Sheet.{lines_of}

-- The line at `at` goes up to the place `end`, and the lines behind it begin after that.
pub record LineEnd (s : List ℕ) (at end : ℕ) : Type 0 where
  pub behind : at ≤ end
  pub inside : end ≤ length s
  pub lines : at < length s → lines_of (drop at s) ≡ take (end - at) (drop at s) ∷ lines_of (drop (end + 1) s)
