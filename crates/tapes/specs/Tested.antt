-- A tape tested up to a place: all of it is step answers, or the line that begins there is none.
-- Relies on the model's tapes; the contract of `entries_end` relies on it.
use Rattle.std.specs.Prelude.{◌≡◌, true, false, List, ℕ, ◌≤◌, ◌<◌, length}
use Rattle.model.specs.Sheet.{lines_of}
use Rattle.model.specs.Tape.{taped}

pub record Tested (tape : List ℕ) (end : ℕ) : Type 0 where
  pub whole : length tape ≤ end → taped (lines_of tape) ≡ true
  pub broken : end < length tape → taped (lines_of tape) ≡ false
