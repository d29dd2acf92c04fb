-- Whether something was read, the fields behind a kind's word, and those of an answer that ends a collect.
-- Relies on the model's tape line; the contracts of the reader of a tape line rely on it.
use Rattle.std.specs.Prelude.{◌≡◌, Bool, true, false, List, ℕ, drop}
use Rattle.std.proofs.Math.Option.{Option, none, some}
use Rattle.model.specs.Figure.{Figure}
use Rattle.model.specs.Filled.{Report}
use Rattle.model.specs.Forms.{WordRow}
use Rattle.model.specs.Listing.{Answer}
use Rattle.model.specs.Tape.{end_in}

-- something was read
unfoldable pub given : {A : Type 0} → Option A → Bool
given none = false
given (some a) = true

-- what the row of a word reads of the bytes behind the word
unfoldable pub by_row : Option (WordRow (Report Figure)) → List ℕ → Option (Report Figure)
by_row none l = none
by_row (some r) l = r.reader l

-- the fields at `at` are those of an answer that ends a collect, whichever it is
pub record EndsIs (line : List ℕ) (at low high : ℕ) (r : Bool) : Type 0 where
  pub ends : (answer : ℕ → Figure → Answer Figure) → r ≡ given (end_in low high answer (drop at line))
