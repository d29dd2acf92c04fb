-- The answer of a comparison, whatever its refusal is, as the model's Told has it of a refusal of the list.
-- Relies on the model's comparison; the contracts of the crate rely on it.
use Rattle.std.specs.Prelude.{List, ℕ, Ok, Err, Some, None}
use Rattle.std.specs.declared.option.Option as options
use Rattle.std.specs.declared.result.Result.{Result}
use Rattle.model.specs.declared.Difference.{Difference}
use Rattle.model.specs.Tape.{Compared, not_compared, alike, differs}
use Rattle.model.specs.Told.{tap_told}
use Rattle.tape_numbers.specs.Numbers.{tap_number, two_in}

-- where the refusal is a number, whichever it is
unfoldable pub comparison_of : Result (options.Option Difference) ℕ → Compared
comparison_of (Ok None) = alike
comparison_of (Ok (Some d)) = differs d.line (tap_told d.tap)
comparison_of (Err k) = not_compared k

module _ {E : Type 0} where
  -- what stands in the list: the line number and the tape, and beside a refusal what stood there
  unfoldable pub found_of : Result (options.Option Difference) E → List ℕ → List ℕ
  found_of (Ok None) l = two_in 0 0 l
  found_of (Ok (Some d)) l = two_in d.line (tap_number (tap_told d.tap)) l
  found_of (Err e) l = l

  -- the tape of the culprit's line, where that line starts there, and its length; a refusal has none
  unfoldable pub culprit_of : Result (options.Option Difference) E → ℕ
  culprit_of (Ok None) = 0
  culprit_of (Ok (Some d)) = tap_number (tap_told d.tap)
  culprit_of (Err e) = 0

  unfoldable pub start_of : Result (options.Option Difference) E → ℕ
  start_of (Ok None) = 0
  start_of (Ok (Some d)) = d.start
  start_of (Err e) = 0

  unfoldable pub length_of : Result (options.Option Difference) E → ℕ
  length_of (Ok None) = 0
  length_of (Ok (Some d)) = d.len
  length_of (Err e) = 0
