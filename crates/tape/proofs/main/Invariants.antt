-- `main` meets its contract: every part that it lends is inside its array, and each part of the tape leads on.
-- Relies on what is promised of the next part. The measure is what is left of the sheet, and within a line the steps not yet taped.
use Rattle.model.proofs.Kit.{◌≡◌, ◌+◌, ◌*◌, ◌-◌, ◌≤◌, length}
use Rattle.taped_sheet.specs.SheetParts.{most_steps}
use Rattle.tape.proofs.main.Given as goal

abbrev pub invariant-loop-at : goal.invariant-loop-at
invariant-loop-at l =
    (l.len ≤ length l.sheet) × (length l.memory ≡ 16904) × (length l.kept ≡ 16904) × (length l.out ≡ 57344) × (l.done ≤ most_steps)

abbrev pub decreases-loop-at : goal.decreases-loop-at
decreases-loop-at l = (l.len - l.at) * 69633 + (69632 - l.done)
