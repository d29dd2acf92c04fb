-- `main` meets its contract: every part that it lends is inside its array, and each answer leads on in the sheet.
-- Relies on what is promised of the next answer. The measure is what is left of the sheet.
use Rattle.std.proofs.Common.{◌≡◌, ◌≤◌, ◌-◌, length}
use Rattle.play.proofs.main.Given as goal

abbrev pub invariant-loop-at : goal.invariant-loop-at
invariant-loop-at l = (l.len ≤ length l.sheet) × (length l.memory ≡ 16904)

abbrev pub decreases-loop-at : goal.decreases-loop-at
decreases-loop-at l = l.len - l.at
