-- `entries_end` meets its contract: the loop keeps that all lines before its place are step answers.
-- Relies on the laws of a tape tested line by line.
use Rattle.model.proofs.Kit.{◌-◌, length}
use Rattle.tapes.proofs.Laws.Checking.{Checked}
use Rattle.tapes.proofs.checking.entries_end.Given as goal

abbrev pub invariant-loop-at : goal.invariant-loop-at
invariant-loop-at l = Checked l.tape l.at

abbrev pub decreases-loop-at : goal.decreases-loop-at
decreases-loop-at l = length l.tape - l.at
