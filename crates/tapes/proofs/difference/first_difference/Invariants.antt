-- `first_difference` meets its contract: the loop keeps that all lines were alike so far.
-- Relies on the laws of two tapes line by line.
use Rattle.model.proofs.Kit.{◌-◌, length}
use Rattle.tapes.proofs.Laws.Differences.{Alike}
use Rattle.tapes.proofs.difference.first_difference.Given as goal

abbrev pub invariant-loop-at : goal.invariant-loop-at
invariant-loop-at l = Alike l.first l.second l.number l.at

abbrev pub decreases-loop-at : goal.decreases-loop-at
decreases-loop-at l = length l.first - l.at
