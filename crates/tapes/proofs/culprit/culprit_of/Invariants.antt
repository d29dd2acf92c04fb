-- `culprit_of` meets its contract: the loop keeps which line of the tape from its place on is looked for.
-- Relies on the laws of the algorithm's own line.
use Rattle.model.proofs.Kit.{◌≡◌, ◌-◌, length}
use Rattle.tapes.proofs.Laws.Own.{Looking}
use Rattle.tapes.proofs.culprit.culprit_of.Given as goal

abbrev pub invariant-loop-at : goal.invariant-loop-at
invariant-loop-at l =
    Looking l.sheet l.number l.at l.laid l.memory l.left × (length l.memory ≡ 16904) × (length l.own ≡ 56)

abbrev pub decreases-loop-at : goal.decreases-loop-at
decreases-loop-at l = length l.sheet - l.at
