-- `lent::needs_of`: the loop keeps what the rounds passed ask; each turn is one law of Lent.
use Rattle.model.proofs.Kit.{◌-◌, length}
use Rattle.rounds.proofs.Laws.Lent.{AskedTo}
use Rattle.rounds.proofs.lent.needs_of.Given as goal

abbrev pub invariant-loop-at : goal.invariant-loop-at
invariant-loop-at l = AskedTo l.most l.named l.at l.rounds l.needs

abbrev pub decreases-loop-at : goal.decreases-loop-at
decreases-loop-at l = length l.named - l.at
