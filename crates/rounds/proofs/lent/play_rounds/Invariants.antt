-- `lent::play_rounds`: the loop keeps the board after the rounds passed; each turn is one law of Lent.
use Rattle.model.proofs.Kit.{◌-◌, length}
use Rattle.rounds.proofs.Laws.Lent.{PlayedTo}
use Rattle.rounds.proofs.lent.play_rounds.Given as goal

abbrev pub invariant-loop-at : goal.invariant-loop-at
invariant-loop-at l = PlayedTo l.initial.board l.named l.at l.board

abbrev pub decreases-loop-at : goal.decreases-loop-at
decreases-loop-at l = length l.named - l.at
