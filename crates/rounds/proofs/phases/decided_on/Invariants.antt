-- `phases::decided_on`: the loop counts the stations that stand decided; each turn is one law of Phases.
use Rattle.model.proofs.Kit.{◌≡◌}
use Rattle.model.specs.Bytes.{count}
use Rattle.rounds.proofs.Laws.Phases.{decided_at}
use Rattle.rounds.proofs.phases.decided_on.Given as goal

abbrev pub invariant-loop-j : goal.invariant-loop-j
invariant-loop-j l = l.count ≡ count l.j (decided_at l.board)
