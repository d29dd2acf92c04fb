-- `lent::halted_of`: the loop keeps the set of the stations passed; each turn is one law of Suspended.
use Rattle.model.proofs.Kit.{take}
use Rattle.rounds.specs.Suspended.{Suspends}
use Rattle.rounds.proofs.lent.halted_of.Given as goal

abbrev pub invariant-loop-station : goal.invariant-loop-station
invariant-loop-station l = Suspends l.halted (take l.station-index l.named)
