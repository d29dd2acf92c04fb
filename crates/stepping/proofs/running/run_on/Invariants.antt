-- `running::run_on`: the loop keeps the steps taken so far and a board that is still sound; each turn is one step of Running.
use Rattle.stepping.proofs.Laws.Running.{AfterI}
use Rattle.stepping.proofs.running.run_on.Given as goal

abbrev pub invariant-loop-station : goal.invariant-loop-station
invariant-loop-station l = AfterI l.stations l.initial.board l.station-index l.board l.count
