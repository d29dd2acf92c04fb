-- `repeated::steps_of`: the loop keeps the board after the steps so far; each turn is one law of Repeated.
use Rattle.stepping.proofs.Laws.Repeated.{Repeats}
use Rattle.stepping.proofs.repeated.steps_of.Given as goal

abbrev pub invariant-loop : goal.invariant-loop
invariant-loop l = Repeats l.initial.board l.station l.n l.k l.index l.at l.counter l.board
