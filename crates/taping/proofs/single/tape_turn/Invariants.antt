-- `single::tape_turn`: the loop keeps the state after the steps so far; each turn is one law of Turn.
use Rattle.model.proofs.Kit.{replicate}
use Rattle.taping.specs.Taping.{taping}
use Rattle.taping.proofs.Laws.Steps.{Tapes}
use Rattle.taping.proofs.single.tape_turn.Given as goal

abbrev pub invariant-loop : goal.invariant-loop
invariant-loop l =
    Tapes (taping l.initial.board l.initial.out l.initial.done) (replicate l.counter l.station) (taping l.board l.out l.done)
