-- `tape_round`: the loop keeps the state after the turns so far; each turn is one law of Turns.
use Rattle.model.proofs.Kit.{◌+◌}
use Rattle.model.specs.Rounds.{in_turn}
use Rattle.rounds.specs.Suspended.{suspended}
use Rattle.taping.specs.Taping.{taping}
use Rattle.taping.proofs.Laws.Steps.{Tapes}
use Rattle.taped_rounds.proofs.tape_round.Given as goal

abbrev pub invariant-loop-j : goal.invariant-loop-j
invariant-loop-j l =
    Tapes (taping l.initial.board l.initial.out l.initial.done) (in_turn (l.n + 1) l.j (suspended l.halted)) (taping l.board l.out l.done)
