-- `round::stations_in_turn`: the loop keeps the board after the turns so far; each turn is one law of Turns.
use Rattle.model.specs.Rounds.{in_turn}
use Rattle.stepping.proofs.Laws.Repeated.{Ran}
use Rattle.rounds.specs.Suspended.{suspended}
use Rattle.rounds.proofs.round.stations_in_turn.Given as goal

abbrev pub invariant-loop-j : goal.invariant-loop-j
invariant-loop-j l = Ran l.initial.board (in_turn l.steps l.j (suspended l.halted)) l.board
