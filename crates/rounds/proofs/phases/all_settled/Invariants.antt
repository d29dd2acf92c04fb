-- `phases::all_settled`: the loop passes the stations in the middle of no collect; each turn is one law of Phases.
use Rattle.model.proofs.Kit.{◌≡◌, true}
use Rattle.model.specs.Bytes.{every}
use Rattle.rounds.proofs.Laws.Phases.{settled_at}
use Rattle.rounds.proofs.phases.all_settled.Given as goal

abbrev pub invariant-loop-j : goal.invariant-loop-j
invariant-loop-j l = every l.j (settled_at l.board) ≡ true
