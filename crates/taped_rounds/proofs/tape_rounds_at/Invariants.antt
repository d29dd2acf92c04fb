-- `tape_rounds_at` meets its contract: the loop keeps what has been taped of the rounds before its place.
use Rattle.model.proofs.Kit.{◌-◌, length}
use Rattle.line_rounds.proofs.Laws.AllRounds.{Passed}
use Rattle.taping.specs.Taping.{taping}
use Rattle.taped_rounds.proofs.Laws.Rounds.{TapedRounds}
use Rattle.taped_rounds.proofs.tape_rounds_at.Given as goal

abbrev pub invariant-loop-place : goal.invariant-loop-place
invariant-loop-place l =
    Passed l.line l.at (TapedRounds (taping l.initial.board l.initial.out l.initial.done) (taping l.board l.out l.done)) l.place

abbrev pub decreases-loop-place : goal.decreases-loop-place
decreases-loop-place l = length l.line - l.place
