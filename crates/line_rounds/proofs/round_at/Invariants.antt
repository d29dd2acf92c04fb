-- `round_at` meets its contract: `()` is a round of its own, and else the loop suspends one station after another.
use Rattle.model.proofs.Kit.{◌-◌, length}
use Rattle.line_rounds.proofs.Laws.OneRound.{Along}
use Rattle.line_rounds.proofs.round_at.Given as goal

abbrev pub invariant-loop-place : goal.invariant-loop-place
invariant-loop-place l = Along l.line l.at l.halted l.place

abbrev pub decreases-loop-place : goal.decreases-loop-place
decreases-loop-place l = length l.line - l.place
