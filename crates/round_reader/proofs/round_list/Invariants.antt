-- `round_list` meets its contract: the loop keeps the rounds read so far, their number and what they need.
-- The measure is what is left of the line.
use Rattle.model.proofs.Kit.{◌-◌, length}
use Rattle.round_reader.proofs.Laws.Rounds.{Rounds}
use Rattle.round_reader.proofs.round_list.Given as goal

abbrev pub invariant-loop-place : goal.invariant-loop-place
invariant-loop-place l = Rounds l.line l.at l.most l.place l.count l.needs

abbrev pub decreases-loop-place : goal.decreases-loop-place
decreases-loop-place l = length l.line - l.place
