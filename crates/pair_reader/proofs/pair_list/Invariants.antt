-- `pair_list` meets its contract: the loop keeps the pairs read so far and their number. The measure is what is
-- left of the line.
use Rattle.model.proofs.Kit.{◌-◌, length}
use Rattle.pair_reader.proofs.Laws.Pairs.{Pairs}
use Rattle.pair_reader.proofs.pair_list.Given as goal

abbrev pub invariant-loop-place : goal.invariant-loop-place
invariant-loop-place l = Pairs l.line l.at l.place l.count

abbrev pub decreases-loop-place : goal.decreases-loop-place
decreases-loop-place l = length l.line - l.place
