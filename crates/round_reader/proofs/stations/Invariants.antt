-- `stations` meets its contract: the loop keeps the stations read so far, their number and how high they climb.
-- The measure is what is left of the line.
use Rattle.model.proofs.Kit.{◌-◌, length}
use Rattle.round_reader.proofs.Laws.Rounds.{Stations}
use Rattle.round_reader.proofs.stations.Given as goal

abbrev pub invariant-loop-place : goal.invariant-loop-place
invariant-loop-place l = Stations l.line l.at l.first l.place l.count l.last

abbrev pub decreases-loop-place : goal.decreases-loop-place
decreases-loop-place l = length l.line - l.place
