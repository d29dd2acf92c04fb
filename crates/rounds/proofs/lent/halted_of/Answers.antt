use Rattle.rounds.proofs.Laws.Suspended.{suspends_next}
use Rattle.rounds.proofs.lent.halted_of.Goals as goal

pub loop-station-preserved : goal.loop-station-preserved
loop-station-preserved c = search suspends_next
