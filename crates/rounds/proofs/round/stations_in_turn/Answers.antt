use Rattle.rounds.proofs.Laws.Turns.{one_turn_more}
use Rattle.rounds.proofs.round.stations_in_turn.Goals as goal

pub loop-j-preserved : goal.loop-j-preserved
loop-j-preserved c = search one_turn_more
