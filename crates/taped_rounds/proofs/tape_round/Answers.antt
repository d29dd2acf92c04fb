use Rattle.taped_rounds.proofs.Laws.Turns.{one_turn_more}
use Rattle.taped_rounds.proofs.tape_round.Goals as goal

pub loop-j-preserved : goal.loop-j-preserved
loop-j-preserved c = one_turn_more _ _ _ _ _ _ _ _ _ c.loop-j.invariant _ _ _ c.tape_station-done.ensures
