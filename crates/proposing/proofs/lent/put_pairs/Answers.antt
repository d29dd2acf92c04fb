-- `lent::put_pairs`: the pairs left are taken by the board that this one led to.
use Rattle.proposing.proofs.Laws.Lent.{put_next}
use Rattle.proposing.proofs.lent.put_pairs.Goals as goal

pub loop-pair-preserved : goal.loop-pair-preserved
loop-pair-preserved c = search put_next
