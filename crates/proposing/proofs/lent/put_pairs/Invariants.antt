-- `lent::put_pairs`: the loop keeps that the pairs left are all taken.
use Rattle.proposing.proofs.Laws.Lent.{PutTo}
use Rattle.proposing.proofs.lent.put_pairs.Given as goal

abbrev pub invariant-loop-pair : goal.invariant-loop-pair
invariant-loop-pair l = PutTo l.fn.board l.pairs l.pair-index l.board
