-- `lent::pairs_refusal`: the loop keeps what the pairs passed are refused with.
use Rattle.proposing.proofs.Laws.Lent.{TriedTo}
use Rattle.proposing.proofs.lent.pairs_refusal.Given as goal

abbrev pub invariant-loop-pair : goal.invariant-loop-pair
invariant-loop-pair l = TriedTo l.board l.pairs l.pair-index l.flags l.so_far
