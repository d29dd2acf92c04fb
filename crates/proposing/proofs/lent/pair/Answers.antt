-- `lent::pair`: the station in the low bits, the figure in the high ones.
use Rattle.proposing.proofs.Laws.Lent.{pair_made}
use Rattle.proposing.proofs.lent.pair.Goals as goal

pub returns : goal.returns
returns c = rw (c.from.ensures, c.from-2.ensures) (pair_made _ _ (search) (search) _ c.bits_of.ensures)
