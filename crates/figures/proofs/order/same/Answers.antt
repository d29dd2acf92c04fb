-- `order::same` meets its contract: two figures in range are the same number exactly where their bits are.
use Rattle.figures.proofs.Laws.Order.{same_bits}
use Rattle.figures.proofs.order.same.Goals as goal

pub returns : goal.returns
returns c = search same_bits
