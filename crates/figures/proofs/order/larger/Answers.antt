-- `order::larger` meets its contract: each way gives what the definition gives under the same test.
use Rattle.figures.proofs.Laws.Order.{larger_second, larger_first}
use Rattle.figures.proofs.order.larger.Goals as goal

pub returns-then-above : goal.returns-then-above
returns-then-above c = search larger_second

pub returns-else-above : goal.returns-else-above
returns-else-above c = search larger_first
