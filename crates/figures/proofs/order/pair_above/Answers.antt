-- `order::pair_above` meets its contract: each way gives what the definition gives under the same tests.
use Rattle.figures.proofs.Laws.Order.{lower_island, higher_island, on_one_island}
use Rattle.figures.proofs.order.pair_above.Goals as goal

pub returns-then-j-k : goal.returns-then-j-k
returns-then-j-k c = search lower_island

pub returns-then-j-k-2 : goal.returns-then-j-k-2
returns-then-j-k-2 c = search on_one_island

pub returns-else-j-k-2 : goal.returns-else-j-k-2
returns-else-j-k-2 c = search higher_island
