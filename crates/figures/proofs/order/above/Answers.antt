-- `order::above` meets its contract: no figure is above itself, and of two others the sign of the sum tells.
use Rattle.figures.proofs.Laws.Order.{above_same, above_differs}
use Rattle.figures.proofs.order.above.Goals as goal

pub returns-then-x-y : goal.returns-then-x-y
returns-then-x-y c = search above_differs

pub returns-else-x-y : goal.returns-else-x-y
returns-else-x-y c = search above_same
