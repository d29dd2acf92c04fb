-- `finish::start` meets its contract: a figure is stored by its bits, and is the number of those bits.
use Rattle.model.specs.Layout.{fields, changed, seen_number, best_island, best_figure}
use Rattle.model.proofs.Basics.Numbers.{landed}
use Rattle.archipelago.proofs.finish.start.Goals as goal

pub returns : goal.returns
unfolding fields changed seen_number best_island best_figure
returns c = search landed
