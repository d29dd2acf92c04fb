-- `pair_at`: a number and a figure that are known to stand there.
use Rattle.model.proofs.Kit.{arith}
use Rattle.line_proposals.proofs.Laws.OnePair.{pair_inside, figure_stands, station-fits}
use Rattle.line_proposals.proofs.pair_at.Goals as goal

pub overflow_add-at : goal.overflow_add-at
overflow_add-at c = record { fits = omega (arith, pair_inside) }

pub known_figure-figure-requires : goal.known_figure-figure-requires
known_figure-figure-requires c = search figure_stands

pub overflow_cast-result : goal.overflow_cast-result
overflow_cast-result c = search station-fits
