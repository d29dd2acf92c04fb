-- `single::beginning` meets its contract: the fields are those of a station that has just proposed.
use Rattle.model.proofs.Kit.{ap, to_z-of_z}
use Rattle.model.specs.Figure.{Figure}
use Rattle.model.specs.Listing.{proposed}
use Rattle.model.specs.Layout.{write_phase, flag_byte, seen_number, best_island, best_figure, fields, record_fields}
use Rattle.model.specs.Layout.{changed, with_counts}
use Rattle.proposing.proofs.single.beginning.Goals as goal

pub returns : goal.returns
unfolding record_fields fields changed proposed write_phase flag_byte seen_number best_island best_figure
returns c = λ station. ap (λ (v : Figure). record_fields (proposed v) (with_counts 0 0 station)) (to_z-of_z c.ranges.figure)
