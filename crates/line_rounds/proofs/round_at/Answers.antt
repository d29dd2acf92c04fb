use Rattle.model.proofs.Kit.{arith}
use Rattle.rounds.proofs.Laws.Suspended.{suspends_none}
use Rattle.line_rounds.proofs.Laws.OneRound.{second_inside, round_empty, begun, closed, station_stands, station-fits, again}
use Rattle.line_rounds.proofs.round_at.Goals as goal

pub overflow_add-at : goal.overflow_add-at
overflow_add-at c = record { fits = omega (arith, second_inside _ _ c.requires) }

pub bounds-line-at : goal.bounds-line-at
bounds-line-at c = search second_inside

pub returns-then-line-at-eq41 : goal.returns-then-line-at-eq41
returns-then-line-at-eq41 c = search (round_empty, suspends_none)

pub loop-place-init : goal.loop-place-init
loop-place-init c = search (begun, suspends_none)

pub known_number-station-requires : goal.known_number-station-requires
known_number-station-requires c = search station_stands

pub overflow_cast-station : goal.overflow_cast-station
overflow_cast-station c = search station-fits

pub loop-place-preserved : goal.loop-place-preserved
loop-place-preserved c = search again

pub returns : goal.returns
returns c = search closed
