use Rattle.std.proofs.Common.{rules}
use Rattle.list_laws.proofs.Laws.Lists.{list_closed, list_past}
use Rattle.round_reader.proofs.Laws.Rounds.{stations_begun, station_missing, station_less}
use Rattle.round_reader.proofs.Laws.Rounds.{station_again}
use Rattle.round_reader.proofs.stations.Goals as goal

pub loop-place-init : goal.loop-place-init
loop-place-init c = search (stations_begun, rules)

pub returns-then-line-place-eq41 : goal.returns-then-line-place-eq41
returns-then-line-place-eq41 c = search list_closed

pub returns-in_default : goal.returns-in_default
returns-in_default c = search station_missing

pub loop-place-smaller : goal.loop-place-smaller
loop-place-smaller c = search station_less

pub loop-place-preserved : goal.loop-place-preserved
loop-place-preserved c = search station_again

pub returns : goal.returns
returns c = search list_past
