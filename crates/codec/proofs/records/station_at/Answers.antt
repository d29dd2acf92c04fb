-- `station_at`: the fields of the part are those that stand at its place in the whole.
use Rattle.codec.proofs.Laws.Reads.{station_read}
use Rattle.codec.proofs.records.station_at.Goals as goal

pub returns : goal.returns
returns c = search station_read
