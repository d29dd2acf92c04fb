-- `record_at`: what was met, put to the rest of the record.
use Rattle.codec.proofs.Laws.Reads.{record_read}
use Rattle.codec.proofs.records.record_at.Goals as goal

pub returns : goal.returns
returns c = search record_read
