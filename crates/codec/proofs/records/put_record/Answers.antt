-- `put_record`: splices side by side are one.
use Rattle.figures.proofs.Laws.Signs.{passed}
use Rattle.codec.proofs.Laws.Writes.{record_laid}
use Rattle.codec.proofs.records.put_record.Goals as goal

pub returns : goal.returns
returns c = search (passed, record_laid)
