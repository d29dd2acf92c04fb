-- `put_started`: the parts one after another.
use Rattle.figures.proofs.Laws.Signs.{passed}
use Rattle.codec.proofs.Laws.Stores.{started_put}
use Rattle.codec.proofs.records.put_started.Goals as goal

pub returns : goal.returns
returns c = search (passed, started_put)
