-- `put_collected`: each store is a splice of its field.
use Rattle.figures.proofs.Laws.Signs.{passed}
use Rattle.codec.proofs.Laws.Stores.{collected_put}
use Rattle.codec.proofs.records.put_collected.Goals as goal

pub returns : goal.returns
returns c = search (passed, collected_put)
