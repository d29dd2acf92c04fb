-- `put`: the lent part, back in its place, is a splice.
use Rattle.codec.proofs.Laws.Writes.{lent_back}
use Rattle.codec.proofs.cells.put.Goals as goal

pub returns : goal.returns
returns g c = search lent_back
