-- `pairs::pair_bytes`: the library divides as `digits` does.
use Rattle.std.proofs.Common.{rules}
use Rattle.model.specs.Bytes.{digits}
use Rattle.figures.proofs.pairs.pair_bytes.Goals as goal

pub returns : goal.returns
unfolding digits
returns c = search rules
