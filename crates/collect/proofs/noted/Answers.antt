-- `noted` meets its contract: a figure is stored by its bits, and is the number of those bits.
use Rattle.model.proofs.Basics.Numbers.{landed}
use Rattle.collect.proofs.Handed.{noted_told}
use Rattle.collect.proofs.noted.Goals as goal

pub returns : goal.returns
returns c = noted_told c.args.station _ _ _ (landed _ (search)) (landed _ (search)) (landed _ (search))
