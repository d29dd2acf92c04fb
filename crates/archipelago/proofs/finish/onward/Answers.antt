-- `finish::onward` meets its contract: each return is a law of Ends.
use Rattle.std.proofs.Common.{rules}
use Rattle.model.proofs.Kit.{arith}
use Rattle.archipelago.proofs.Ends.{adopted, exhausted}
use Rattle.archipelago.proofs.finish.onward.Goals as goal

pub returns-then-island-k : goal.returns-then-island-k
returns-then-island-k c = adopted _ _ _ _ _ _ (search rules) (omega arith) c.start-next.ensures c.stay.ensures

pub returns : goal.returns
returns c = exhausted _ _ _ _ _ _ (search rules) (omega arith) c.start-next-2.ensures c.stay-2.ensures
