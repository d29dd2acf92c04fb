-- `finish::stay` meets its contract, which names the value that it builds.
use Rattle.model.proofs.Kit.{refl}
use Rattle.archipelago.specs.Advanced.{staying}
use Rattle.archipelago.proofs.finish.stay.Goals as goal

pub returns : goal.returns
unfolding staying
returns c = refl
