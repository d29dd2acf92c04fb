-- `single::propose_on`: what is put in is what the model puts in.
use Rattle.proposing.proofs.Laws.Single.{proposed_all}
use Rattle.proposing.proofs.single.propose_on.Goals as goal

pub returns : goal.returns
returns c = proposed_all _ _ _ c.requires _ c.refusal_of.ensures _ c.in_ok-refusal_of.was _ c.put_in.ensures (search)
