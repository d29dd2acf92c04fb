use Rattle.taping.proofs.Laws.Single.{step_put}
use Rattle.taping.proofs.single.tape_step.Goals as goal

pub returns-then-is_going : goal.returns-then-is_going
returns-then-is_going c = search step_put
