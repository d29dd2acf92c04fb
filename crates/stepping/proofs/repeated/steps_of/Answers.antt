use Rattle.std.proofs.Common.{rules}
use Rattle.model.proofs.Kit.{arith}
use Rattle.stepping.proofs.Laws.Repeated.{repeats_begun, one_step_more, steps_refused}
use Rattle.stepping.proofs.repeated.steps_of.Goals as goal

pub loop-init : goal.loop-init
loop-init c = search repeats_begun

pub returns-then-not-goes_on : goal.returns-then-not-goes_on
returns-then-not-goes_on c =
    steps_refused _ _ _ _ _ _ _ _ c.loop.invariant c.args.count (omega arith) (λ l m. search rules)

pub loop-preserved : goal.loop-preserved
loop-preserved c = search one_step_more
