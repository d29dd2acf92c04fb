use Rattle.model.proofs.Kit.{arith}
use Rattle.tapes.proofs.Laws.Differences.{alike_begun, first_ended, second_ended, differ_here, alike_more}
use Rattle.tapes.proofs.difference.first_difference.Goals as goal

pub loop-at-init : goal.loop-at-init
loop-at-init c = search alike_begun

pub returns-then-second-at : goal.returns-then-second-at
returns-then-second-at c = second_ended _ _ _ _ c.loop-at.invariant (omega (arith, c.if-second-at.true))

pub overflow_add-number : goal.overflow_add-number
overflow_add-number c = record { fits = omega (arith, c.loop-at.invariant.few) }

pub returns-then-not-same : goal.returns-then-not-same
returns-then-not-same c = search differ_here

pub loop-at-preserved : goal.loop-at-preserved
loop-at-preserved c = search alike_more

pub returns : goal.returns
returns c = search first_ended
