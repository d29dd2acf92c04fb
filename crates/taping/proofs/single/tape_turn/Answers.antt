use Rattle.std.proofs.Common.{rules}
use Rattle.taping.proofs.Laws.Steps.{tapes_none}
use Rattle.taping.proofs.Laws.Turn.{turn_more, turn_over}
use Rattle.taping.proofs.single.tape_turn.Goals as goal

pub loop-init : goal.loop-init
loop-init c = tapes_none _ c.requires

pub returns-then-eq : goal.returns-then-eq
returns-then-eq c =
    turn_over _ _ _ _ _ _ _ _ c.loop.invariant _ _ _ c.tape_step-next.ensures c.if-eq.ensures _ (search rules)

pub loop-preserved : goal.loop-preserved
loop-preserved c = search turn_more
