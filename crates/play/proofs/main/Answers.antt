use Rattle.play.proofs.Laws.{falls}
use Rattle.play.proofs.main.Goals as goal

pub loop-at-smaller : goal.loop-at-smaller
loop-at-smaller c =
    falls c.read_all.new.buffer c.in-Ok.len c.loop-at.at c.next_answer-answer.result.next c.loop-at.laid
    c.loop-at.memory c.loop-at.invariant.0 c.loop-at-test.true c.next_answer-answer.ensures.next
