use Rattle.tape.proofs.Laws.{falls}
use Rattle.tape.proofs.main.Goals as goal

pub loop-at-smaller : goal.loop-at-smaller
loop-at-smaller c =
    let before = c.loop-at in
    falls c.read_all.new.buffer c.in-Ok.len before.at before.done before.laid before.memory before.out
    c.next_part-part.result c.next_part-part.new.memory c.next_part-part.new.out c.next_part-part.ensures before.invariant.0
    c.loop-at-test.true before.invariant.3 before.invariant.4
