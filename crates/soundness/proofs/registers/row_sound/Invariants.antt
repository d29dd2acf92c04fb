-- `row_sound`: the invariant is that every register before the j-th passed.
use Rattle.model.proofs.Kit.{◌≡◌, true, ◌+◌, ◌*◌}
use Rattle.model.specs.Bytes.{every, part}
use Rattle.model.specs.Sound.{register_sound}
use Rattle.soundness.proofs.registers.row_sound.Given as goal

abbrev pub invariant-loop-j : goal.invariant-loop-j
invariant-loop-j l =
    every l.j (λ i. register_sound l.marks l.islands (part (l.start + 8 * i) 8 l.s)) ≡ true
