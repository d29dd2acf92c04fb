-- `islands_sound`: the invariant is that both rows of every island before c passed, and that start is where row A of c
-- begins.
use Rattle.model.proofs.Kit.{◌≡◌, true, ◌&&◌}
use Rattle.model.specs.Bytes.{every}
use Rattle.model.specs.Layout.{register_at}
use Rattle.model.specs.Listing.{in_a, in_b}
use Rattle.model.specs.Sound.{array_sound}
use Rattle.soundness.proofs.registers.islands_sound.Given as goal

abbrev pub invariant-loop-c : goal.invariant-loop-c
invariant-loop-c l =
    (l.start ≡ register_at l.n (in_a l._c) 0)
    × (every l._c (λ i. array_sound l.n 1 1 l.s (in_a i) && array_sound l.n 2 1 l.s (in_b i)) ≡ true)
