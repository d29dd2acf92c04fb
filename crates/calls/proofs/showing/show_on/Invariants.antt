-- `showing::show_on`: the loop puts one station after another.
use Rattle.model.proofs.Kit.{◌≡◌}
use Rattle.calls.specs.Showing.{open_to}
use Rattle.calls.proofs.showing.show_on.Given as goal

abbrev pub invariant-loop-j : goal.invariant-loop-j
invariant-loop-j l = l.line ≡ open_to l.j l.board
