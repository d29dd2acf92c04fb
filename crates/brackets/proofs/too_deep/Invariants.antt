-- `too_deep` meets its contract: the loop keeps the brackets counted and the depth of the bytes that are left.
use Rattle.brackets.proofs.Laws.Depth.{Passed}
use Rattle.brackets.proofs.too_deep.Given as goal

abbrev pub invariant-loop-byte : goal.invariant-loop-byte
invariant-loop-byte l = Passed l.line l.opened l.closed l.byte-index
