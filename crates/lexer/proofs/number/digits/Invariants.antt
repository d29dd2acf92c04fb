-- `number::digits` meets its contract: the loop keeps what the digits passed have made.
use Rattle.model.proofs.Kit.{◌≤◌}
use Rattle.lexer.proofs.Laws.Numbers.{Along}
use Rattle.lexer.proofs.number.digits.Given as goal

abbrev pub invariant-loop-next : goal.invariant-loop-next
invariant-loop-next l = Along l.line l.at l.fn.value l.high l.next l.value × (l.high ≤ 2147483648)
