-- `known::known_number` meets its contract: by the first byte, and the loop keeps what the digits passed have made.
use Rattle.model.proofs.Kit.{◌+◌, ◌-◌, get_or}
use Rattle.lexer.proofs.Laws.Numbers.{Along}
use Rattle.lexer.proofs.known.known_number.Given as goal

abbrev pub invariant-loop-next : goal.invariant-loop-next
invariant-loop-next l = Along l.line (l.at + 1) (get_or l.line l.at 0 - 48) 2147483648 l.next l.value
