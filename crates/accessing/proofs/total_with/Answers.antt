-- `total_with` meets its contract: the byte that it reads is the count of the record that stands there.
use Rattle.std.proofs.Common.{rules}
use Rattle.accessing.proofs.Laws.Met.{total_is, total_fits}
use Rattle.accessing.proofs.total_with.Goals as goal

pub overflow_add-result-2 : goal.overflow_add-result-2
overflow_add-result-2 c = search (total_fits, rules)

pub returns : goal.returns
returns c = search total_is
