-- `count_met`: one store of the byte that was read, and one more.
use Rattle.std.proofs.Common.{rules}
use Rattle.codec.proofs.Laws.Stores.{met_fits, met_put}
use Rattle.codec.proofs.records.count_met.Goals as goal

pub overflow_add-board-2 : goal.overflow_add-board-2
overflow_add-board-2 c = search (met_fits, rules)

pub returns : goal.returns
returns c = search met_put
