-- `count_step`: the bytes of the number that was read, and one more.
use Rattle.std.proofs.Common.{rules}
use Rattle.codec.proofs.Laws.Stores.{steps_fit, steps_put}
use Rattle.codec.proofs.records.count_step.Goals as goal

pub overflow_add-steps : goal.overflow_add-steps
overflow_add-steps c = search (steps_fit, rules)

pub returns : goal.returns
returns c = search steps_put
