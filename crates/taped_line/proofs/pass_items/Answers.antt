-- `pass_items` meets its contract: the items are run, and the steps taken are lines passed over.
-- Relies on the laws of a line none of whose steps is wanted.
use Rattle.taped_line.proofs.Laws.Passed.{pass_runnable, taken_left, line_passed}
use Rattle.taped_line.proofs.pass_items.Goals as goal

pub run_items-run-requires : goal.run_items-run-requires
run_items-run-requires c = search pass_runnable

pub overflow_sub-result : goal.overflow_sub-result
overflow_sub-result c = search taken_left

pub returns : goal.returns
returns c = search line_passed
