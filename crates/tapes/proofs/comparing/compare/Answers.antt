-- `compare` meets its contract: refusals 1 and 21, no difference, and the culprit's line on either tape.
-- Relies on the laws of the comparison.
use Rattle.tapes.proofs.Laws.Comparing.{too_long, first_untaped, second_untaped, never_differ, first_order}
use Rattle.tapes.proofs.Laws.Comparing.{first_inside, second_order, some_number, culprit_first, culprit_second}
use Rattle.tapes.proofs.comparing.compare.Goals as goal

pub returns-then-sheet-gt32768 : goal.returns-then-sheet-gt32768
returns-then-sheet-gt32768 c = search too_long

pub returns-then-entries_end-first : goal.returns-then-entries_end-first
returns-then-entries_end-first c = search first_untaped

pub returns-then-entries_end-second : goal.returns-then-entries_end-second
returns-then-entries_end-second c = search second_untaped

pub returns-in_default : goal.returns-in_default
returns-in_default c = search never_differ

pub slice_bounds-culprit_of-count : goal.slice_bounds-culprit_of-count
slice_bounds-culprit_of-count c = search first_order

pub slice_bounds-culprit_of-start : goal.slice_bounds-culprit_of-start
slice_bounds-culprit_of-start c = search first_order

pub slice_bounds-culprit_of-end : goal.slice_bounds-culprit_of-end
slice_bounds-culprit_of-end c = search first_inside

pub culprit_of-tap-requires : goal.culprit_of-tap-requires
culprit_of-tap-requires c = search some_number

pub overflow_sub-result : goal.overflow_sub-result
overflow_sub-result c = search first_order

pub overflow_sub-result-in-Second : goal.overflow_sub-result-in-Second
overflow_sub-result-in-Second c = search second_order

pub returns-in-First : goal.returns-in-First
returns-in-First c = search culprit_first

pub returns-in-Second : goal.returns-in-Second
returns-in-Second c = search culprit_second
