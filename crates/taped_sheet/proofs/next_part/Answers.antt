-- `next_part` meets its contract: the buffer is full, or the line's tape is written to its end.
-- Relies on the laws of a part.
use Rattle.std.proofs.Common.{rules}
use Rattle.model.proofs.Kit.{arith}
use Rattle.taped_sheet.proofs.Laws.NextPart.{rooms_fit, some_rooms, part_full, part_whole, done_fits}
use Rattle.taped_sheet.proofs.next_part.Goals as goal

pub try_line-line-requires : goal.try_line-line-requires
try_line-line-requires c = (search rooms_fit, omega arith, search rules)

pub overflow_add-result : goal.overflow_add-result
overflow_add-result c = let tried = c.try_line-line.ensures in omega (arith, done_fits _ _ _ _ _ _ _ _ _ tried.taped (omega arith) c.if-line-eq0.true)

pub returns-then-line-eq0 : goal.returns-then-line-eq0
returns-then-line-eq0 c = search (some_rooms, part_full)

pub returns : goal.returns
returns c = search (some_rooms, part_whole)
