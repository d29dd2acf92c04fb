-- The reader of an item and the reader of a list of items meet their contracts. Each call is at a later place of the
-- line, so that the bytes left are the measure of both; the list's loop keeps what is still to be counted.
use Rattle.model.proofs.Kit.{◌-◌, length}
use Rattle.item_reader.proofs.Laws.Items.{Along}
use Rattle.item_reader.proofs.+item_items.Given as goal

abbrev pub decreases-item : goal.decreases-item
decreases-item l = length l.line.now - l.at

abbrev pub decreases-items : goal.decreases-items
decreases-items l = length l.line.now - l.at

abbrev pub invariant-items-loop-place : goal.invariant-items-loop-place
invariant-items-loop-place l = Along l.line l.at l.place l.total

abbrev pub decreases-items-loop-place : goal.decreases-items-loop-place
decreases-items-loop-place l = length l.line - l.place
