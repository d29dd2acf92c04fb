-- `tape_item` and `tape_items` meet their contracts. Each call is at a later place of the line, so that the bytes left
-- are the measure of both; a loop over repeats, and one over the items of a list, each keep what has been taped.
-- Relies on the laws of items gone over and on those of steps taped.
use Rattle.model.proofs.Kit.{◌-◌, length}
use Rattle.item_walks.proofs.Laws.Repeats.{Repeats}
use Rattle.item_walks.proofs.Laws.Passing.{Passed}
use Rattle.taping.specs.Taping.{taping}
use Rattle.taped_items.specs.TapedItems.{TapedFrom}
use Rattle.taped_items.proofs.+tape_item_tape_items.Given as goal

abbrev pub decreases-tape_item : goal.decreases-tape_item
decreases-tape_item l = length l.line.now - l.at

abbrev pub decreases-tape_items : goal.decreases-tape_items
decreases-tape_items l = length l.line.now - l.at

abbrev pub invariant-tape_item-loop : goal.invariant-tape_item-loop
invariant-tape_item-loop l =
    Repeats (TapedFrom (taping l.initial.board l.initial.out l.initial.done) (taping l.board l.out l.done)) l.line l.end
    l.inner l.next l.counter

abbrev pub invariant-tape_items-loop-place : goal.invariant-tape_items-loop-place
invariant-tape_items-loop-place l =
    Passed (TapedFrom (taping l.initial.board l.initial.out l.initial.done) (taping l.board l.out l.done)) l.line l.at
    l.place

abbrev pub decreases-tape_items-loop-place : goal.decreases-tape_items-loop-place
decreases-tape_items-loop-place l = length l.line - l.place
