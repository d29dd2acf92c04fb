-- `run_item` and `run_items` meet their contracts. Each call is at a later place of the line, so
-- that the bytes left are the measure of both; a loop over repeats, and one over the items of a list, each keep what
-- has been run.
use Rattle.model.proofs.Kit.{◌-◌, length}
use Rattle.item_walks.proofs.Laws.Repeats.{Repeats}
use Rattle.item_walks.proofs.Laws.Passing.{Passed}
use Rattle.line_run.specs.LineRuns.{RunFrom}
use Rattle.line_run.proofs.+run_item_run_items.Given as goal

abbrev pub decreases-run_item : goal.decreases-run_item
decreases-run_item l = length l.line.now - l.at

abbrev pub decreases-run_items : goal.decreases-run_items
decreases-run_items l = length l.line.now - l.at

abbrev pub invariant-run_item-loop : goal.invariant-run_item-loop
invariant-run_item-loop l = Repeats (RunFrom l.initial.board l.total l.board) l.line l.end l.inner l.next l.counter

abbrev pub invariant-run_items-loop-place : goal.invariant-run_items-loop-place
invariant-run_items-loop-place l = Passed (RunFrom l.initial.board l.total l.board) l.line l.at l.place

abbrev pub decreases-run_items-loop-place : goal.decreases-run_items-loop-place
decreases-run_items-loop-place l = length l.line - l.place
