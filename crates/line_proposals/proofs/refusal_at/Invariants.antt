-- `refusal_at` meets its contract: the loop keeps what the pairs passed are refused with.
use Rattle.model.proofs.Kit.{◌-◌, length}
use Rattle.line_proposals.proofs.Laws.AllPairs.{TriedAt}
use Rattle.line_proposals.proofs.refusal_at.Given as goal

abbrev pub invariant-loop-place : goal.invariant-loop-place
invariant-loop-place l = TriedAt l.board l.line l.at l.place l.flags l.so_far

abbrev pub decreases-loop-place : goal.decreases-loop-place
decreases-loop-place l = length l.line - l.place
