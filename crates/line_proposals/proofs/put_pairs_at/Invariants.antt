-- `put_pairs_at` meets its contract: the loop keeps a board that the pairs passed have led to.
use Rattle.model.proofs.Kit.{◌≡◌, ◌-◌, length}
use Rattle.line_proposals.proofs.Laws.AllPairs.{PutAt}
use Rattle.line_proposals.proofs.put_pairs_at.Given as goal

abbrev pub invariant-loop-place : goal.invariant-loop-place
invariant-loop-place l = PutAt l.initial.board l.line l.at l.board l.place × (length l.board ≡ length l.initial.board)

abbrev pub decreases-loop-place : goal.decreases-loop-place
decreases-loop-place l = length l.line - l.place
