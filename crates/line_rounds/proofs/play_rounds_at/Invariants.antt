-- `play_rounds_at` meets its contract: the loop keeps what has been played and a board that is still sound.
use Rattle.model.proofs.Kit.{◌≡◌, ◌-◌, length}
use Rattle.rounds.proofs.Laws.Rounds.{RanRounds}
use Rattle.line_rounds.proofs.Laws.AllRounds.{Passed}
use Rattle.line_rounds.proofs.play_rounds_at.Given as goal

abbrev pub invariant-loop-place : goal.invariant-loop-place
invariant-loop-place l =
    Passed l.line l.at (RanRounds l.initial.board l.board) l.place × (length l.board ≡ length l.initial.board)

abbrev pub decreases-loop-place : goal.decreases-loop-place
decreases-loop-place l = length l.line - l.place
