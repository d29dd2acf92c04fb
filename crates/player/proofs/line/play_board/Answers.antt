-- `line::play_board` meets its contract: the laid line and the length of the new board, or a refusal of the call.
-- Relies on the laws of a played line.
use Rattle.model.proofs.Kit.{◌∙◌}
use Rattle.model.specs.Layout.{board_length}
use Rattle.player.proofs.Laws.Playing.{board_turned, board_plays}
use Rattle.player.proofs.line.play_board.Goals as goal

pub returns-in-Ok : goal.returns-in-Ok
returns-in-Ok c =
    board_plays _ _ _ _ _ _ _ (c.board_length-need.ensures ∙ (λ j. board_length (c.from.ensures j) (c.from-2.ensures j)))
    c.min-part.ensures _ c.lay.ensures _ c.in-Ok.is _ c.laid_line.ensures

pub returns-in-Err : goal.returns-in-Err
returns-in-Err c =
    board_turned _ _ _ _ _ _ _ (c.board_length-need.ensures ∙ (λ j. board_length (c.from.ensures j) (c.from-2.ensures j)))
    c.min-part.ensures _ c.lay.ensures _ c.in-Err.is _ c.told.ensures.line
    c.told.ensures.laid
