-- `lay_unprinted` meets its contract: what the player leaves where the board is laid, and where it is not.
use Rattle.model.proofs.Kit.{◌∙◌}
use Rattle.model.specs.Layout.{board_length}
use Rattle.unprinted.proofs.Laws.Done.{board_not_laid, board_laid}
use Rattle.unprinted.proofs.lay_unprinted.Goals as goal

pub returns-in-Err : goal.returns-in-Err
returns-in-Err c =
    board_not_laid _ _ _ _ _ _ _ _ (c.board_length-need.ensures ∙ (λ j. board_length (c.from.ensures j) (c.from-2.ensures j)))
    c.min-part.ensures c.lay.ensures _ c.in-Err.is

pub returns-in-Ok : goal.returns-in-Ok
returns-in-Ok c =
    board_laid _ _ _ _ _ _ _ _ (c.board_length-need.ensures ∙ (λ j. board_length (c.from.ensures j) (c.from-2.ensures j)))
    c.min-part.ensures c.lay.ensures _ c.in-Ok.is
