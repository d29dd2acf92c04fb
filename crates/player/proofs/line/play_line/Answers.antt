-- `line::play_line` meets its contract: each form as its own player plays it, and refusals 2 to 4.
-- Relies on the laws of a line by its reading.
use Rattle.std.proofs.Common.{rules}
use Rattle.model.proofs.Kit.{to_z-of_z, w32}
use Rattle.player.proofs.Laws.Playing.{same_figure_lem}
use Rattle.player.proofs.Laws.Reading.{line_turned, line_board, line_propose, line_steps, line_show, line_rounds}
use Rattle.player.proofs.Laws.Reading.{line_proposals}
use Rattle.player.proofs.line.play_line.Goals as goal

pub returns-in-Err : goal.returns-in-Err
returns-in-Err c = line_turned _ _ _ _ c.read_line.ensures _ _ c.in-Err.is c.told.ensures.line c.told.ensures.laid

pub returns-in-Ok-Board : goal.returns-in-Ok-Board
returns-in-Ok-Board c = line_board _ _ _ _ c.read_line.ensures _ _ _ _ (search) c.play_board.ensures

pub returns-in-Ok-Propose : goal.returns-in-Ok-Propose
returns-in-Ok-Propose c =
    line_propose _ _ _ _ c.read_line.ensures _ _ _ c.told-in-Ok-Propose.ensures.line c.told-in-Ok-Propose.ensures.laid
    c.in-Ok-Propose.station c.in-Ok-Propose.figure (search)
    (same_figure_lem _ _ _ _ _ _ _ (to_z-of_z {w = w32} (search rules)) c.play_proposal.ensures)

pub returns-in-Ok-Steps : goal.returns-in-Ok-Steps
returns-in-Ok-Steps c =
    line_steps _ _ _ _ c.read_line.ensures _ _ _ c.told-in-Ok-Steps.ensures.line c.told-in-Ok-Steps.ensures.laid
    c.in-Ok-Steps.at c.in-Ok-Steps.count (search)
    c.play_steps.ensures

pub returns-in-Ok-Rounds : goal.returns-in-Ok-Rounds
returns-in-Ok-Rounds c =
    line_rounds _ _ _ _ c.read_line.ensures _ _ _ c.told-in-Ok-Rounds.ensures.line c.told-in-Ok-Rounds.ensures.laid
    c.in-Ok-Rounds.at c.in-Ok-Rounds.rounds c.in-Ok-Rounds.needs (search)
    c.play_rounds.ensures

pub returns-in-Ok-Proposals : goal.returns-in-Ok-Proposals
returns-in-Ok-Proposals c =
    line_proposals _ _ _ _ c.read_line.ensures _ _ _ c.told-in-Ok-Proposals.ensures.line c.told-in-Ok-Proposals.ensures.laid
    c.in-Ok-Proposals.at c.in-Ok-Proposals.pairs (search)
    c.play_proposals.ensures

pub returns-in-Ok-Show : goal.returns-in-Ok-Show
returns-in-Ok-Show c =
    line_show _ _ _ _ c.read_line.ensures _ _ _ c.told-in-Ok-Show.ensures.line c.told-in-Ok-Show.ensures.laid (search)
    c.play_show.ensures
