-- `tape_rounds` meets its contract: the line on the part of the memory that the board is.
-- Relies on the laws of a line that takes steps.
use Rattle.taped_line.proofs.Laws.Lines.{on_part}
use Rattle.taped_line.proofs.Laws.OnBoard.{rounds_only}
use Rattle.taped_line.proofs.tape_rounds.Goals as goal

pub returns : goal.returns
returns c = search (on_part, rounds_only)
