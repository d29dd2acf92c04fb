-- `tape_steps` meets its contract: the line on the part of the memory that the board is.
-- Relies on the laws of a line that takes steps.
use Rattle.taped_line.proofs.Laws.Lines.{on_part}
use Rattle.taped_line.proofs.Laws.OnBoard.{counted_only}
use Rattle.taped_line.proofs.tape_steps.Goals as goal

pub returns : goal.returns
returns c = search (on_part, counted_only)
