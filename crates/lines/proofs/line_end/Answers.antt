-- `line_end` meets its contract: the first LF from the place on, or the end.
-- Relies on the law of a line's end.
use Rattle.lines.proofs.Laws.{found_end}
use Rattle.lines.proofs.line_end.Goals as goal

pub returns : goal.returns
returns c = search found_end
