-- `figure_at`: the number of the four bytes, read as signed.
use Rattle.figures.proofs.Laws.Signs.{figure_read}
use Rattle.figures.proofs.figure_at.Goals as goal

pub returns : goal.returns
returns c = search figure_read
