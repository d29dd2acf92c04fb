-- `figure_bytes`: the library divides as `digits` does.
use Rattle.figures.proofs.Laws.Signs.{figure_laid}
use Rattle.figures.proofs.figure_bytes.Goals as goal

pub returns : goal.returns
returns c = search figure_laid
