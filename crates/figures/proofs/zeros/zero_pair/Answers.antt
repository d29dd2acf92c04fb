-- `zero_pair`: a number is zero when its bytes are.
use Rattle.figures.proofs.Laws.Zeros.{word_zero}
use Rattle.figures.proofs.zeros.zero_pair.Goals as goal

pub returns : goal.returns
returns c = search word_zero
