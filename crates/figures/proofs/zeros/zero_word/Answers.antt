-- `zero_word`: a number is zero when its bytes are.
use Rattle.figures.proofs.Laws.Zeros.{word_zero}
use Rattle.figures.proofs.zeros.zero_word.Goals as goal

pub returns : goal.returns
returns c = search word_zero
