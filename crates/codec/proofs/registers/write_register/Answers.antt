-- `write_register`: the eight bytes of the literal are those of the layout.
use Rattle.figures.proofs.Laws.Signs.{passed}
use Rattle.codec.proofs.Laws.Writes.{register_laid}
use Rattle.codec.proofs.registers.write_register.Goals as goal

pub returns : goal.returns
returns c = search (passed, register_laid)
