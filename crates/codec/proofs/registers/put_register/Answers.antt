-- `put_register`: the lent part, back in its place, is a splice.
use Rattle.codec.proofs.Laws.Writes.{lent_back, length_register}
use Rattle.codec.proofs.registers.put_register.Goals as goal

pub returns : goal.returns
returns c = search (lent_back, length_register)
