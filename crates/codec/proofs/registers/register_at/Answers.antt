-- `register_at`: the fields of the part are those that stand at its place in the whole.
use Rattle.codec.proofs.Laws.Reads.{register_read}
use Rattle.codec.proofs.registers.register_at.Goals as goal

pub returns : goal.returns
returns c = search register_read
