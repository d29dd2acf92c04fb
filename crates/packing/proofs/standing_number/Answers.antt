-- `standing_number` beside a refusal: the number that it converts to, alone.
-- Relies on the laws of a refusal's number.
use Rattle.model.proofs.Kit.{arith}
use Rattle.packing.specs.Packing.{packed_at, pack_standing}
use Rattle.packing.specs.Numbered.{standing_of}
use Rattle.packing.proofs.Laws.Numbered.{numbered_err}
use Rattle.packing.proofs.standing_number.Goals as goal

pub returns-in-Err : goal.returns-in-Err
unfolding packed_at pack_standing standing_of
returns-in-Err g c = numbered_err _ _ _ _ c.in-Err.is _ c.refusal_number.ensures (omega arith)
