-- `verdict_number` beside a refusal: the number that it converts to, alone.
-- Relies on the laws of a refusal's number.
use Rattle.model.proofs.Kit.{refl}
use Rattle.packing.specs.Packing.{pack_verdict}
use Rattle.packing.specs.Numbered.{verdict_of}
use Rattle.packing.proofs.Laws.Numbered.{numbered_err}
use Rattle.packing.proofs.verdict_number.Goals as goal

pub returns-in-Err : goal.returns-in-Err
unfolding pack_verdict verdict_of
returns-in-Err g c = numbered_err _ _ _ _ c.in-Err.is _ c.into.ensures refl
