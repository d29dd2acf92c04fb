-- `put_phase`: one store is a splice of one byte.
use Rattle.codec.proofs.Laws.Stores.{phase_put}
use Rattle.codec.proofs.records.put_phase.Goals as goal

pub returns : goal.returns
returns c = phase_put c.args.r _ _ c.requires
