-- `single::put_in`: one record is put, where the station stands on a board that takes its proposal.
use Rattle.model.proofs.Kit.{arith}
use Rattle.proposing.proofs.Laws.Single.{put_in}
use Rattle.proposing.proofs.single.put_in.Goals as goal

pub returns : goal.returns
returns c = put_in _ _ c.requires.0 c.requires.1 _ _ _ _ c.from-n.ensures c.from-k.ensures (omega arith) c.record_offset-at.ensures _ (search) _ c.beginning.ensures _ c.put_record.ensures
