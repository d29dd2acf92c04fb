-- `propose_pairs_at`: pairs that are not refused are taken.
use Rattle.line_proposals.proofs.Laws.WholeLine.{pairs_taken}
use Rattle.line_proposals.proofs.propose_pairs_at.Goals as goal

pub put_pairs_at-requires : goal.put_pairs_at-requires
put_pairs_at-requires c = pairs_taken _ _ _ c.requires.0 _ c.refusal_at.ensures _ c.in_ok-refusal_at.was c.requires.1
