-- `together::propose_pairs`: pairs that are not refused are put in.
use Rattle.proposing.proofs.Laws.Together.{pairs_free, pairs_put, lent_fit}
use Rattle.proposing.proofs.together.propose_pairs.Goals as goal

pub put_pairs-requires : goal.put_pairs-requires
put_pairs-requires c = pairs_free _ _ c.requires _ c.pairs_refusal.ensures _ c.in_ok-pairs_refusal.was (lent_fit _)

pub returns : goal.returns
returns c = pairs_put _ _ c.requires _ c.pairs_refusal.ensures _ c.in_ok-pairs_refusal.was _ c.put_pairs.ensures
