-- `compared::lufanelis_compare` meets its contract: the comparison's own, with its answer as numbers.
use Rattle.capi.proofs.Laws.Compared.{put_refusal, put_list}
use Rattle.capi.proofs.compared.lufanelis_compare.Goals as goal

pub returns : goal.returns
returns c = search (put_refusal, put_list)
