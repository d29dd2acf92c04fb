-- `compared::lufanelis_culprit` meets its contract: the comparison's own, with its answer as numbers.
use Rattle.capi.proofs.Laws.Compared.{put_culprit, put_place}
use Rattle.capi.proofs.compared.lufanelis_culprit.Goals as goal

pub returns : goal.returns
returns c = search (put_culprit, put_place)
