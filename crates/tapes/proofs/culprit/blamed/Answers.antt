-- `blamed` meets its contract: the second tape where the first one's line is the algorithm's own.
-- Relies on the laws of the blame.
use Rattle.tapes.proofs.Laws.Checking.{blames_second, blames_first}
use Rattle.tapes.proofs.culprit.blamed.Goals as goal

pub returns-then-not-same : goal.returns-then-not-same
returns-then-not-same c = search blames_first

pub returns : goal.returns
returns c = search blames_second
