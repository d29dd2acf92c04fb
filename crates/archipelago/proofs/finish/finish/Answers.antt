-- `finish::finish` meets its contract: each return is a law of Ends.
use Rattle.model.proofs.Basics.Numbers.{landed}
use Rattle.collect.proofs.Handed.{Handed}
use Rattle.archipelago.proofs.Ends.{went_lem, marked_lem, settled, went_on, last_island}
use Rattle.archipelago.proofs.finish.finish.Goals as goal
use Rattle.archipelago.proofs.finish.finish.Goals.{After-ended-last}

figure : (c : After-ended-last) → Handed c.ended-last.result.best
figure c = landed _ (search)

pub onward-requires : goal.onward-requires
onward-requires c = search last_island

pub returns-in-M : goal.returns-in-M
returns-in-M c = search went_lem

pub returns-in-A : goal.returns-in-A
returns-in-A c = search marked_lem

pub returns-in-B : goal.returns-in-B
returns-in-B c = let given = figure (search) in search settled

pub returns-in-B-2 : goal.returns-in-B-2
returns-in-B-2 c = let given = figure (search) in search went_on
