-- `see_adopt` meets its contract: each return is a law of ReadB.
use Rattle.model.proofs.Basics.Numbers.{landed}
use Rattle.collect.proofs.Handed.{Handed, larger_told}
use Rattle.collect.proofs.ReadB.{adopt_first, adopt_more, adopt_beside, third_stays}
use Rattle.collect.proofs.see_adopt.Goals as goal
use Rattle.collect.proofs.see_adopt.Goals.{Start}

figures : (c : Start) → Handed c.args.station.best × Handed c.args.figure
figures c = (landed _ (search), landed _ (search))

pub returns-in-0 : goal.returns-in-0
returns-in-0 c = search (landed, adopt_first)

pub returns-in-1 : goal.returns-in-1
returns-in-1 c = let given = figures (search) in search (landed, larger_told, adopt_more)

pub returns-in-2 : goal.returns-in-2
returns-in-2 c = search (landed, adopt_beside)

pub returns-in_default : goal.returns-in_default
returns-in_default c = search third_stays
