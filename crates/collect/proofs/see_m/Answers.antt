-- `see_m` meets its contract: each return is a law of OneRead.
use Rattle.model.proofs.Basics.Numbers.{landed}
use Rattle.collect.proofs.Handed.{Handed, pair_told}
use Rattle.collect.proofs.OneRead.{m_first, m_above, m_below}
use Rattle.collect.proofs.see_m.Goals as goal
use Rattle.collect.proofs.see_m.Goals.{Start}

figures : (c : Start) → Handed c.args.station.best × Handed c.args.figure
figures c = (landed _ (search), landed _ (search))

pub returns-in-0 : goal.returns-in-0
returns-in-0 c = search (landed, m_first)

pub returns-in_default : goal.returns-in_default
returns-in_default c = let given = figures (search) in search (landed, pair_told, m_above)

pub returns-in_default-2 : goal.returns-in_default-2
returns-in_default-2 c = let given = figures (search) in search (pair_told, m_below)
