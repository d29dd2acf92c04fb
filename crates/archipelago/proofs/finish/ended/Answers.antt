-- `finish::ended` meets its contract: each return is a law of Ends.
use Rattle.model.specs.Layout.{changed}
use Rattle.collect.specs.Collected.{noting}
use Rattle.model.proofs.Basics.Numbers.{landed}
use Rattle.archipelago.proofs.Ends.{ended_nothing, ended_seen_lem}
use Rattle.archipelago.proofs.finish.ended.Goals as goal

pub returns-then-station-ne0 : goal.returns-then-station-ne0
returns-then-station-ne0 c = search ended_seen_lem

pub returns : goal.returns
unfolding noting changed
returns c = search (landed, ended_nothing)
