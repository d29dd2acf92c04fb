-- `write` meets its contract: the figure is stored by its bits, and is the number of those bits.
use Rattle.model.specs.Layout.{changed}
use Rattle.archipelago.specs.Advanced.{writing}
use Rattle.model.proofs.Basics.Numbers.{landed}
use Rattle.archipelago.proofs.write.Goals as goal

pub returns : goal.returns
unfolding writing changed
returns c =
    let f = c.args.station in
    cc (c.requires, landed f.proposal (search), landed f.carried (search), landed f.best (search))
