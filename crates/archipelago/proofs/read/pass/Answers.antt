-- `read::pass` meets its contract, which names the value that it builds.
use Rattle.model.specs.Layout.{changed}
use Rattle.model.proofs.Basics.Numbers.{landed}
use Rattle.archipelago.specs.Advanced.{passing}
use Rattle.archipelago.proofs.read.pass.Goals as goal

pub returns : goal.returns
unfolding passing changed
returns c =
    let f = c.args.station in
    cc (c.stay.ensures, landed f.proposal (search), landed f.carried (search), landed f.best (search))
