use Rattle.std.proofs.Common.{rules, ◌≡◌}
use Prim.Native.Nat.{max}
use Rattle.rounds.proofs.Laws.Lent.{asked_more, asked_all}
use Rattle.rounds.proofs.lent.needs_of.Goals as goal

pub loop-at-preserved : goal.loop-at-preserved
loop-at-preserved c =
    let m : c.max-needs.result ≡ max c.loop-at.needs c.round_needs.result = search rules in search asked_more

pub returns : goal.returns
returns c = search asked_all
