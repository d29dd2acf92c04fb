-- `finish::decided` meets its contract: its return is a law of Ends.
use Rattle.std.proofs.Common.{rules}
use Rattle.archipelago.proofs.Ends.{decision_made}
use Rattle.archipelago.proofs.finish.decided.Goals as goal

pub returns : goal.returns
returns c = search (decision_made, rules)
