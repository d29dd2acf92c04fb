use Rattle.std.proofs.Common.{rules, ◌≡◌, ◌∙◌}
use Rattle.std.specs.List.{fold}
use Rattle.halts.specs.Needs.{climb}
use Rattle.rounds.proofs.Laws.Lent.{climbs_fold}
use Rattle.rounds.proofs.lent.climb_of.Goals as goal

pub returns : goal.returns
returns c = let h : c.fold.result ≡ fold climb 0 c.args.named.now = search rules in h ∙ climbs_fold 0 _
