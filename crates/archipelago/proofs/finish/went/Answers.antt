-- `finish::went` meets its contract: the figure goes by its bits into the record and into the answer.
use Rattle.model.proofs.Basics.Numbers.{landed}
use Rattle.model.specs.declared.StepAnswer.TheVariants.{Went}
use Rattle.archipelago.proofs.Ends.{begun}
use Rattle.archipelago.proofs.finish.went.Goals as goal

pub returns : goal.returns
returns c =
    let a = c.args.last in
    begun 3 a.highest 0 a a.best _ (Went a.highest 0) _ _ (landed _ (search)) c.start-next.ensures c.stay.ensures
