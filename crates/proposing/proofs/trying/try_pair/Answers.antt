-- `trying::try_pair`: where no fault stood before, it is this pair's own.
use Rattle.proposing.proofs.Laws.Trying.{number_tried}
use Rattle.proposing.proofs.trying.try_pair.Goals as goal

pub returns : goal.returns
returns c =
    number_tried _ _ _ _ _ _ c.name_station-twice.ensures c.if-twice.false c.if-number-ne0.false _ _
    c.number_of.ensures c.refusal_of.ensures
