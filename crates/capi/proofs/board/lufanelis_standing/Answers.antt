-- `board::lufanelis_standing` meets its contract: the call's own, with the answer packed; the steps of a sound board
-- fit their bits.
use Rattle.model.proofs.Kit.{ap, ◌∙◌}
use Rattle.packing.specs.Packing.{pack_standing}
use Rattle.packing.proofs.Laws.Numbered.{standing_packed}
use Rattle.capi.proofs.Laws.Board.{standing_few}
use Rattle.capi.proofs.board.lufanelis_standing.Goals as goal

pub standing_number-requires : goal.standing_number-requires
standing_number-requires c = search standing_few

pub returns : goal.returns
returns c = standing_packed _ _ c.standing_number.ensures ∙ ap pack_standing (search)
