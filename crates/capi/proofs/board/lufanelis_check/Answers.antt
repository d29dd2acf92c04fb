-- `board::lufanelis_check` meets its contract: the call's own, with the verdict packed.
use Rattle.model.proofs.Kit.{ap, ◌∙◌}
use Rattle.packing.specs.Packing.{pack_verdict}
use Rattle.packing.proofs.Laws.Numbered.{verdict_packed}
use Rattle.capi.proofs.board.lufanelis_check.Goals as goal

pub returns : goal.returns
returns c = verdict_packed _ _ c.verdict_number.ensures ∙ ap pack_verdict (search)
