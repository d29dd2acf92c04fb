-- `board::lufanelis_step` meets its contract: the call's own, with the answer packed.
use Rattle.model.proofs.Kit.{ap, ◌∙◌}
use Rattle.packing.specs.Packing.{pack_step}
use Rattle.capi.proofs.board.lufanelis_step.Goals as goal

pub returns : goal.returns
returns c = (c.step_number.ensures ∙ ap pack_step (search), c.step.ensures.bytes)
