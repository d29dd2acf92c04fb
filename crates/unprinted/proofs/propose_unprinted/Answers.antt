-- `propose_unprinted` meets its contract: what the player leaves, whatever the call answers.
use Rattle.model.proofs.Kit.{to_z-of_z}
use Rattle.player.proofs.Laws.Parts.{part_length}
use Rattle.unprinted.proofs.Laws.Done.{nothing_proposed, one_proposed, same_proposed}
use Rattle.unprinted.proofs.propose_unprinted.Goals as goal

pub returns-then-laid-eq0 : goal.returns-then-laid-eq0
returns-then-laid-eq0 c = search nothing_proposed

pub slice_bounds-propose-end-2 : goal.slice_bounds-propose-end-2
slice_bounds-propose-end-2 c = search part_length

pub returns : goal.returns
returns c = same_proposed _ _ _ _ _ _ (to_z-of_z c.ranges.figure) (one_proposed _ _ _ _ _ _ _ c.if-laid-eq0.false c.min-part.ensures c.propose.ensures)
