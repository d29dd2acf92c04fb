-- `propose_all_unprinted` meets its contract: what the player leaves, whatever the call answers.
use Rattle.player.proofs.Laws.Parts.{part_length}
use Rattle.unprinted.proofs.Laws.Done.{no_pairs_put, pairs_put}
use Rattle.unprinted.proofs.propose_all_unprinted.Goals as goal

pub returns-then-laid-eq0 : goal.returns-then-laid-eq0
returns-then-laid-eq0 c = search no_pairs_put

pub slice_bounds-propose_line-end-2 : goal.slice_bounds-propose_line-end-2
slice_bounds-propose_line-end-2 c = search part_length

pub returns : goal.returns
returns c = search pairs_put
