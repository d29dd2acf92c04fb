use Rattle.std.proofs.Common.{rules}
use Rattle.tapes.proofs.Laws.Own.{looking_begun, own_room, own_some, own_fits, own_width, own_blamed}
use Rattle.tapes.proofs.Laws.Own.{own_missing, own_later}
use Rattle.tapes.proofs.culprit.culprit_of.Goals as goal

pub loop-at-init : goal.loop-at-init
loop-at-init c = search looking_begun

pub tape_line-next-requires : goal.tape_line-next-requires
tape_line-next-requires c = search own_room

pub overflow_sub-len : goal.overflow_sub-len
overflow_sub-len c = search own_some

pub slice_bounds-own-end : goal.slice_bounds-own-end
slice_bounds-own-end c = search own_fits

pub slice_bounds-blamed-end : goal.slice_bounds-blamed-end
slice_bounds-blamed-end c = search own_width

pub returns-then-next-eq0 : goal.returns-then-next-eq0
returns-then-next-eq0 c = search own_blamed

pub loop-at-preserved : goal.loop-at-preserved
loop-at-preserved c = (search own_later, search rules, search rules)

pub returns : goal.returns
returns c = search own_missing
