use Rattle.tapes.proofs.Laws.Checking.{checked_begun, checked_all, checked_more, not_checked}
use Rattle.tapes.proofs.checking.entries_end.Goals as goal

pub loop-at-init : goal.loop-at-init
loop-at-init c = search checked_begun

pub returns-then-not-is_entry : goal.returns-then-not-is_entry
returns-then-not-is_entry c = search not_checked

pub loop-at-preserved : goal.loop-at-preserved
loop-at-preserved c = search checked_more

pub returns : goal.returns
returns c = search checked_all
