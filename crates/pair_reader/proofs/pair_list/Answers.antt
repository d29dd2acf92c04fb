use Rattle.list_laws.proofs.Laws.Lists.{list_closed, list_past}
use Rattle.pair_reader.proofs.Laws.Pairs.{pairs_begun, pairs_unspaced, pair_missing, pair_less}
use Rattle.pair_reader.proofs.Laws.Pairs.{pair_again}
use Rattle.pair_reader.proofs.pair_list.Goals as goal

pub loop-place-init : goal.loop-place-init
loop-place-init c = search pairs_begun

pub returns-then-line-place-eq41 : goal.returns-then-line-place-eq41
returns-then-line-place-eq41 c = search list_closed

pub returns-then-line-place-ne32 : goal.returns-then-line-place-ne32
returns-then-line-place-ne32 c = search pairs_unspaced

pub returns-in_default : goal.returns-in_default
returns-in_default c = search pair_missing

pub loop-place-smaller : goal.loop-place-smaller
loop-place-smaller c = search pair_less

pub loop-place-preserved : goal.loop-place-preserved
loop-place-preserved c = search pair_again

pub returns : goal.returns
returns c = search list_past
