use Rattle.list_laws.proofs.Laws.Lists.{list_closed, list_past}
use Rattle.round_reader.proofs.Laws.Rounds.{rounds_begun, rounds_unspaced, round_missing, round_less}
use Rattle.round_reader.proofs.Laws.Rounds.{round_again}
use Rattle.round_reader.proofs.round_list.Goals as goal

pub loop-place-init : goal.loop-place-init
loop-place-init c = search rounds_begun

pub returns-then-line-place-eq41 : goal.returns-then-line-place-eq41
returns-then-line-place-eq41 c = search list_closed

pub returns-then-line-place-ne32 : goal.returns-then-line-place-ne32
returns-then-line-place-ne32 c = search rounds_unspaced

pub returns-in_default : goal.returns-in_default
returns-in_default c = search round_missing

pub loop-place-smaller : goal.loop-place-smaller
loop-place-smaller c = search round_less

pub loop-place-preserved : goal.loop-place-preserved
loop-place-preserved c = search round_again

pub returns : goal.returns
returns c = search list_past
