-- `refusal_at`: what the pairs passed are refused with, and where the next stands.
use Rattle.line_proposals.proofs.Laws.AllPairs.{tried_begun, tried_inside, tried_all, tried_stands, tried_less}
use Rattle.line_proposals.proofs.refusal_at.Goals as goal

pub loop-place-init : goal.loop-place-init
loop-place-init c = search tried_begun

pub bounds-line-place : goal.bounds-line-place
bounds-line-place c = search tried_inside

pub pair_at-pair-requires : goal.pair_at-pair-requires
pair_at-pair-requires c = search tried_stands

pub loop-place-smaller : goal.loop-place-smaller
loop-place-smaller c = search tried_less

pub returns : goal.returns
returns c = search tried_all
