-- `put_pairs_at`: what the board that the pairs passed have led to says of the next.
use Rattle.line_proposals.proofs.Laws.AllPairs.{put_inside, put_all, put_stands, put_less, put_sound, put_free}
use Rattle.line_proposals.proofs.put_pairs_at.Goals as goal

pub bounds-line-place : goal.bounds-line-place
bounds-line-place c = search put_inside

pub pair_at-pair-requires : goal.pair_at-pair-requires
pair_at-pair-requires c = search put_stands

pub put_in-requires : goal.put_in-requires
put_in-requires c = search (put_sound, put_free)

pub loop-place-smaller : goal.loop-place-smaller
loop-place-smaller c = search put_less

pub returns : goal.returns
returns c = search put_all
