use Rattle.line_rounds.proofs.Laws.AllRounds.{passed_inside, round_stands, passed_less, passed_sound, played_all}
use Rattle.line_rounds.proofs.play_rounds_at.Goals as goal

pub bounds-line-place : goal.bounds-line-place
bounds-line-place c = search passed_inside

pub round_at-round-requires : goal.round_at-round-requires
round_at-round-requires c = search round_stands

pub play_round-requires : goal.play_round-requires
play_round-requires c = search passed_sound

pub loop-place-smaller : goal.loop-place-smaller
loop-place-smaller c = search passed_less

pub returns : goal.returns
returns c = search played_all
