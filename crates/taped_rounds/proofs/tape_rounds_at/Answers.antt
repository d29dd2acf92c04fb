use Rattle.line_rounds.proofs.Laws.AllRounds.{passed_inside, round_stands, passed_less}
use Rattle.taped_rounds.proofs.Laws.Rounds.{rounds_ready, taped_all}
use Rattle.taped_rounds.proofs.tape_rounds_at.Goals as goal

pub bounds-line-place : goal.bounds-line-place
bounds-line-place c = search passed_inside

pub round_at-round-requires : goal.round_at-round-requires
round_at-round-requires c = search round_stands

pub tape_round-done-requires : goal.tape_round-done-requires
tape_round-done-requires c = search rounds_ready

pub loop-place-smaller : goal.loop-place-smaller
loop-place-smaller c = search passed_less

pub returns : goal.returns
returns c = search taped_all
