use Rattle.rounds.proofs.Laws.Lent.{played_sound, played_all}
use Rattle.rounds.proofs.lent.play_rounds.Goals as goal

pub play_round-requires : goal.play_round-requires
play_round-requires c = search played_sound

pub returns : goal.returns
returns c = search played_all
