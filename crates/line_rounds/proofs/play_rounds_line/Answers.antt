-- `play_rounds_line` meets its contract: the rounds that were played leave a sound board, of which the decided are counted.
use Rattle.line_rounds.proofs.Laws.WholeLine.{rounds_stand, played_sound}
use Rattle.line_rounds.proofs.play_rounds_line.Goals as goal

pub decided_on-requires : goal.decided_on-requires
decided_on-requires c =
    played_sound _ _ _ _ _ c.in_ok-rounds_refusal.ensures
    (rounds_stand _ _ _ _ c.requires _ c.known_number-most.ensures) _ c.play_rounds_at.ensures
