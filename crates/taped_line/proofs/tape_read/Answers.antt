-- `tape_read` meets its contract: a line that takes no step is played.
-- Relies on the laws of a line by its reading.
use Rattle.taped_line.proofs.Laws.Played.{as_refused, as_idle}
use Rattle.taped_line.proofs.tape_read.Goals as goal

pub returns-in_default : goal.returns-in_default
returns-in_default c =
    let p = c.play_on.ensures in as_refused _ _ c.requires.0 _ _ _ _ _ _ p.taped p.laid p.memory _ c.in_default.is

pub returns-in_default-form : goal.returns-in_default-form
returns-in_default-form c =
    let o = c.in_default-form in
    let p = c.play_on-in_default-form.ensures in
    as_idle _ _ c.requires.0 _ _ _ _ _ _ p.taped p.laid p.memory _ c.in-Ok.is o.not-Steps o.not-Rounds
