-- `showing::show_by_value` beside a refusal: the zeros are what `show` tells of it. Relies on the laws of a shown line.
use Rattle.calls.proofs.Laws.Showing.{refused_by_value}
use Rattle.calls.proofs.showing.show_by_value.Goals as goal

pub returns-in-Err : goal.returns-in-Err
returns-in-Err c = refused_by_value _ _ c.show.ensures _ c.in-Err.is _ c.not_shown.ensures
