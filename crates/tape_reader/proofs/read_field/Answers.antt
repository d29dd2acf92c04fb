-- `read_field` meets its contract: a number behind a space that is 0 or 1, and the closing bracket.
use Rattle.tape_reader.proofs.Laws.ReadingFields.{read_missed, read_closes, read_above}
use Rattle.tape_reader.proofs.read_field.Goals as goal

pub returns-in_default : goal.returns-in_default
returns-in_default c = search read_missed

pub returns-then-filled-le1 : goal.returns-then-filled-le1
returns-then-filled-le1 c = search read_closes

pub returns-else-filled-le1 : goal.returns-else-filled-le1
returns-else-filled-le1 c = search read_above
