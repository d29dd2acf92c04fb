-- `form::steps_form` meets its contract: items up to their closing bracket, which ends the line.
use Rattle.sheet.proofs.Laws.Forms.{steps_missing, steps_behind, steps_read_lem}
use Rattle.sheet.proofs.form.steps_form.Goals as goal

pub returns-in_default : goal.returns-in_default
returns-in_default c = search steps_missing

pub returns-then-next-line : goal.returns-then-next-line
returns-then-next-line c = search steps_behind

pub returns : goal.returns
returns c = search steps_read_lem
