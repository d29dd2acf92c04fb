-- `form::together_form` meets its contract: pairs up to their closing bracket, which ends the line.
use Rattle.sheet.proofs.Laws.Pairs.{together_missing, together_behind, together_read}
use Rattle.sheet.proofs.form.together_form.Goals as goal

pub returns-in_default : goal.returns-in_default
returns-in_default c = search together_missing

pub returns-then-pairs-line : goal.returns-then-pairs-line
returns-then-pairs-line c = search together_behind

pub returns : goal.returns
returns c = search together_read
