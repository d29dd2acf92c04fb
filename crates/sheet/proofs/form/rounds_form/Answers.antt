-- `form::rounds_form` meets its contract: a number behind a space, and rounds up to their closing bracket, which ends
-- the line.
use Rattle.sheet.proofs.Laws.Forms.{rounds_no_number, rounds_missing, rounds_behind, rounds_read}
use Rattle.sheet.proofs.form.rounds_form.Goals as goal

pub returns-in_default : goal.returns-in_default
returns-in_default c = search rounds_no_number

pub returns-in_default-round_list : goal.returns-in_default-round_list
returns-in_default-round_list c = search rounds_missing

pub returns-then-rounds-line : goal.returns-then-rounds-line
returns-then-rounds-line c = search rounds_behind

pub returns : goal.returns
returns c = search rounds_read
