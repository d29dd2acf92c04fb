-- `form::form` meets its contract: the word in front names the form, and what follows it is read by that form's reader.
use Rattle.sheet.proofs.Laws.WholeLine.{no_form, form_read, place_inside}
use Rattle.sheet.proofs.form.form.Goals as goal

pub returns-in_default : goal.returns-in_default
returns-in_default c = search no_form

pub show_form-requires : goal.show_form-requires
show_form-requires c = search place_inside

pub returns-in-Board : goal.returns-in-Board
returns-in-Board c = search form_read

pub returns-in-Propose : goal.returns-in-Propose
returns-in-Propose c = search form_read

pub returns-in-Steps : goal.returns-in-Steps
returns-in-Steps c = search form_read

pub returns-in-Show : goal.returns-in-Show
returns-in-Show c = search form_read

pub returns-in-Rounds : goal.returns-in-Rounds
returns-in-Rounds c = search form_read
