-- `form::board_form` meets its contract: two numbers behind spaces, and the closing bracket.
use Rattle.sheet.proofs.Laws.Forms.{board_no_first, board_no_second, board_open, board_read}
use Rattle.sheet.proofs.form.board_form.Goals as goal

pub returns-in_default : goal.returns-in_default
returns-in_default c = search board_no_first

pub returns-in_default-spaced_number : goal.returns-in_default-spaced_number
returns-in_default-spaced_number c = search board_no_second

pub returns-then-closes : goal.returns-then-closes
returns-then-closes c = search board_read

pub returns : goal.returns
returns c = search board_open
