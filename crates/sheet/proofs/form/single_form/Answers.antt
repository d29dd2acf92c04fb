-- `form::single_form` meets its contract: a number and a figure behind spaces, and the closing bracket.
use Rattle.std.proofs.Common.{rules}
use Rattle.sheet.proofs.Laws.Forms.{propose_no_first, propose_no_second, propose_open, propose_read}
use Rattle.sheet.proofs.form.single_form.Goals as goal

pub returns-in_default : goal.returns-in_default
returns-in_default c = search propose_no_first

pub returns-in_default-spaced_figure : goal.returns-in_default-spaced_figure
returns-in_default-spaced_figure c = search propose_no_second

pub returns-then-closes : goal.returns-then-closes
returns-then-closes c = search (propose_read, rules)

pub returns : goal.returns
returns c = search propose_open
