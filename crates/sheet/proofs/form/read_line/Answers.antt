-- `form::read_line` meets its contract: refusal 2, refusal 3, and then the form.
use Rattle.model.proofs.Kit.{arith}
use Rattle.sheet.proofs.Laws.WholeLine.{too_long, nested, flat}
use Rattle.sheet.proofs.form.read_line.Goals as goal

pub returns-then-line-gt255 : goal.returns-then-line-gt255
returns-then-line-gt255 c = too_long _ (omega arith)

pub returns-then-too_deep : goal.returns-then-too_deep
returns-then-too_deep c = search nested

pub returns : goal.returns
returns c = search flat
