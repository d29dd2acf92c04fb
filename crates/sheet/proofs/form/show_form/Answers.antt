-- `form::show_form` meets its contract: behind the word stands the closing bracket alone.
use Rattle.model.proofs.Kit.{sym, ◌∙◌}
use Rattle.sheet.proofs.Laws.Forms.{shows, shows_not}
use Rattle.sheet.proofs.form.show_form.Goals as goal

pub returns-then-closes : goal.returns-then-closes
returns-then-closes c = shows _ _ (sym (search) ∙ c.if-closes.true)

pub returns : goal.returns
returns c = shows_not _ _ (sym (search) ∙ c.if-closes.false)
