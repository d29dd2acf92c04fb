-- `may_fill` meets its contract, form by form.
-- Relies on the most steps that a line takes.
use Rattle.model.proofs.Kit.{refl, ap, ◌∙◌}
use Rattle.std.specs.Prelude.{Ok}
use Rattle.sheet.specs.declared.form.LineForm.{LineForm}
use Rattle.taped_sheet.proofs.Laws.Few.{may_fill, may_fill_lem, never_fills}
use Rattle.taped_sheet.proofs.may_fill.Goals as goal

pub returns-in_default : goal.returns-in_default
returns-in_default c = unfold may_fill in may_fill_lem _ c.requires _ _ _ c.in_default.is refl

pub returns-in-Steps : goal.returns-in-Steps
returns-in-Steps c = unfold may_fill in
    may_fill_lem _ c.requires _ _ _ (c.in-Ok.is ∙ ap (λ (x : LineForm). Ok x) c.in-Steps.is) refl

pub returns-in-Rounds : goal.returns-in-Rounds
returns-in-Rounds c = unfold may_fill in
    may_fill_lem _ c.requires _ _ _ (c.in-Ok.is ∙ ap (λ (x : LineForm). Ok x) c.in-Rounds.is) refl

pub returns-in_default-form : goal.returns-in_default-form
returns-in_default-form c =
    let o = c.in_default-form in
    may_fill_lem _ c.requires _ _ _ c.in-Ok.is (never_fills _ _ o.not-Steps o.not-Rounds)
