-- `end_fields` meets its contract: a number in its range, a figure and a total, each behind a space, and the
-- closing bracket.
use Rattle.std.proofs.Common.{rules, arith, ◌≡◌, ◌≤◌}
use Rattle.model.proofs.Kit.{leb, ◌&&◌, false}
use Rattle.std.proofs.lemmas.Grind.{common_steps}
use Rattle.tape_reader.proofs.Laws.ReadingFields.{ends_missed, ends_no_figure, ends_no_total, ends_closes, ends_outside}
use Rattle.tape_reader.proofs.end_fields.Goals as goal

pub returns-in_default : goal.returns-in_default
returns-in_default c = search ends_missed

pub returns-in_default-spaced_figure : goal.returns-in_default-spaced_figure
returns-in_default-spaced_figure c = search ends_no_figure

pub returns-in_default-spaced_number : goal.returns-in_default-spaced_number
returns-in_default-spaced_number c = search ends_no_total

pub returns-then-contains : goal.returns-then-contains
returns-then-contains c =
    let h : c.args.low ≤ c.in-Ok.first.value = search rules in
    let l : c.in-Ok.first.value ≤ c.args.high = search rules in
    search ends_closes

pub returns-else-contains : goal.returns-else-contains
returns-else-contains c =
    let o : leb c.args.low c.in-Ok.first.value && leb c.in-Ok.first.value c.args.high ≡ false = grind (arith, common_steps) in
    search ends_outside
