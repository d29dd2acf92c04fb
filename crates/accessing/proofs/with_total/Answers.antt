-- `with_total` meets its contract: each case is told with the total, if it has one.
use Rattle.model.proofs.Kit.{refl}
use Rattle.model.specs.declared.StepAnswer.TheVariants.{Read, Went, Marked, Adopted, Decided, Spent, Refused}
use Rattle.model.specs.Filled.{reported}
use Rattle.model.specs.Told.{told}
use Rattle.model.proofs.Basics.Numbers.{landed}
use Rattle.accessing.proofs.Laws.Met.{with_figure, without, wrote_without}
use Rattle.accessing.proofs.with_total.Goals as goal

pub returns-in-Wrote : goal.returns-in-Wrote
unfolding told reported
returns-in-Wrote c = search wrote_without

pub returns-in-Read : goal.returns-in-Read
unfolding told reported
returns-in-Read c = search (without Read (λ x k. refl))

pub returns-in-Went : goal.returns-in-Went
unfolding told reported
returns-in-Went c = search (with_figure Went (λ i k j v. refl), landed)

pub returns-in-Marked : goal.returns-in-Marked
unfolding told reported
returns-in-Marked c = search (with_figure Marked (λ i k j v. refl), landed)

pub returns-in-Adopted : goal.returns-in-Adopted
unfolding told reported
returns-in-Adopted c = search (with_figure Adopted (λ i k j v. refl), landed)

pub returns-in-Decided : goal.returns-in-Decided
unfolding told reported
returns-in-Decided c = search (with_figure Decided (λ i k j v. refl), landed)

pub returns-in-Spent : goal.returns-in-Spent
unfolding told reported
returns-in-Spent c = search (with_figure Spent (λ i k j v. refl), landed)

pub returns-in-Refused : goal.returns-in-Refused
unfolding told reported
returns-in-Refused c = search (without Refused (λ x k. refl))
