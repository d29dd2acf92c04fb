-- `finish::marked` meets its contract: the figure goes by its bits into the record and into the answer.
use Rattle.model.proofs.Kit.{◌≡◌, sym, ap, ◌∙◌, Bool, cond, eqb, ℕ}
use Rattle.model.specs.declared.StepAnswer.TheVariants.{Marked}
use Rattle.model.proofs.Basics.Numbers.{landed}
use Rattle.archipelago.proofs.Ends.{begun, marks_is}
use Rattle.archipelago.proofs.finish.marked.Goals as goal
use Rattle.archipelago.proofs.finish.marked.Goals.{then-all_equal, else-all_equal, After-stay}

by_test : (flag seen : ℕ) (t b : Bool) → flag ≡ cond b 2 1 → t ≡ b → t ≡ eqb seen 1 → flag ≡ cond (eqb seen 1) 2 1
by_test flag seen t b e q d = e ∙ ap (λ (b : Bool). cond {A = ℕ} b 2 1) (sym q ∙ d)

flag_is : (c : After-stay) → c.if-all_equal.flag ≡ cond (eqb c.args.last.seen 1) 2 1
flag_is c =
    elim c.if-all_equal.branch [
      | then-all_equal w ↦ by_test _ _ _ _ w.flag-is w.if-all_equal.true c.all_equal.ensures
      | else-all_equal w ↦ by_test _ _ _ _ w.flag-is w.if-all_equal.false c.all_equal.ensures
    ]

pub returns : goal.returns
returns c =
    let a = c.args.last in
    marks_is a _ _ _ (flag_is c)
    (begun 5 a.island c.if-all_equal.flag a a.best _ (Marked c.if-all_equal.flag 0) _ _ (landed _ (search))
    c.start-next.ensures c.stay.ensures)
