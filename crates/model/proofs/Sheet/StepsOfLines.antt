-- A station's count after the lines of a sheet is the number of its accepted steps in their calls.
-- Relies on ListOfCalls and on the count along a list; it proves `SheetStepCount`.
use Rattle.model.proofs.Kit.{ap, sym, subst, ◌∙◌}
use Rattle.model.specs.Calls.{steps_taken}
use Rattle.model.specs.Sheet.{play_board}
use Rattle.model.specs.AnyList.{AllAllowed, after}
use Rattle.model.specs.SheetList.{lines_calls}
use Rattle.model.specs.StepCount.{steps_in, SheetStepCount}
use Rattle.model.proofs.Bridge.StepCount.{step_count}
use Rattle.model.proofs.Sheet.ListOfCalls.{lines_allowed, lines_leave, board_laid, start}

pub sheet_step_count : SheetStepCount
unfolding SheetStepCount
sheet_step_count laid m n K ok ls h i low high =
    let p = play_board laid m n K in
    let cs = lines_calls ls p in
    let laid-first = board_laid laid m n K ok in
    let begins = start laid m n K ok in
    ap (steps_taken i) (lines_leave n K ls p begins h ∙ ap (after cs) laid-first)
    ∙ step_count.laid n K _ ok i low high cs (subst (AllAllowed cs) laid-first (lines_allowed n K ls p begins h))
    ∙ ap (steps_in i cs) (sym laid-first)
