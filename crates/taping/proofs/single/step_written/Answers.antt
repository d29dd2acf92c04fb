-- `single::step_written` meets its contract: the line that the writer made of the step's answer is the tape's next line.
use Rattle.taping.proofs.Laws.Single.{line_at}
use Rattle.taping.proofs.single.step_written.Goals as goal

pub returns-clause-put : goal.returns-clause-put
returns-clause-put c = line_at _ _ _ _ c.step_on-answer.ensures _ c.entry_line-line.ensures _ _ _ c.put_in.ensures
