-- `answers::next_answer` meets its contract: nothing at the end, refusal 1, or the line up to its LF.
-- Relies on the laws of a sheet line by line.
use Rattle.model.proofs.Kit.{arith}
use Rattle.answers.proofs.Sheets.{at_end, too_long, goes_on, refused_room, played_room}
use Rattle.answers.proofs.next_answer.Goals as goal

pub returns-then-sheet-at : goal.returns-then-sheet-at
returns-then-sheet-at c = at_end _ _ _ _ _ (omega arith) c.new.ensures

pub ended-requires : goal.ended-requires
ended-requires c = refused_room _ c.refused_line.ensures

pub returns-then-sheet-gt32768 : goal.returns-then-sheet-gt32768
returns-then-sheet-gt32768 c = too_long _ _ _ _ _ _ (omega arith) (omega arith) c.refused_line.ensures (search)

pub ended-requires-2 : goal.ended-requires-2
ended-requires-2 c = search played_room

pub returns : goal.returns
returns c = goes_on _ _ _ _ _ _ _ _ (omega arith) (omega arith) (search) c.play_line-played.ensures (search)
