-- `try_line` meets its contract: the memory is put back where the buffer is full.
-- Relies on the laws of the memory that is kept.
use Rattle.taped_sheet.proofs.Laws.Keeping.{put_back}
use Rattle.taped_sheet.proofs.try_line.Goals as goal

pub returns-then-tried-eq0 : goal.returns-then-tried-eq0
returns-then-tried-eq0 c = search put_back
