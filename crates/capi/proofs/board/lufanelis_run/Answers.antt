-- `board::lufanelis_run` meets its contract: the call's own, with its counts packed; both fit their bits, since 6 comes
-- first. Relies on the laws of the calls on a board.
use Rattle.packing.proofs.Laws.Numbered as numbered
use Rattle.capi.proofs.Laws.Board.{run_few, run_packed}
use Rattle.capi.proofs.board.lufanelis_run.Goals as goal

pub run_number-requires : goal.run_number-requires
run_number-requires c = run_few _ _ _ _ (c.run.ensures.answer, c.run.ensures.bytes)

pub returns : goal.returns
returns c = run_packed _ _ _ _ (search) _ (numbered.run_packed _ _ c.run_number.ensures)
