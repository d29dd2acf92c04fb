-- `board::lufanelis_rounds` meets its contract: a list that is too long to tell of is not played, and else the call's
-- own promise, with its answer packed. Relies on the laws of rounds on a lent board.
use Rattle.model.proofs.Kit.{arith}
use Rattle.packing.proofs.Laws.Numbered as numbered
use Rattle.capi.proofs.Laws.Rounds.{rounds_too_long, rounds_few, rounds_packed}
use Rattle.capi.proofs.board.lufanelis_rounds.Goals as goal

pub returns-then-named-gt4294967295 : goal.returns-then-named-gt4294967295
returns-then-named-gt4294967295 c = rounds_too_long _ _ _ (omega arith)

pub rounds_number-requires : goal.rounds_number-requires
rounds_number-requires c = rounds_few _ _ _ _ _ (c.rounds.ensures.answer, c.rounds.ensures.bytes) (omega arith)

pub returns : goal.returns
returns c = rounds_packed _ _ _ _ _ (search) (omega arith) _ (numbered.rounds_packed _ _ c.rounds_number.ensures)
