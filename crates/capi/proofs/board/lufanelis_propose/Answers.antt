-- `board::lufanelis_propose` meets its contract: the call's own, with the verdict packed.
-- Relies on the laws of the packing.
use Rattle.std.proofs.Common.{rules}
use Rattle.model.proofs.Kit.{to_z-of_z, w32}
use Rattle.packing.proofs.Laws.Numbered.{verdict_packed}
use Rattle.capi.proofs.Laws.Board.{proposes}
use Rattle.capi.proofs.board.lufanelis_propose.Goals as goal

pub returns : goal.returns
returns c =
    proposes _ _ _ _ _ _ _ (to_z-of_z {w = w32} (search rules)) (verdict_packed _ _ c.verdict_number.ensures)
    c.propose.ensures
