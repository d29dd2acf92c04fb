-- `board::lufanelis_propose_all` meets its contract: the call's own, with the verdict packed.
-- Relies on the laws of the packing.
use Rattle.packing.proofs.Laws.Numbered.{verdict_packed}
use Rattle.capi.proofs.Laws.Board.{packs}
use Rattle.capi.proofs.board.lufanelis_propose_all.Goals as goal

pub returns : goal.returns
returns c = packs _ _ _ _ _ (verdict_packed _ _ c.verdict_number.ensures) (search)
