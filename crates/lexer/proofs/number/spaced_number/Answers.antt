-- `number::spaced_number` meets its contract: the space, and the number behind it.
use Rattle.model.proofs.Kit.{arith}
use Rattle.lexer.proofs.Laws.Places.{is_byte, no_byte, not_not}
use Rattle.lexer.proofs.Laws.Spaced.{number_unspaced, number_spaced}
use Rattle.lexer.proofs.number.spaced_number.Goals as goal

pub returns-then-ne : goal.returns-then-ne
returns-then-ne c =
    number_unspaced _ _
    (no_byte _ _ _ c.get.ensures.lookup.0 c.get.ensures.lookup.1 _ (omega arith) (not_not _ _ c.if-ne.ensures))

pub returns : goal.returns
returns c =
    number_spaced _ _
    (is_byte _ _ _ c.get.ensures.lookup.0 c.get.ensures.lookup.1 _ (omega arith) (not_not _ _ c.if-ne.ensures))
    _ c.number.ensures
