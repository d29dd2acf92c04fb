-- `number::spaced_figure` meets its contract: the space, the sign, and the number behind it.
use Rattle.model.proofs.Kit.{arith}
use Rattle.lexer.proofs.Laws.Places.{is_byte, no_byte, not_not}
use Rattle.lexer.proofs.Laws.Spaced.{figure_unspaced, minus_missed, minus_found, plain_missed, plain_found}
use Rattle.lexer.proofs.number.spaced_figure.Goals as goal

pub returns-then-ne : goal.returns-then-ne
returns-then-ne c =
    figure_unspaced _ _
    (no_byte _ _ _ c.get.ensures.lookup.0 c.get.ensures.lookup.1 _ (omega arith) (not_not _ _ c.if-ne.ensures))

pub returns-in_default : goal.returns-in_default
returns-in_default c =
    minus_missed _ _
    (is_byte _ _ _ c.get.ensures.lookup.0 c.get.ensures.lookup.1 _ (omega arith) (not_not _ _ c.if-ne.ensures))
    (is_byte _ _ _ c.get-2.ensures.lookup.0 c.get-2.ensures.lookup.1 _ (omega arith) c.if-eq.ensures)
    _ c.number.ensures _ c.in_default.is

pub returns-then-eq : goal.returns-then-eq
returns-then-eq c =
    minus_found _ _
    (is_byte _ _ _ c.get.ensures.lookup.0 c.get.ensures.lookup.1 _ (omega arith) (not_not _ _ c.if-ne.ensures))
    (is_byte _ _ _ c.get-2.ensures.lookup.0 c.get-2.ensures.lookup.1 _ (omega arith) c.if-eq.ensures)
    _ c.number.ensures _ c.in-Ok.is

pub returns-in_default-number : goal.returns-in_default-number
returns-in_default-number c =
    plain_missed _ _
    (is_byte _ _ _ c.get.ensures.lookup.0 c.get.ensures.lookup.1 _ (omega arith) (not_not _ _ c.if-ne.ensures))
    (no_byte _ _ _ c.get-2.ensures.lookup.0 c.get-2.ensures.lookup.1 _ (omega arith) c.if-eq.ensures)
    _ c.number-2.ensures _ c.in_default-number.is

pub returns : goal.returns
returns c =
    plain_found _ _
    (is_byte _ _ _ c.get.ensures.lookup.0 c.get.ensures.lookup.1 _ (omega arith) (not_not _ _ c.if-ne.ensures))
    (no_byte _ _ _ c.get-2.ensures.lookup.0 c.get-2.ensures.lookup.1 _ (omega arith) c.if-eq.ensures)
    _ c.number-2.ensures _ c.in-Ok-number.is
