-- `pair_at` meets its contract: a bracket, a number, a figure behind a space, and the closing bracket.
use Rattle.model.proofs.Kit.{◌≡◌, get_or, to_z-of_z, arith}
use Rattle.lexer.proofs.Laws.Places.{is_byte, no_byte, not_not}
use Rattle.pair_reader.proofs.Laws.Pairs.{pair_unopened, pair_unnumbered, pair_unfigured, pair_unclosed, pair_read}
use Rattle.pair_reader.proofs.pair_at.Goals as goal
use Rattle.pair_reader.proofs.pair_at.Goals.{Else-ne}

opened : (c : Else-ne) → get_or c.args.line.now c.args.at 0 ≡ 40
opened c = is_byte _ _ _ c.get.ensures.lookup.0 c.get.ensures.lookup.1 _ (omega arith) (not_not _ _ c.if-ne.ensures)

pub returns-then-ne : goal.returns-then-ne
returns-then-ne c =
    pair_unopened _ _
    (no_byte _ _ _ c.get.ensures.lookup.0 c.get.ensures.lookup.1 _ (omega arith) (not_not _ _ c.if-ne.ensures))

pub returns-in_default : goal.returns-in_default
returns-in_default c =
    let at = goal.at.returns-in_default c in
    pair_unnumbered _ _ (opened at.Else-ne) _ c.number.ensures _ c.in_default.is

pub returns-in_default-spaced_figure : goal.returns-in_default-spaced_figure
returns-in_default-spaced_figure c =
    let at = goal.at.returns-in_default-spaced_figure c in
    pair_unfigured _ _ (opened at.Else-ne) _ c.number.ensures _ c.in-Ok.is _ c.spaced_figure.ensures _
    c.in_default-spaced_figure.is

pub returns-then-ne-2 : goal.returns-then-ne-2
returns-then-ne-2 c =
    let at = goal.at.returns-then-ne-2 c in
    pair_unclosed _ _ (opened at.Else-ne) _ c.number.ensures _ c.in-Ok.is _ c.spaced_figure.ensures _
    c.in-Ok-spaced_figure.is
    (no_byte _ _ _ c.get-2.ensures.lookup.0 c.get-2.ensures.lookup.1 _ (omega arith) (not_not _ _ c.if-ne-2.ensures))

pub returns : goal.returns
returns c =
    let at = goal.at.returns c in
    pair_read _ _ (opened at.Else-ne) _ c.number.ensures _ c.in-Ok.is _ c.spaced_figure.ensures _ c.in-Ok-spaced_figure.is
    (is_byte _ _ _ c.get-2.ensures.lookup.0 c.get-2.ensures.lookup.1 _ (omega arith) (not_not _ _ c.if-ne-2.ensures))
    _ (search to_z-of_z)
