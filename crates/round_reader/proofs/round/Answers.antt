-- `round` meets its contract: the opening bracket, and behind it the closing one or a first station and those
-- that follow it.
use Rattle.model.proofs.Kit.{◌≡◌, ◌+◌, get_or, arith}
use Rattle.lexer.proofs.Laws.Places.{is_byte, no_byte, not_not}
use Rattle.round_reader.proofs.Laws.Rounds.{round_unopened, round_empty, round_unnumbered}
use Rattle.round_reader.proofs.Laws.Rounds.{round_unended, round_read}
use Rattle.round_reader.proofs.round.Goals as goal
use Rattle.round_reader.proofs.round.Goals.{Else-ne, Else-eq}

opened : (c : Else-ne) → get_or c.args.line.now c.args.at 0 ≡ 40
opened c = is_byte _ _ _ c.get.ensures.lookup.0 c.get.ensures.lookup.1 _ (omega arith) (not_not _ _ c.if-ne.ensures)

unclosed : (c : Else-eq) → get_or c.args.line.now (c.args.at + 1) 0 ≡ 41 → ⊥
unclosed c = no_byte _ _ _ c.get-2.ensures.lookup.0 c.get-2.ensures.lookup.1 _ (omega arith) c.if-eq.ensures

pub returns-then-ne : goal.returns-then-ne
returns-then-ne c =
    round_unopened _ _ _
    (no_byte _ _ _ c.get.ensures.lookup.0 c.get.ensures.lookup.1 _ (omega arith) (not_not _ _ c.if-ne.ensures))

pub returns-then-eq : goal.returns-then-eq
returns-then-eq c =
    let at = goal.at.returns-then-eq c in
    round_empty _ _ _ (opened at.Else-ne)
    (is_byte _ _ _ c.get-2.ensures.lookup.0 c.get-2.ensures.lookup.1 _ (omega arith) c.if-eq.ensures)

pub returns-in_default : goal.returns-in_default
returns-in_default c =
    let at = goal.at.returns-in_default c in
    round_unnumbered _ _ _ (opened at.Else-ne) (unclosed at.Else-eq) _ c.number.ensures _ c.in_default.is

pub returns-in_default-stations : goal.returns-in_default-stations
returns-in_default-stations c =
    let at = goal.at.returns-in_default-stations c in
    round_unended _ _ _ (opened at.Else-ne) (unclosed at.Else-eq) _ c.number.ensures _ c.in-Ok.is _ c.stations.ensures _
    c.in_default-stations.is

pub returns : goal.returns
returns c =
    let at = goal.at.returns c in
    round_read _ _ _ (opened at.Else-ne) (unclosed at.Else-eq) _ c.number.ensures _ c.in-Ok.is _ c.stations.ensures _
    c.in-Ok-stations.is _ c.round_needs.ensures
