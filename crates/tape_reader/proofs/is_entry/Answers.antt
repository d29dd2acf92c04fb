-- `is_entry` meets its contract: a bracket, the station, a space, and the kind with its fields.
use Rattle.std.proofs.Common.{rules}
use Rattle.model.proofs.Kit.{◌≡◌, get_or, arith}
use Rattle.lexer.proofs.Laws.Places.{is_byte, no_byte, not_not}
use Rattle.tape_reader.proofs.Laws.ReadingKinds.{entry_unopened, entry_no_station, entry_unspaced, entry_kind}
use Rattle.tape_reader.proofs.is_entry.Goals as goal
use Rattle.tape_reader.proofs.is_entry.Goals.{Else-ne}

opened : (c : Else-ne) → get_or c.args.line.now 0 0 ≡ 40
opened c = is_byte _ 0 _ c.first.ensures.item.0 c.first.ensures.item.1 _ (omega arith) (not_not _ _ c.if-ne.ensures)

pub returns-then-ne : goal.returns-then-ne
returns-then-ne c =
    entry_unopened _
    (no_byte _ 0 _ c.first.ensures.item.0 c.first.ensures.item.1 _ (omega arith) (not_not _ _ c.if-ne.ensures))

pub returns-in_default : goal.returns-in_default
returns-in_default c =
    let at = goal.at.returns-in_default c in entry_no_station _ (opened at.Else-ne) _ c.number.ensures _ c.in_default.is

pub returns-then-ne-2 : goal.returns-then-ne-2
returns-then-ne-2 c =
    let at = goal.at.returns-then-ne-2 c in
    entry_unspaced _ (opened at.Else-ne) _ c.number.ensures _ c.in-Ok.is
    (no_byte _ _ _ c.get.ensures.lookup.0 c.get.ensures.lookup.1 _ (omega arith) (not_not _ _ c.if-ne-2.ensures))

pub returns : goal.returns
returns c =
    let at = goal.at.returns c in
    let opened = opened at.Else-ne in
    let space : get_or c.args.line.now c.in-Ok.station.next 0 ≡ 32 =
    is_byte _ _ _ c.get.ensures.lookup.0 c.get.ensures.lookup.1 _ (omega arith) (not_not _ _ c.if-ne-2.ensures) in
    search (entry_kind, rules)
