use Rattle.model.proofs.Kit.{arith}
use Rattle.lexer.proofs.Laws.Places.{is_byte, no_byte, not_not}
use Rattle.item_reader.proofs.Laws.Items.{no_number, one_step, no_times, no_inner, repeats}
use Rattle.item_reader.proofs.Laws.Items.{begun, closed, no_space, item_missing, again, no_more}
use Rattle.item_reader.proofs.+item_items.Goals as goal

pub item-returns-in_default : goal.item-returns-in_default
item-returns-in_default t c =
    no_number _ _
    (no_byte _ _ _ c.get.ensures.lookup.0 c.get.ensures.lookup.1 _ (omega arith) (not_not _ _ c.if-ne.ensures))
    _ c.number.ensures _ c.in_default.is

pub item-returns-then-ne : goal.item-returns-then-ne
item-returns-then-ne t c =
    one_step _ _
    (no_byte _ _ _ c.get.ensures.lookup.0 c.get.ensures.lookup.1 _ (omega arith) (not_not _ _ c.if-ne.ensures))
    _ c.number.ensures _ c.in-Ok.is

pub item-returns-in_default-times : goal.item-returns-in_default-times
item-returns-in_default-times t c =
    no_times _ _
    (is_byte _ _ _ c.get.ensures.lookup.0 c.get.ensures.lookup.1 _ (omega arith) (not_not _ _ c.if-ne.ensures))
    _ c.times.ensures _ c.in_default-times.is

pub item-returns-in_default-items : goal.item-returns-in_default-items
item-returns-in_default-items t c =
    no_inner _ _
    (is_byte _ _ _ c.get.ensures.lookup.0 c.get.ensures.lookup.1 _ (omega arith) (not_not _ _ c.if-ne.ensures))
    _ c.times.ensures _ c.in-Ok-times.is _ c.items.ensures _ c.in_default-items.is

pub item-returns : goal.item-returns
item-returns t c =
    repeats _ _
    (is_byte _ _ _ c.get.ensures.lookup.0 c.get.ensures.lookup.1 _ (omega arith) (not_not _ _ c.if-ne.ensures))
    _ c.times.ensures _ c.in-Ok-times.is _ c.items.ensures _ c.in-Ok-items.is _
    (rw (c.from.ensures, c.from-2.ensures) at c.cap.ensures)

pub items-loop-place-init : goal.items-loop-place-init
items-loop-place-init t c = search begun

pub items-returns-then-line-place-eq41 : goal.items-returns-then-line-place-eq41
items-returns-then-line-place-eq41 t c = search closed

pub items-returns-then-line-place-ne32 : goal.items-returns-then-line-place-ne32
items-returns-then-line-place-ne32 t c = search no_space

pub items-returns-in_default : goal.items-returns-in_default
items-returns-in_default t c = search item_missing

pub items-loop-place-preserved : goal.items-loop-place-preserved
items-loop-place-preserved t c =
    again _ _ _ _ c.loop-place.invariant c.loop-place-test.true c.if-line-place-eq41.false c.if-line-place-ne32.false
    _ c.item.ensures _ c.in-Ok.is _ (rw (c.from.ensures, c.from-in-loop-place.ensures) at c.cap-total.ensures)

pub items-returns : goal.items-returns
items-returns t c = no_more _ _ _ _ c.loop-place.invariant c.loop-place-test.false
