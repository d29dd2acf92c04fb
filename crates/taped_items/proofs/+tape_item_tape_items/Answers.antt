use Rattle.model.proofs.Kit.{sym, ◌∙◌, rules, arith}
use Rattle.item_reader.proofs.Laws.Items.{falls_to}
use Rattle.item_walks.proofs.Laws.Items.{item_inside, station_stands, station-fits, one_step}
use Rattle.item_walks.proofs.Laws.Repeats.{repeats_stand, times_behind, repeats_begin, repeats_end, repeats_whole}
use Rattle.item_walks.proofs.Laws.Passing.{passed_begin, passed_inside, next_behind, at_inside, item_reads}
use Rattle.item_walks.proofs.Laws.Passing.{passed_less, passed_end}
use Rattle.taped_items.proofs.Laws.TapeItems.{taped_none, taped_one_lem, taped_ready, taped_board, taped_out}
use Rattle.taped_items.proofs.Laws.TapeItems.{repeat_on, repeat_idle, passed_more}
use Rattle.taped_items.proofs.+tape_item_tape_items.Goals as goal

pub tape_item-bounds-line-at : goal.tape_item-bounds-line-at
tape_item-bounds-line-at t c = search item_inside

pub tape_item-known_number-station-requires : goal.tape_item-known_number-station-requires
tape_item-known_number-station-requires t c = search station_stands

pub tape_item-overflow_cast-station : goal.tape_item-overflow_cast-station
tape_item-overflow_cast-station t c = search station-fits

pub tape_item-returns-then-line-at-ne40 : goal.tape_item-returns-then-line-at-ne40
tape_item-returns-then-line-at-ne40 t c = search (one_step, taped_one_lem)

pub tape_item-known_number-times-requires : goal.tape_item-known_number-times-requires
tape_item-known_number-times-requires t c = repeats_stand _ _ c.if-line-at-ne40.false (search)

pub tape_item-loop-init : goal.tape_item-loop-init
tape_item-loop-init t c = search (repeats_begin, taped_none)

pub tape_item-tape_items-part-requires : goal.tape_item-tape_items-part-requires
tape_item-tape_items-part-requires t c = (search (falls_to, times_behind, item_inside), (search taped_ready, search rules))

pub tape_item-loop-preserved : goal.tape_item-loop-preserved
tape_item-loop-preserved t c = search repeat_on

pub tape_item-returns-then-eq : goal.tape_item-returns-then-eq
tape_item-returns-then-eq t c =
    repeats_whole _ _ (search) c.requires.1 _ c.known_number-times.ensures _ _
    (repeat_idle _ _ _ _ _ _ _ _ _ c.loop.invariant (search) _ _ _ c.tape_items-part.ensures (sym c.if-eq.true ∙ c.eq.ensures))

pub tape_item-returns-after-loop : goal.tape_item-returns-after-loop
tape_item-returns-after-loop t c = search repeats_end

pub tape_items-loop-place-init : goal.tape_items-loop-place-init
tape_items-loop-place-init t c = search (passed_begin, taped_none)

pub tape_items-bounds-line-place : goal.tape_items-bounds-line-place
tape_items-bounds-line-place t c = search passed_inside

pub tape_items-overflow_add-place : goal.tape_items-overflow_add-place
tape_items-overflow_add-place t c = omega (arith, passed_inside _ _ _ _ c.loop-place.invariant)

pub tape_items-tape_item-part-requires : goal.tape_items-tape_item-part-requires
tape_items-tape_item-part-requires t c = (search (falls_to, next_behind, at_inside), (search taped_ready, search item_reads))

pub tape_items-loop-place-smaller : goal.tape_items-loop-place-smaller
tape_items-loop-place-smaller t c = search passed_less

pub tape_items-loop-place-preserved : goal.tape_items-loop-place-preserved
tape_items-loop-place-preserved t c = search passed_more

pub tape_items-overflow_add-result : goal.tape_items-overflow_add-result
tape_items-overflow_add-result t c = omega (arith, passed_inside _ _ _ _ c.loop-place.invariant)

pub tape_items-shape_of-board : goal.tape_items-shape_of-board
tape_items-shape_of-board t c = search taped_board

pub tape_items-shape_of-out : goal.tape_items-shape_of-out
tape_items-shape_of-out t c = search taped_out

pub tape_items-returns : goal.tape_items-returns
tape_items-returns t c = search passed_end
