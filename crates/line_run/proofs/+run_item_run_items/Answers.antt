use Rattle.model.proofs.Kit.{arith}
use Rattle.item_reader.proofs.Laws.Items.{falls_to}
use Rattle.item_walks.proofs.Laws.Items.{item_inside, station_stands, station-fits, one_step}
use Rattle.item_walks.proofs.Laws.Repeats.{repeats_stand, times_behind, repeats_begin, repeats_end, repeats_whole}
use Rattle.item_walks.proofs.Laws.Passing.{passed_begin, passed_inside, next_behind, at_inside, passed_less, passed_end}
use Rattle.line_run.proofs.Laws.RunItems.{run_none, run_one, run_sound, repeat_runnable, repeat_fits, item_runnable}
use Rattle.line_run.proofs.Laws.RunItems.{passed_fits, passed_more}
use Rattle.line_run.proofs.Laws.Idle.{repeat_on, repeat_idle}
use Rattle.line_run.proofs.+run_item_run_items.Goals as goal

pub run_item-bounds-line-at : goal.run_item-bounds-line-at
run_item-bounds-line-at t c = search item_inside

pub run_item-known_number-station-requires : goal.run_item-known_number-station-requires
run_item-known_number-station-requires t c = search station_stands

pub run_item-overflow_cast-station : goal.run_item-overflow_cast-station
run_item-overflow_cast-station t c = search station-fits

pub run_item-returns-then-line-at-ne40 : goal.run_item-returns-then-line-at-ne40
run_item-returns-then-line-at-ne40 t c = search (one_step, run_one)

pub run_item-known_number-times-requires : goal.run_item-known_number-times-requires
run_item-known_number-times-requires t c = repeats_stand _ _ c.if-line-at-ne40.false (search)

pub run_item-loop-init : goal.run_item-loop-init
run_item-loop-init t c = search (repeats_begin, run_none)

pub run_item-run_items-run-requires : goal.run_item-run_items-run-requires
run_item-run_items-run-requires t c = (search (falls_to, times_behind, item_inside), (search run_sound, search repeat_runnable))

pub run_item-overflow_add-total : goal.run_item-overflow_add-total
run_item-overflow_add-total t c = search repeat_fits

pub run_item-loop-preserved : goal.run_item-loop-preserved
run_item-loop-preserved t c = search repeat_on

pub run_item-returns-then-run-eq0 : goal.run_item-returns-then-run-eq0
run_item-returns-then-run-eq0 t c = search (repeats_whole, repeat_idle)

pub run_item-returns-after-loop : goal.run_item-returns-after-loop
run_item-returns-after-loop t c = search repeats_end

pub run_items-loop-place-init : goal.run_items-loop-place-init
run_items-loop-place-init t c = search (passed_begin, run_none)

pub run_items-bounds-line-place : goal.run_items-bounds-line-place
run_items-bounds-line-place t c = search passed_inside

pub run_items-run_item-run-requires : goal.run_items-run_item-run-requires
run_items-run_item-run-requires t c = (search (falls_to, next_behind, at_inside), (search run_sound, search item_runnable))

pub run_items-overflow_add-total : goal.run_items-overflow_add-total
run_items-overflow_add-total t c = search passed_fits

pub run_items-loop-place-smaller : goal.run_items-loop-place-smaller
run_items-loop-place-smaller t c = search passed_less

pub run_items-loop-place-preserved : goal.run_items-loop-place-preserved
run_items-loop-place-preserved t c = search passed_more

pub run_items-overflow_add-result : goal.run_items-overflow_add-result
run_items-overflow_add-result t c = omega (arith, passed_inside _ _ _ _ c.loop-place.invariant)

pub run_items-returns : goal.run_items-returns
run_items-returns t c = search passed_end
