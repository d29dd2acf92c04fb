-- `steps_on` meets its contract: 6 and the board's own refusals add nothing, and else the items are run, where none of
-- their steps is wanted, or taped.
-- Relies on the laws of a line on a board.
use Rattle.model.proofs.Kit.{sym, arith}
use Rattle.line_run.proofs.Laws.Counting.{line_items}
use Rattle.taped_line.proofs.Laws.OnBoard.{board_sound, ready, too_many, steps_turned, steps_taped}
use Rattle.taped_line.proofs.Laws.Passed.{passable}
use Rattle.taped_line.proofs.steps_on.Goals.{then-count-gt65536-via-then-count-gt65536}
use Rattle.taped_line.proofs.steps_on.Goals.{then-count-gt65536-via-else-count-gt65536+then-is_err}
use Rattle.taped_line.proofs.steps_on.Goals as goal

pub returns-then-count-gt65536 : goal.returns-then-count-gt65536
returns-then-count-gt65536 c = elim c.then-count-gt65536.branch [
  | then-count-gt65536-via-then-count-gt65536 w ↦ too_many _ _ _ c.requires.0 _ _ _ (omega arith)
  | then-count-gt65536-via-else-count-gt65536+then-is_err w ↦
      steps_turned _ _ _ c.requires.0 _ _ _ (omega arith) _ w.check_board.ensures (sym w.if-is_err.ensures.value)
]

pub pass_items-requires : goal.pass_items-requires
pass_items-requires c =
    let sound = board_sound _ _ c.check_board.ensures (sym c.if-is_err.ensures.value) in
    (sound, passable _ _ _ _ c.requires.0 (omega arith) (omega arith) (omega arith))

pub tape_items-requires : goal.tape_items-requires
tape_items-requires c =
    let sound = board_sound _ _ c.check_board.ensures (sym c.if-is_err.ensures.value) in
    (ready _ _ _ c.requires.1 sound, line_items _ _ _ c.requires.0)

pub returns : goal.returns
returns c =
    let sound = board_sound _ _ c.check_board.ensures (sym c.if-is_err.ensures.value) in
    steps_taped _ _ _ c.requires.0 _ _ _ (omega arith) sound _ _ _ c.tape_items.ensures
