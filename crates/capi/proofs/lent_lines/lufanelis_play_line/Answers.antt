-- `lent_lines::lufanelis_play_line` meets its contract: nothing is done without room or with too large a board, and
-- else the line is played and copied.
-- Relies on the laws of lent lines.
use Rattle.model.proofs.Kit.{◌∙◌, arith}
use Rattle.capi.proofs.Laws.LentLines.{front, play_short, play_large, line_small, laid_packs, played_packs, play_given}
use Rattle.capi.proofs.lent_lines.lufanelis_play_line.Goals as goal

pub returns-then-printed-lt512 : goal.returns-then-printed-lt512
returns-then-printed-lt512 c = play_short _ _ _ _ (omega arith)

pub returns-then-laid-gt4294967295 : goal.returns-then-laid-gt4294967295
returns-then-laid-gt4294967295 c =
    play_large _ _ _ _ (omega arith) (omega arith)

pub copy_from_slice-requires : goal.copy_from_slice-requires
copy_from_slice-requires c = front _ _ _ (omega arith) (line_small _ _ _ _ _ c.play_line-played.ensures) c.bytes.ensures

pub overflow_mul-result : goal.overflow_mul-result
overflow_mul-result c =
    laid_packs _ _ _ _ _ c.play_line-played.ensures (omega arith)

pub overflow_add-result : goal.overflow_add-result
overflow_add-result c =
    played_packs _ _ _ _ _ c.play_line-played.ensures (omega arith) _ c.len.ensures.within

pub returns : goal.returns
returns c =
    play_given _ _ _ _ (omega arith) (omega arith) _ _
    c.play_line-played.ensures _ c.len.ensures.counted _ (c.copy_from_slice.ensures.after ∙ c.bytes.ensures)
