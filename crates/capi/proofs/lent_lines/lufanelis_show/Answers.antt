-- `lent_lines::lufanelis_show` meets its contract: a short buffer is left alone, and so is one beside a refusal; else
-- the line is copied to its front.
-- Relies on the laws of lent lines.
use Rattle.model.proofs.Kit.{◌∙◌, arith}
use Rattle.capi.proofs.Laws.LentLines.{front, shown_small, show_short, show_turned, show_given}
use Rattle.capi.proofs.lent_lines.lufanelis_show.Goals as goal

pub returns-then-line-lt512 : goal.returns-then-line-lt512
returns-then-line-lt512 c = show_short _ _ (omega arith)

pub copy_from_slice-requires : goal.copy_from_slice-requires
copy_from_slice-requires c = front _ _ _ (omega arith) (shown_small _ c.args.line.now (omega arith) _ c.show.ensures _ c.in-Ok.is) c.bytes.ensures

pub returns-in-Ok : goal.returns-in-Ok
returns-in-Ok c =
    show_given _ _ (omega arith) _ c.show.ensures _ c.in-Ok.is _ c.len.ensures.counted _
    (c.copy_from_slice.ensures.after ∙ c.bytes.ensures)

pub returns-in-Err : goal.returns-in-Err
returns-in-Err c = show_turned _ _ (omega arith) _ c.show.ensures _ c.in-Err.is _ (c.from-in-Err.ensures ∙ c.from.ensures)
