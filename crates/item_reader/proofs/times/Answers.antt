-- `times` meets its contract: the word, the number behind it, and the space.
use Rattle.model.proofs.Kit.{arith}
use Rattle.model.specs.Show.{text, text_from}
use Rattle.lexer.proofs.Laws.Places.{is_byte, no_byte, not_not}
use Rattle.item_reader.proofs.Laws.Times.{times_other, times_unnumbered, times_unspaced, times_read}
use Rattle.item_reader.proofs.times.Goals as goal

pub returns-in_default : goal.returns-in_default
unfolding text text_from
returns-in_default c = search times_other

pub returns-in_default-number : goal.returns-in_default-number
unfolding text text_from
returns-in_default-number c = search times_unnumbered

pub returns-then-ne : goal.returns-then-ne
unfolding text text_from
returns-then-ne c =
    times_unspaced _ _ _ c.word_at.ensures _ c.in-Ok.is _ c.number.ensures _ c.in-Ok-number.is
    (no_byte _ _ _ c.get.ensures.lookup.0 c.get.ensures.lookup.1 _ (omega arith) (not_not _ _ c.if-ne.ensures))

pub returns : goal.returns
unfolding text text_from
returns c =
    times_read _ _ _ c.word_at.ensures _ c.in-Ok.is _ c.number.ensures _ c.in-Ok-number.is
    (is_byte _ _ _ c.get.ensures.lookup.0 c.get.ensures.lookup.1 _ (omega arith) (not_not _ _ c.if-ne.ensures))
