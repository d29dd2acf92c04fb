-- `lent_lines::lufanelis_word` meets its contract: no form's word has more than seven bytes, so its length fits its
-- bits. Relies on the laws of lent lines.
use Rattle.capi.proofs.Laws.LentLines.{word_fits, word_is}
use Rattle.capi.proofs.lent_lines.lufanelis_word.Goals as goal

pub word_number-requires : goal.word_number-requires
word_number-requires c = word_fits _ _ c.form_word-word.ensures.bytes

pub returns : goal.returns
returns c = search word_is
