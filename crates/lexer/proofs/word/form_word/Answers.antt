-- `word::form_word` meets its contract: the first word is kept exactly where it names a form.
use Rattle.model.proofs.Kit.{arith}
use Rattle.lexer.proofs.Laws.Words.{no_word, its_word}
use Rattle.lexer.proofs.word.form_word.Goals as goal

pub returns-then-is_none : goal.returns-then-is_none
returns-then-is_none c = record {
  bytes = no_word _ _ c.first_word-word.ensures.bytes _ c.form_named.ensures c.if-is_none.ensures;
  place = λ h. absurd (omega arith);
}

pub returns : goal.returns
returns c = record {
  bytes = its_word _ _ c.first_word-word.ensures.bytes _ c.form_named.ensures c.if-is_none.ensures;
  place = search;
}
