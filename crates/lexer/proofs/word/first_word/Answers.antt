-- `word::first_word` meets its contract: each return is a law of Words.
use Rattle.model.proofs.Kit.{refl, arith}
use Rattle.lexer.proofs.Laws.Places.{is_byte, no_byte, not_not}
use Rattle.lexer.proofs.Laws.Words.{no_bracket, behind_bracket}
use Rattle.lexer.proofs.word.first_word.Goals as goal

pub returns-then-ne : goal.returns-then-ne
returns-then-ne c = record {
  bytes =
      no_bracket _ (no_byte _ 0 _ c.first.ensures.item.0 c.first.ensures.item.1 _ (omega arith)
      (not_not _ _ c.if-ne.ensures));
  place = λ h. absurd (omega arith);
}

pub returns : goal.returns
returns c = record {
  bytes =
      behind_bracket _ _
      (is_byte _ 0 _ c.first.ensures.item.0 c.first.ensures.item.1 _ (omega arith) (not_not _ _ c.if-ne.ensures))
      c.word_end.ensures;
  place = λ h. (refl, omega arith);
}
