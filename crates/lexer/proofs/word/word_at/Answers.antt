-- `word::word_at` meets its contract: the word is tested in front of what stands from `at` on.
use Rattle.model.proofs.Kit.{arith}
use Rattle.lexer.proofs.Laws.Behind.{word_past, word_other, word_there}
use Rattle.lexer.proofs.word.word_at.Goals as goal

pub returns-in_default : goal.returns-in_default
returns-in_default c = word_past _ _ _ c.requires (omega (arith, c.in_default.ensures.lookup))

pub returns-then-starts_with : goal.returns-then-starts_with
returns-then-starts_with c =
    word_there _ _ _ _ c.in-Some.ensures.lookup.0.2 _ c.starts_with.ensures.value c.if-starts_with.true

pub returns : goal.returns
returns c = word_other _ _ _ _ c.in-Some.ensures.lookup.0.2 _ c.starts_with.ensures.value c.if-starts_with.false
