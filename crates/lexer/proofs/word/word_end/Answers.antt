-- `word::word_end` meets its contract: the search stops at the first byte that ends a word.
use Rattle.std.proofs.Common.{rules, drop, ◌∙◌}
use borrow.Author.Tests.{tests}
use Rattle.std.proofs.lemmas.Iterator.{YieldsList-from_slice}
use Rattle.std.proofs.lemmas.Iterator.Search.{position_from_yields_List}
use Rattle.lexer.proofs.Laws.Words.{stop, all_behind, ends_at, ends_last}
use Rattle.lexer.proofs.word.word_end.Goals as goal

pub returns-in-Some : goal.returns-in-Some
returns-in-Some c =
    ends_at _ c.requires _
    (position_from_yields_List stop _ _ _ c.position-stop.ensures.ran (YieldsList-from_slice (drop 1 c.args.line.now) (c.iter.ensures.rest ∙ all_behind _))
    (λ x b q k. search (rules, tests)))
    _ c.in-Some.is

pub returns-in-None : goal.returns-in-None
returns-in-None c =
    ends_last _ c.requires _
    (position_from_yields_List stop _ _ _ c.position-stop.ensures.ran (YieldsList-from_slice (drop 1 c.args.line.now) (c.iter.ensures.rest ∙ all_behind _))
    (λ x b q k. search (rules, tests)))
    c.in-None.is
