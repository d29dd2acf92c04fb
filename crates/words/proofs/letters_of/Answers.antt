use Rattle.std.proofs.Common.{rules}
use Rattle.std.proofs.iter.runs.Made.{chains}
use Rattle.words.proofs.Laws.Walking.{words_count}
use Rattle.words.proofs.Laws.Writing.{word_is}
use Rattle.words.proofs.letters_of.Goals as goal

pub returns : goal.returns
returns c = search (word_is, words_count, rules, chains)
