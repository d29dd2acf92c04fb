-- `word::form_named` meets its contract: `==` answers as the model's test does, so the first text that is equal names
-- the form.
use Rattle.model.specs.Show.{text, text_from}
use Rattle.lexer.proofs.Laws.Words.{equal_says, names_board, names_propose, names_steps, names_show}
use Rattle.lexer.proofs.Laws.Words.{names_rounds, names_nothing}
use Rattle.lexer.proofs.word.form_named.Goals as goal

pub returns-then-eq : goal.returns-then-eq
unfolding text text_from
returns-then-eq c = search (equal_says, names_board)

pub returns-then-eq-2 : goal.returns-then-eq-2
unfolding text text_from
returns-then-eq-2 c = search (equal_says, names_propose)

pub returns-then-eq-3 : goal.returns-then-eq-3
unfolding text text_from
returns-then-eq-3 c = search (equal_says, names_steps)

pub returns-then-eq-4 : goal.returns-then-eq-4
unfolding text text_from
returns-then-eq-4 c = search (equal_says, names_show)

pub returns-then-eq-5 : goal.returns-then-eq-5
unfolding text text_from
returns-then-eq-5 c = search (equal_says, names_rounds)

pub returns : goal.returns
unfolding text text_from
returns c = search (equal_says, names_nothing)
