-- `kind_fields` meets its contract: `==` answers as the model's test does, so the first word that is
-- equal names the kind.
use Rattle.model.specs.Show.{text, text_from}
use Rattle.lexer.proofs.Laws.Words.{equal_says}
use Rattle.tape_reader.proofs.Laws.ReadingKinds.{kind_wrote, kind_read, kind_went, kind_marked, kind_adopted}
use Rattle.tape_reader.proofs.Laws.ReadingKinds.{kind_decided, kind_spent, no_kind}
use Rattle.tape_reader.proofs.kind_fields.Goals as goal

pub returns-then-eq : goal.returns-then-eq
unfolding text text_from
returns-then-eq c = search (equal_says, kind_wrote)

pub returns-then-eq-2 : goal.returns-then-eq-2
unfolding text text_from
returns-then-eq-2 c = search (equal_says, kind_read)

pub returns-then-eq-3 : goal.returns-then-eq-3
unfolding text text_from
returns-then-eq-3 c = search (equal_says, kind_went)

pub returns-then-eq-4 : goal.returns-then-eq-4
unfolding text text_from
returns-then-eq-4 c = search (equal_says, kind_marked)

pub returns-then-eq-5 : goal.returns-then-eq-5
unfolding text text_from
returns-then-eq-5 c = search (equal_says, kind_adopted)

pub returns-then-eq-6 : goal.returns-then-eq-6
unfolding text text_from
returns-then-eq-6 c = search (equal_says, kind_decided)

pub returns-then-eq-7 : goal.returns-then-eq-7
unfolding text text_from
returns-then-eq-7 c = search (equal_says, kind_spent)

pub returns : goal.returns
unfolding text text_from
returns c = search (equal_says, no_kind)
