-- `form::propose_form` meets its contract: a bracket behind the space begins pairs, and anything else is one proposal.
use Rattle.sheet.proofs.Laws.Pairs.{pairs_form, single_form}
use Rattle.sheet.proofs.form.propose_form.Goals as goal

pub returns-then-opens_pair : goal.returns-then-opens_pair
returns-then-opens_pair c = search pairs_form

pub returns : goal.returns
returns c = search single_form
