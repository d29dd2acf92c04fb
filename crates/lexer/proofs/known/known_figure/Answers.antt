-- `known::known_figure` meets its contract: by the sign behind the space, and a number that is known to stand there.
use Rattle.model.proofs.Kit.{arith}
use Rattle.lexer.proofs.Laws.KnownFigures.{sign_inside, minus_stands, minus_some, minus_known}
use Rattle.lexer.proofs.Laws.KnownFigures.{plain_stands, plain_fits, plain_known}
use Rattle.lexer.proofs.known.known_figure.Goals as goal

pub overflow_add-at : goal.overflow_add-at
overflow_add-at c = omega (arith, sign_inside _ _ c.requires)

pub bounds-line-at : goal.bounds-line-at
bounds-line-at c = search sign_inside

pub known_number-size-requires : goal.known_number-size-requires
known_number-size-requires c = search minus_stands

pub overflow_sub-result : goal.overflow_sub-result
overflow_sub-result c = search minus_some

pub returns-then-line-at-eq45 : goal.returns-then-line-at-eq45
returns-then-line-at-eq45 c = search minus_known

pub overflow_add-at-2 : goal.overflow_add-at-2
overflow_add-at-2 c = omega (arith, sign_inside _ _ c.requires)

pub known_number-size-requires-2 : goal.known_number-size-requires-2
known_number-size-requires-2 c = search plain_stands

pub overflow_cast-result-2 : goal.overflow_cast-result-2
overflow_cast-result-2 c = search plain_fits

pub returns : goal.returns
returns c = search plain_known
