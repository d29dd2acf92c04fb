use Rattle.model.proofs.Kit.{sym, ◌∙◌, arith}
use Rattle.model.specs.Forms.{digit}
use Rattle.lexer.proofs.Laws.Numbers.{digit_more, beyond, stopped, ended}
use Rattle.lexer.proofs.number.digits.Goals as goal

pub returns-then-not-is_ascii_digit : goal.returns-then-not-is_ascii_digit
unfolding digit
returns-then-not-is_ascii_digit c =
    stopped _ _ _ _ _ _ c.loop-next.invariant.0 c.loop-next-test.true
    (sym c.is_ascii_digit.ensures.value ∙ c.if-not-is_ascii_digit.true)

pub returns-then-from-more : goal.returns-then-from-more
unfolding digit
returns-then-from-more c =
    beyond _ _ _ _ _ _ c.loop-next.invariant.0 c.loop-next-test.true
    (sym c.is_ascii_digit.ensures.value ∙ c.if-not-is_ascii_digit.false) (omega arith)

pub loop-next-preserved : goal.loop-next-preserved
unfolding digit
loop-next-preserved c = (
  digit_more _ _ _ _ _ _ c.loop-next.invariant.0 c.loop-next-test.true
      (sym c.is_ascii_digit.ensures.value ∙ c.if-not-is_ascii_digit.false) _ (omega arith) (omega arith),
  c.loop-next.invariant.1,
)

pub returns : goal.returns
returns c = ended _ _ _ _ _ _ c.loop-next.invariant.0 c.loop-next-test.false
