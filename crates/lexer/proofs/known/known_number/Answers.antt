use Rattle.model.proofs.Kit.{sym, ◌∙◌, arith}
use Rattle.model.specs.Forms.{digit}
use Rattle.lexer.proofs.Laws.Numbers.{begun, digit_more, stopped, ended, zero_read}
use Rattle.lexer.proofs.Laws.Known.{known_inside, first_digit, first_small, stays_small, known_read}
use Rattle.lexer.proofs.Laws.Known.{product_fits, sum_fits}
use Rattle.lexer.proofs.known.known_number.Goals as goal

pub bounds-line-at : goal.bounds-line-at
bounds-line-at c = search known_inside

pub returns-then-first-eq48 : goal.returns-then-first-eq48
returns-then-first-eq48 c =
    zero_read _ _ _ _ (known_inside _ _ c.requires) c.if-first-eq48.true (omega arith)

pub overflow_sub-first : goal.overflow_sub-first
overflow_sub-first c = omega (arith, (first_digit _ _ c.requires c.if-first-eq48.false).0)

pub overflow_step-next : goal.overflow_step-next
overflow_step-next c = omega (arith, known_inside _ _ c.requires)

pub loop-next-init : goal.loop-next-init
loop-next-init c =
    rw c.from-value.ensures (begun _ _ _ _ (omega (arith, known_inside _ _ c.requires)) (search first_small))

pub returns-then-not-is_ascii_digit : goal.returns-then-not-is_ascii_digit
unfolding digit
returns-then-not-is_ascii_digit c =
    known_read _ _ c.requires c.if-first-eq48.false _
    (stopped _ _ _ _ _ _ c.loop-next.invariant c.loop-next-test.true
    (sym c.is_ascii_digit.ensures.value ∙ c.if-not-is_ascii_digit.true))

pub overflow_mul-value : goal.overflow_mul-value
unfolding digit
overflow_mul-value c =
    product_fits _ _ c.requires c.if-first-eq48.false _ _ c.loop-next.invariant c.loop-next-test.true
    (sym c.is_ascii_digit.ensures.value ∙ c.if-not-is_ascii_digit.false)

pub overflow_add-value : goal.overflow_add-value
unfolding digit
overflow_add-value c =
    rw c.from.ensures (sum_fits _ _ c.requires c.if-first-eq48.false _ _ c.loop-next.invariant c.loop-next-test.true
    (sym c.is_ascii_digit.ensures.value ∙ c.if-not-is_ascii_digit.false))

pub loop-next-preserved : goal.loop-next-preserved
unfolding digit
loop-next-preserved c =
    let is_digit = sym c.is_ascii_digit.ensures.value ∙ c.if-not-is_ascii_digit.false in
    digit_more _ _ _ _ _ _ c.loop-next.invariant c.loop-next-test.true is_digit _ (omega (arith, c.from.ensures))
    (omega (
      arith,
      c.from.ensures,
      stays_small _ _ c.requires c.if-first-eq48.false _ _ c.loop-next.invariant
          c.loop-next-test.true is_digit,
    ))

pub returns : goal.returns
returns c =
    known_read _ _ c.requires c.if-first-eq48.false _ (ended _ _ _ _ _ _ c.loop-next.invariant c.loop-next-test.false)
