-- `number::number` meets its contract: by the first byte, and behind it the digits.
use Rattle.model.proofs.Kit.{sym, ap, ◌∙◌, ◌-◌, ltb-false, arith}
use Rattle.model.specs.Forms.{digit}
use Rattle.lexer.proofs.Laws.Places.{byte_found}
use Rattle.lexer.proofs.Laws.Numbers.{no_byte, no_digit, from_digits, zero_refused, zero_read}
use Rattle.lexer.proofs.number.number.Goals as goal

pub returns-in_default : goal.returns-in_default
returns-in_default c = no_byte _ _ _ _ (ltb-false _ _ (sym c.in_default.ensures.lookup.0))

pub returns-then-not-is_ascii_digit : goal.returns-then-not-is_ascii_digit
unfolding digit
returns-then-not-is_ascii_digit c =
    let first = byte_found _ _ _ c.in-Some.ensures.lookup.0 c.in-Some.ensures.lookup.1 in
    no_digit _ _ _ _ first.0
    (ap digit (sym first.1) ∙ sym c.is_ascii_digit.ensures.value ∙ c.if-not-is_ascii_digit.true)

pub returns-then-first-gt48 : goal.returns-then-first-gt48
unfolding digit
returns-then-first-gt48 c =
    let first = byte_found _ _ _ c.in-Some.ensures.lookup.0 c.in-Some.ensures.lookup.1 in
    from_digits _ _ _ _ first.0 (omega arith) (omega (arith, first.1))
    (ap digit (sym first.1) ∙ sym c.is_ascii_digit.ensures.value ∙ c.if-not-is_ascii_digit.false)
    _ (c.from.ensures ∙ ap (λ b. b - 48) first.1) _ c.digits.ensures

pub returns-then-low-eq0 : goal.returns-then-low-eq0
returns-then-low-eq0 c =
    let first = byte_found _ _ _ c.in-Some.ensures.lookup.0 c.in-Some.ensures.lookup.1 in
    zero_read _ _ _ _ first.0 (omega (arith, first.1, c.if-not-is_ascii_digit.ensures.cases)) (omega arith)

pub returns : goal.returns
returns c =
    let first = byte_found _ _ _ c.in-Some.ensures.lookup.0 c.in-Some.ensures.lookup.1 in
    zero_refused _ _ _ _ first.0 (omega (arith, first.1, c.if-not-is_ascii_digit.ensures.cases)) (omega arith)
