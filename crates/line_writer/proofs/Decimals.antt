-- How long decimal numbers and figures can be.
-- Relies on the model's `decimal` and its digits; the proofs of numbers and the bounds on lines rely on it.
use Rattle.model.proofs.Kit.{◌≡◌, refl, ap, ◌∙◌, ⊎_elim, [], ◌∷◌, ℕ, zero, suc}
use Rattle.model.proofs.Kit.{◌+◌, ◌≤◌, ◌<◌, ◌/◌, ◌%◌, length, length-append}
use Rattle.model.proofs.Kit.{pos, negsuc, arith}
use Rattle.model.specs.Figure.{Figure}
use Rattle.model.specs.Show.{text, text_from, decimal_in, decimal, signed}
use Rattle.model.proofs.Basics.Decimals.{last_digit, in_one, in_more, below_ten, decimal_one, decimal_more}

pub length_one : (x : ℕ) → x < 10 → length (decimal x) ≡ 1
length_one x h = ap length (decimal_one x h)

pub length_more : (x : ℕ) → 10 ≤ x → x < 4294967296 → length (decimal x) ≡ length (decimal (x / 10)) + 1
length_more x l h = ap length (decimal_more x l (omega arith)) ∙ length-append (decimal (x / 10)) ((48 + x % 10) ∷ [])

pub length_two : (x : ℕ) → x < 100 → length (decimal x) ≤ 2
length_two x h =
    ⊎_elim (λ (l : x < 10). omega (arith, length_one x l))
    (λ (l : 10 ≤ x). omega (arith, length_more x l (omega arith), length_one (x / 10) (omega arith))) (below_ten x)

one_digit : (x : ℕ) → length (last_digit x) ≡ 1
one_digit x = refl

no_digit : (x : ℕ) → length (decimal_in 0 x) ≡ 0
unfolding decimal_in
no_digit x = refl

length_in : (k x : ℕ) → length (decimal_in k x) ≤ k
length_in zero x = omega (arith, no_digit x)
length_in (suc k) x =
    ⊎_elim (λ (l : x < 10). omega (arith, ap length (in_one k x l), one_digit x))
    (λ (l : 10 ≤ x). omega (
      arith,
      length_in k (x / 10),
      ap length (in_more k x l),
      length-append (decimal_in k (x / 10)) (last_digit x),
      one_digit x,
    )) (below_ten x)

pub length_any : (x : ℕ) → length (decimal x) ≤ 10
unfolding decimal
length_any x = length_in 10 x

pub length_signed : (v : Figure) → length (signed v) ≤ 11
unfolding signed text text_from
length_signed (pos k) = omega (arith, length_any k)
length_signed (negsuc k) = omega (arith, length_any (suc k))

pub length_some : (x : ℕ) → x < 4294967296 → 1 ≤ length (decimal x)
length_some x h =
    ⊎_elim (λ (l : x < 10). omega (arith, length_one x l))
    (λ (l : 10 ≤ x). omega (arith, length_more x l h)) (below_ten x)

-- how long a text of several pieces can be
pub ruleset lengths = (length-append, length_any, length_signed)
