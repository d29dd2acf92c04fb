-- Decimal numbers with their last digit apart, and figures by their sign.
-- Relies on the model's `decimal` and `signed`; the proofs of numbers rely on it.
use Rattle.model.proofs.Kit.{◌≡◌, refl, sym, ap, ◌∙◌, true, false, List, [], ◌∷◌, ◌++◌, append_assoc, ℕ, ◌+◌, ◌≤◌, ◌<◌, ◌/◌}
use Rattle.model.proofs.Kit.{◌%◌, ℤ, pos, negsuc, lt_z, ltb-true, length, length-append, arith}
use lib.IntN.{nat_abs}
use Rattle.model.specs.Show.{text, text_from, decimal, signed}
use Rattle.model.proofs.Basics.Decimals.{decimal_more}
use Rattle.line_writer.proofs.Decimals.{length_more}

-- the digits before the last one leave room for it
module _ (l : List ℕ) (x : ℕ) (more : 10 ≤ x) (h : x < 4294967296) (room : length l + length (decimal x) ≤ 512) where
  pub digits_room : length l + length (decimal (x / 10)) ≤ 512
  digits_room = omega (arith, length_more x more h, room)

  pub digit_room : length (l ++ decimal (x / 10)) < 512
  digit_room = omega (arith, length_more x more h, room, length-append l (decimal (x / 10)))

  pub digits_then : (l ++ decimal (x / 10)) ++ (48 + x % 10) ∷ [] ≡ l ++ decimal x
  digits_then = append_assoc l (decimal (x / 10)) _ ∙ ap (λ (d : List ℕ). l ++ d) (sym (decimal_more x more (omega arith)))

-- the figure z with its sign as the code tests it
pub signed_plain : (z : ℤ) → lt_z z (pos 0) ≡ false → signed z ≡ decimal (nat_abs z)
unfolding signed
signed_plain (pos n) e = refl
signed_plain (negsuc n) e = absurd (let z : ◌≡◌ {A = ℕ} 0 1 = cc in omega arith)

pub signed_below : (z : ℤ) → lt_z z (pos 0) ≡ true → signed z ≡ 45 ∷ decimal (nat_abs z)
unfolding signed text text_from
signed_below (pos n) e = absurd (omega (arith, ltb-true n 0 e))
signed_below (negsuc n) e = refl

pub below_then : (l : List ℕ) (z : ℤ) → lt_z z (pos 0) ≡ true → (l ++ 45 ∷ []) ++ decimal (nat_abs z) ≡ l ++ signed z
below_then l z e = append_assoc l (45 ∷ []) (decimal (nat_abs z)) ∙ ap (λ (d : List ℕ). l ++ d) (sym (signed_below z e))

pub below_room : (l : List ℕ) (z : ℤ) → lt_z z (pos 0) ≡ true → length l + length (signed z) ≤ 512
    → length (l ++ 45 ∷ []) + length (decimal (nat_abs z)) ≤ 512
below_room l z e h = omega (arith, ap length (signed_below z e), length-append l (45 ∷ []), h)

pub ruleset digits = (digits_room, digit_room, digits_then)

pub ruleset signs = (signed_plain, signed_below, below_then, below_room)
