-- A number that is known to stand at a place: its first byte, and that its digits stay in their range without a test.
-- Relies on Given, Numbers and Answers; the proof of src/known.rt and the run of items above rely on it.
use Rattle.model.proofs.Kit.{◌≡◌, refl, sym, ap, subst, ◌∙◌, true, cond, ◌&&◌, List, none, some, Option, ℕ, ◌+◌, ◌-◌}
use Rattle.model.proofs.Kit.{◌≤◌, ◌<◌, ◌*◌, ne_eqb, leb, length, drop, drop_of_length-le, get_or, lt_of_not-le, w32, Fits}
use Rattle.model.proofs.Kit.{arith}
use Rattle.model.specs.Forms.{Read, found, and_then, digit, digits_from, natural, number_in}
use Rattle.model.proofs.Basics.Tests.{true-T, T_true, never}
use Rattle.model.proofs.Calls.Refusals.{within, within-T}
use Rattle.model.proofs.Sheet.NumbersBack.{grows}
use Rattle.std.specs.Prelude.{Ok}
use Rattle.std.specs.declared.result.Result.{Result}
use Rattle.model.specs.declared.refusal.Refusal.{Refusal}
use Rattle.lexer.specs.declared.At.{At}
use Rattle.lexer.specs.Placed.{DigitsIs, NumberIs}
use Rattle.lexer.specs.Known.{NumberStands, KnownIs}
use Rattle.lexer.proofs.Laws.Places.{here}
use Rattle.lexer.proofs.Laws.Given.{passed}
use Rattle.lexer.proofs.Laws.Numbers.{Along, from_digits}
use Rattle.lexer.proofs.Laws.Answers.{there}

-- ---- a number that is found is in its range, and is found in every wider one

module _ (l : List ℕ) (r : Read ℕ) where
  pub number_given : (low high : ℕ) → number_in low high l ≡ some r
      → (natural l ≡ some r) × (low ≤ r.value) × (r.value ≤ high)
  unfolding number_in and_then found
  number_given low high e = by (natural l) e
    where
      by : (o : Option (Read ℕ)) → and_then o (λ v rest. cond (leb low v && leb v high) (found v rest) none) ≡ some r
          → (o ≡ some r) × (low ≤ r.value) × (r.value ≤ high)
      by none q = never r q
      by (some s) q =
          let p = passed (leb low s.value && leb s.value high) (some s) r q in
          let same : s ≡ r = let d = p.1 in cc in
          let range = within low high s.value (true-T _ p.0) in (
            p.1,
            subst (λ (x : Read ℕ). low ≤ x.value) same range.0,
            subst (λ (x : Read ℕ). x.value ≤ high) same range.1,
          )

  pub number_wider : (low high : ℕ) → high ≤ 2147483648 → number_in low high l ≡ some r
      → number_in 0 2147483648 l ≡ some r
  unfolding number_in and_then found
  number_wider low high h e =
      let g = number_given low high e in
      let range : leb 0 r.value && leb r.value 2147483648 ≡ true =
      T_true _ (within-T 0 2147483648 r.value (omega arith) (omega (arith, g.2))) in
      rw (g.0, range)

-- ---- a number that was found before, in any range up to 99,999, is found again

module _ (line : List ℕ) (at low high : ℕ) (small : high ≤ 2147483648) (r : Read ℕ)
    (read : number_in low high (drop at line) ≡ some r) where
  pub stands_there : NumberStands line at
  unfolding NumberStands
  stands_there = (r, number_wider (drop at line) r low high small read)

  module _ (n : At ℕ) (is : KnownIs line at n) where
    pub known_found : number_in low high (drop at line) ≡ found n.value (drop n.next line)
    known_found =
        read ∙ sym (number_wider (drop at line) r low high small read)
        ∙ there (λ v. v) line (Ok n) _ is.reads n refl

    pub known_range : (low ≤ n.value) × (n.value ≤ high)
    unfolding found
    known_range =
        let g =
        number_given (drop at line) (record { value = n.value; rest = drop n.next line }) low high known_found in
        (g.1, g.2)

-- ---- the digits of a number that stands

module _ (line : List ℕ) (at : ℕ) (stands : NumberStands line at) where
  pub known_inside : at < length line
  unfolding NumberStands number_in natural and_then
  known_inside =
      lt_of_not-le (λ (h : length line ≤ at). never stands.0 (rw (drop_of_length-le line h) at stands.1))

  module _ (no_zero : get_or line at 0 ≡ 48 → ⊥) where
    known_digits : (digit (get_or line at 0) ≡ true)
        × ((digits_from (get_or line at 0 - 48) (drop (at + 1) line)).value ≤ 2147483648)
    unfolding NumberStands natural
    known_digits =
        let g = number_given (drop at line) stands.0 0 2147483648 stands.1 in
        let p =
        passed (digit (get_or line at 0)) (some (digits_from (get_or line at 0 - 48) (drop (at + 1) line))) stands.0
        (rw (here line at known_inside, ne_eqb (get_or line at 0) 48 no_zero) at g.0) in
        let same : digits_from (get_or line at 0 - 48) (drop (at + 1) line) ≡ stands.0 = let d = p.1 in cc in
        (p.0, rw same g.2)

    pub first_digit : (48 < get_or line at 0) × (get_or line at 0 ≤ 57)
    unfolding digit
    first_digit =
        let range = within 48 57 (get_or line at 0) (true-T _ known_digits.0) in
        (lt_of_not-le (λ (h : get_or line at 0 ≤ 48). no_zero (omega (arith, range.0))), range.1)

    -- its digits, read to where they end
    pub known_read : (r : Result (At ℕ) Refusal) → DigitsIs line (at + 1) (get_or line at 0 - 48) 2147483648 r
        → NumberIs line at 0 2147483648 r
    known_read r h =
        from_digits line at 0 2147483648 known_inside (omega arith) first_digit.0 known_digits.0 _ refl r h

    pub first_small : get_or line at 0 - 48 ≤ 2147483648
    first_small = omega (arith, first_digit.1)

    pub stays_small : (next value : ℕ) → Along line (at + 1) (get_or line at 0 - 48) 2147483648 next value
        → next < length line → digit (get_or line next 0) ≡ true
        → 10 * value + (get_or line next 0 - 48) ≤ 2147483648
    unfolding digits_from
    stays_small next value along h is_digit =
        let more : ℕ = 10 * value + (get_or line next 0 - 48) in
        let all : digits_from (get_or line at 0 - 48) (drop (at + 1) line) ≡ digits_from more (drop (next + 1) line) =
        along.same ∙ rw (here line next h, is_digit) in
        omega (arith, known_digits.1, grows (drop (next + 1) line) more, ap (λ (s : Read ℕ). s.value) all)

    -- so that neither the product nor the sum of the next digit leaves 32 bits
    module _ (next value : ℕ) (along : Along line (at + 1) (get_or line at 0 - 48) 2147483648 next value)
        (h : next < length line) (is_digit : digit (get_or line next 0) ≡ true) where
      pub product_fits : Fits w32 (10 * value)
      product_fits = record { fits = omega (arith, stays_small next value along h is_digit) }

      pub sum_fits : Fits w32 (10 * value + (get_or line next 0 - 48))
      sum_fits = record { fits = omega (arith, stays_small next value along h is_digit) }
