-- Digits one by one: what the loop over them keeps, and what it may answer at each place where it stops.
-- Relies on Places and the model's `digits_from` and `number_in`; the proofs of src/number.rt and src/known.rt rely on it.
use Rattle.model.proofs.Kit.{◌≡◌, refl, sym, ap, subst, ◌∙◌, true, false, cond, ◌&&◌, List, none, ℕ, ◌+◌, ◌-◌, ◌≤◌, ◌<◌, ◌*◌}
use Rattle.model.proofs.Kit.{le-leb, lt-leb, eq-eqb, ne_eqb, eqb, leb, length, drop, drop_of_length-le, get_or, arith}
use Rattle.model.proofs.Basics.Tests.{clash}
use Rattle.model.proofs.Sheet.NumbersBack.{grows}
use Rattle.model.specs.Forms.{Read, found, and_then, digit, digits_from, natural, number_in}
use Rattle.std.specs.Prelude.{Ok, Err}
use Rattle.std.specs.declared.result.Result.{Result}
use Rattle.model.specs.declared.refusal.Refusal.{Refusal}
use Rattle.model.specs.declared.refusal.Refusal.TheVariants.{NoForm}
use Rattle.lexer.specs.declared.At.{At}
use Rattle.model.specs.Forms.{or_four}
use Rattle.lexer.specs.Placed.{placed_as, NumberInside, up_to, DigitsIs, NumberIs}
use Rattle.lexer.proofs.Laws.Places.{here}

-- what the digits from `at` on are, once those before `next` have made `value`
pub record Along (line : List ℕ) (at v high next value : ℕ) : Type 0 where
  pub behind : at ≤ next
  pub inside : next ≤ length line
  pub large : v ≤ value
  pub small : value ≤ high
  pub same : digits_from v (drop at line) ≡ digits_from value (drop next line)

module _ (line : List ℕ) (at v high : ℕ) where
  pub begun : at ≤ length line → v ≤ high → Along line at v high at v
  begun h l = record { behind = omega arith; inside = h; large = omega arith; small = l; same = refl }

  module _ (next value : ℕ) (along : Along line at v high next value) where
    module _ (h : next < length line) (is_digit : digit (get_or line next 0) ≡ true) where
      pub digit_more : (more : ℕ) → more ≡ 10 * value + (get_or line next 0 - 48) → more ≤ high
          → Along line at v high (next + 1) more
      unfolding digits_from
      digit_more more e l = record {
        behind = omega (arith, along.behind);
        inside = omega arith;
        large = omega (arith, along.large);
        small = l;
        same = along.same ∙ rw (here line next h, is_digit, e);
      }

      too_large : high < 10 * value + (get_or line next 0 - 48) → up_to high (digits_from v (drop at line)) ≡ none
      unfolding digits_from up_to
      too_large l =
          let more : ℕ = 10 * value + (get_or line next 0 - 48) in
          let large : high < (digits_from more (drop (next + 1) line)).value =
          omega (arith, grows (drop (next + 1) line) more) in
          rw (
            along.same,
            here line next h,
            is_digit,
            lt-leb (digits_from more (drop (next + 1) line)).value high large,
          )

      pub beyond : high < 10 * value + (get_or line next 0 - 48) → DigitsIs line at v high (Err NoForm)
      unfolding placed_as or_four
      beyond l = record { reads = ap or_four (sym (too_large l)); inside = λ from h. tt }

    stopped_at : digits_from value (drop next line) ≡ record { value = value; rest = drop next line }
        → DigitsIs line at v high (Ok (record { value = value; next = next }))
    unfolding placed_as up_to or_four found
    stopped_at e = record {
      reads = rw (along.same, e, le-leb value high along.small);
      inside = λ from l. (omega (arith, along.behind), along.inside, along.large, along.small);
    }

    pub stopped : next < length line → digit (get_or line next 0) ≡ false
        → DigitsIs line at v high (Ok (record { value = value; next = next }))
    unfolding digits_from
    stopped h e = stopped_at (rw (here line next h, e))

    pub ended : length line ≤ next → DigitsIs line at v high (Ok (record { value = value; next = length line }))
    unfolding digits_from
    ended h =
        let there : next ≡ length line = omega (arith, along.inside) in
        subst (λ (k : ℕ). DigitsIs line at v high (Ok (record { value = value; next = k }))) there
        (stopped_at (rw (drop_of_length-le line h)))

-- ---- a number by its first byte

weaken : (line : List ℕ) (at low v high : ℕ) (r : Result (At ℕ) Refusal) → low ≤ v → NumberInside line at v high r
    → NumberInside line at low high r
weaken line at low v high (Ok a) l h = (h.0, h.1, omega (arith, h.2), h.3)
weaken line at low v high (Err e) l h = tt

in_range : (low high : ℕ) (r : Read ℕ) → low ≤ r.value
    → up_to high r ≡ cond (leb low r.value && leb r.value high) (found r.value r.rest) none
unfolding up_to
in_range low high r l = rw (le-leb low r.value l)

module _ (line : List ℕ) (at low high : ℕ) where
  none_there : number_in low high (drop at line) ≡ none → NumberIs line at low high (Err NoForm)
  unfolding placed_as or_four
  none_there e = record { reads = ap or_four (sym e); inside = tt }

  pub no_byte : length line ≤ at → NumberIs line at low high (Err NoForm)
  unfolding number_in natural and_then
  no_byte h = none_there (rw (drop_of_length-le line h))

  module _ (inside : at < length line) where
    pub no_digit : digit (get_or line at 0) ≡ false → NumberIs line at low high (Err NoForm)
    unfolding number_in natural and_then digit
    no_digit e = none_there (rw (here line at inside, ne_eqb (get_or line at 0) 48 no_zero, e))
      where
        no_zero : get_or line at 0 ≡ 48 → ⊥
        no_zero z = clash (rw z at e)

    pub from_digits : low ≤ 1 → 48 < get_or line at 0 → digit (get_or line at 0) ≡ true
        → (v : ℕ) → v ≡ get_or line at 0 - 48
        → (r : Result (At ℕ) Refusal) → DigitsIs line (at + 1) v high r → NumberIs line at low high r
    unfolding number_in natural and_then
    from_digits one low_end is_digit v same r is =
        let e : eqb (get_or line at 0) 48 ≡ false = ne_eqb (get_or line at 0) 48 (λ e. omega arith) in
        record {
          reads =
              is.reads
              ∙ ap or_four
              (in_range low high (digits_from v (drop (at + 1) line)) (omega (arith, grows (drop (at + 1) line) v))
              ∙ sym (rw (here line at inside, e, is_digit, sym same)));
          inside = weaken line at low v high r (omega arith) (is.inside at (omega arith));
        }

    module _ (zero-there : get_or line at 0 ≡ 48) where
      read_zero : number_in low high (drop at line) ≡ cond (leb low 0 && leb 0 high) (found 0 (drop (at + 1) line)) none
      unfolding number_in natural and_then found
      read_zero = rw (here line at inside, eq-eqb (get_or line at 0) 48 zero-there)

      pub zero_refused : 0 < low → NumberIs line at low high (Err NoForm)
      zero_refused h = none_there (rw (read_zero, lt-leb low 0 h))

      pub zero_read : low ≤ 0 → NumberIs line at low high (Ok (record { value = 0; next = at + 1 }))
      unfolding placed_as or_four found
      zero_read h = record {
        reads = sym (rw (read_zero, le-leb low 0 h, le-leb 0 high (omega arith)));
        inside = (omega arith, omega arith, omega arith, omega arith);
      }
