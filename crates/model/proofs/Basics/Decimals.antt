-- Decimal numbers digit by digit: a number below ten is its digit, and any other is its tenth followed by its last
-- digit.
-- Relies on the definition of `decimal`; the sheet's grammar and the code that prints numbers rely on it.
use Rattle.model.proofs.Kit.{◌≡◌, sym, ◌∙◌, inl, inr, ⊎_elim, ◌⊎◌, List, [], ◌∷◌, ◌++◌, ℕ, zero, suc, ◌+◌, ◌≤◌}
use Rattle.model.proofs.Kit.{◌<◌, ◌/◌, ◌%◌, lt-ltb, le-ltb, ltb-true, ltb-false, ltb, arith}
use Prim.Native.Nat.{◌^◌}
use native.Mathlib.Nat.{pow-suc, mod-eq_of_lt}
use Rattle.model.specs.Show.{decimal_in, decimal}
use Rattle.model.proofs.Basics.Tests.{by_test}

abbrev pub last_digit : ℕ → List ℕ
last_digit x = (48 + x % 10) ∷ []

module _ (k : ℕ) (x : ℕ) where
  pub in_one : x < 10 → decimal_in (suc k) x ≡ last_digit x
  unfolding decimal_in
  in_one h = rw (lt-ltb x 10 h)

  pub in_more : 10 ≤ x → decimal_in (suc k) x ≡ decimal_in k (x / 10) ++ last_digit x
  unfolding decimal_in
  in_more h = rw (le-ltb x 10 h)

-- below ten or not
pub below_ten : (x : ℕ) → (x < 10) ⊎ (10 ≤ x)
below_ten x = by_test (ltb x 10) (λ e. inl (ltb-true x 10 e)) (λ e. inr (ltb-false x 10 e))

-- a number of k digits needs no more fuel than k
more_fuel : (k x : ℕ) → x < 10 ^ suc k → decimal_in (suc k) x ≡ decimal_in (suc (suc k)) x
more_fuel zero x h = in_one 0 x (omega arith) ∙ sym (in_one 1 x (omega arith))
more_fuel (suc k) x h =
    ⊎_elim (λ l. in_one (suc k) x l ∙ sym (in_one (suc (suc k)) x l))
    (λ l. cc (
      in_more (suc k) x l,
      more_fuel k (x / 10) (omega (arith, pow-suc 10 (suc k))),
      in_more (suc (suc k)) x l,
    )) (below_ten x)

pub decimal_one : (x : ℕ) → x < 10 → decimal x ≡ (48 + x) ∷ []
unfolding decimal
decimal_one x h = in_one 9 x h ∙ rw (mod-eq_of_lt h)

pub decimal_more : (x : ℕ) → 10 ≤ x → x < 10000000000 → decimal x ≡ decimal (x / 10) ++ last_digit x
unfolding decimal
decimal_more x l h = in_more 9 x l ∙ rw (more_fuel 8 (x / 10) (omega arith))
