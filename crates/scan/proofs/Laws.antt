-- The place of the first mark, and what the library's `position` says of it.
-- Relies on the definition of the first mark; the proof of `find` relies on it.
use Rattle.std.proofs.Common.{◌≡◌, refl, sym, ap, ◌∙◌, cond, not, Bool, true}
use Rattle.std.proofs.Common.{false, List, ℕ, ◌≤◌, length, Some, None, nat_eq, nat_lt, arith}
use Rattle.std.proofs.lemmas.Bool.Decides.{nat_tests}
use Rattle.std.specs.List.{position, position_or_len}
use Rattle.std.proofs.lemmas.List.Sums.{prefix_len-le-length}
use Rattle.std.proofs.lemmas.List.Recursion.{is_position_or_len}
use Rattle.scan.specs.Scan.{index_of}

module _ (mark : ℕ) (s : List ℕ) where
  found : position_or_len (λ b. nat_eq b mark) s ≡ index_of mark s
  unfolding index_of
  found = sym (is_position_or_len (index_of mark) (λ b. nat_eq b mark) refl (λ b bs. ap (cond (nat_eq b mark) 0) (omega arith)) s)

  one : (t : Bool) (m n : ℕ) → Some n ≡ cond t (Some m) None → n ≡ m
  one true m n e = cc
  one false m n e = cc

  none : (t : Bool) (m n : ℕ) → t ≡ nat_lt m n → None ≡ cond t (Some m) None → n ≤ m
  none true m n q e = absurd (cc)
  none false m n q e = grind (arith, nat_tests)

  pub first_found : (n : ℕ) → Some n ≡ position (λ b. nat_eq b mark) s → n ≡ index_of mark s
  first_found n e = one _ _ n e ∙ found

  pub none_found : None ≡ position (λ b. nat_eq b mark) s → length s ≡ index_of mark s
  none_found e = omega (arith, found, none _ _ _ refl e, prefix_len-le-length (λ b. not (nat_eq b mark)) s)
