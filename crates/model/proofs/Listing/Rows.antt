-- The registers of an array from some position on, in order, as the reads of a collect meet them.
-- Relies on the listing and on what the paper's lines ask; the whole steps of a round rely on it.
use Rattle.model.proofs.Kit.{◌≡◌, refl, sym, ap, subst, ◌∙◌, List, [], ◌∷◌, ◌++◌, ℕ, zero, suc, ◌+◌, ◌≤◌, ◌<◌}
use Rattle.model.proofs.Kit.{length, ℕ_discrete, arith}
use Rattle.model.specs.Listing.{Register, empty, filled}
use Rattle.model.specs.Collects.{SomeFilled, in_sA, without⊥}
use Rattle.model.proofs.Basics.Tests.{impossible}
use Rattle.model.proofs.Listing.Collect.{Filled}

filled_first : {F : Type 0} (z : Register F) (rs : List (Register F)) → Filled z → SomeFilled (z ∷ rs)
unfolding SomeFilled in_sA without⊥
filled_first empty rs h = absurd h
filled_first (filled f k y) rs h = λ e. impossible (cc)

filled_later : {F : Type 0} (z : Register F) (rs : List (Register F)) → SomeFilled rs → SomeFilled (z ∷ rs)
unfolding SomeFilled in_sA without⊥
filled_later empty rs h = h
filled_later (filled f k y) rs h = λ e. impossible (cc)

module _ {F : Type 0} (r : ℕ → Register F) where
  unfoldable pub row : (p k : ℕ) → List (Register F)
  row p zero = []
  row p (suc k) = r p ∷ row (p + 1) k

  pub row_length : (p k : ℕ) → length (row p k) ≡ k
  unfolding row
  row_length p zero = refl
  row_length p (suc k) = ap suc (row_length (p + 1) k)

  pub row_last : (p k : ℕ) → row p (suc k) ≡ row p k ++ (r (p + k) ∷ [])
  unfolding row
  row_last p zero = let e : p ≡ p + 0 = omega arith in λ j. r (e j) ∷ []
  row_last p (suc k) =
      let e : p + 1 + k ≡ p + suc k = omega arith in
      ap (λ (l : List (Register F)). r p ∷ l)
      (row_last (p + 1) k ∙ ap (λ (q : ℕ). row (p + 1) k ++ (r q ∷ [])) e)

  -- a filled register among them
  pub row_filled : (p k q : ℕ) → p ≤ q → q < p + k → Filled (r q) → SomeFilled (row p k)
  unfolding row
  row_filled p zero q low high h = absurd (omega arith)
  row_filled p (suc k) q low high h =
      by (ℕ_discrete p q) (λ l. row_filled (p + 1) k q l (omega arith) h)
    where
      by : Dec (p ≡ q) → (p + 1 ≤ q → SomeFilled (row (p + 1) k)) → SomeFilled (r p ∷ row (p + 1) k)
      by (yes e) later = filled_first (r p) (row (p + 1) k) (subst (λ (j : ℕ). Filled (r j)) (sym e) h)
      by (no e) later = filled_later (r p) (row (p + 1) k) (later (omega arith))

-- two rows that agree where they are read
pub row_as : {F : Type 0} (r s : ℕ → Register F) (p k : ℕ) → ((q : ℕ) → q < p + k → r q ≡ s q) → row r p k ≡ row s p k
unfolding row
row_as r s p zero h = refl
row_as r s p (suc k) h =
    let first = h p (omega arith) in
    let later = row_as r s (p + 1) k (λ q l. h q (omega arith)) in
    λ j. first j ∷ later j
