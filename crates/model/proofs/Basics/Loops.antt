-- A loop over the numbers below k: one that stops at the first that fails a test, and one that counts those that pass.
-- Relies on the laws of `every`; the loops over rows, islands, records and stations rely on it.
use Rattle.model.proofs.Kit.{◌≡◌, refl, sym, ap, subst, ◌∙◌, Bool, true, false, cond, ◌&&◌, ℕ, zero, suc, ◌+◌}
use Rattle.model.proofs.Kit.{◌≤◌, ◌<◌, T, add-one, arith}
use Rattle.model.specs.Bytes.{every, count}
use Rattle.model.proofs.Basics.Tests.{every_at, cond_case}

pub every_none : (f : ℕ → Bool) → every 0 f ≡ true
unfolding every
every_none f = refl

pub every_more : (f : ℕ → Bool) (j : ℕ) → every j f ≡ true → f j ≡ true → every (j + 1) f ≡ true
unfolding every
every_more f j e q = ap (λ (m : ℕ). every m f) (add-one j) ∙ (λ i. e i && q i)

pub every_end : (f : ℕ → Bool) (k j : ℕ) → j ≤ k → k ≤ j → every j f ≡ true → true ≡ every k f
every_end f k j h l e = sym (ap (λ (m : ℕ). every m f) same ∙ e)
  where
    same : k ≡ j
    same = omega arith

refuted : (t : Bool) → (T t → ⊥) → false ≡ t
refuted true h = absurd (h tt)
refuted false h = refl

pub every_fails : (f : ℕ → Bool) (k j : ℕ) → j < k → f j ≡ false → false ≡ every k f
every_fails f k j h e = refuted (every k f) (λ t. subst T e (every_at k f t j h))

pub count_none : (f : ℕ → Bool) → 0 ≡ count 0 f
unfolding count
count_none f = refl

pub count_more : (f : ℕ → Bool) (j x y : ℕ) → x ≡ count j f → y ≡ cond (f j) 1 0 → x + y ≡ count (j + 1) f
unfolding count
count_more f j x y e q = (λ i. e i + q i) ∙ ap (λ (m : ℕ). count m f) (sym (add-one j))

pub count_most : (f : ℕ → Bool) (j : ℕ) → count j f ≤ j
unfolding count
count_most f zero = omega arith
count_most f (suc j) =
    omega (arith, count_most f j, cond_case (λ (x : ℕ). x ≤ 1) (f j) 1 0 (λ e. omega arith) (λ e. omega arith))

pub count_end : (f : ℕ → Bool) (k j x : ℕ) → j ≤ k → k ≤ j → x ≡ count j f → x ≡ count k f
count_end f k j x h l e = e ∙ ap (λ (m : ℕ). count m f) same
  where
    same : j ≡ k
    same = omega arith
