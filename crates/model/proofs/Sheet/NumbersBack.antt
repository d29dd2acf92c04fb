-- A number or figure that a reader finds stands before the rest as it is written, and in its range.
-- Relies on decimals and on how readers are put together; the grammar's other direction relies on it.
use Rattle.model.proofs.Kit.{◌≡◌, refl, sym, ap, subst, ◌∙◌, true, cond, ◌&&◌, ⊎_elim, List, [], ◌∷◌, ◌++◌}
use Rattle.model.proofs.Kit.{append_assoc, none, some, Option, ℕ, ◌+◌, ◌-◌, ◌≤◌, ◌<◌, ◌/◌, ◌%◌, ◌*◌, eqb-true}
use Rattle.model.proofs.Kit.{eqb-false, eqb, leb, lit<, drop, w32, SFits, eq-or-lt_of_le, arith}
use native.Mathlib.Nat.{le_refl}
use Rattle.model.specs.Bytes.{byte}
use Rattle.model.specs.Show.{text_from, text, decimal, signed}
use Rattle.model.specs.Forms.{Read, found, spaced, digit, digits_from, natural, number_in, figure_in}
use Rattle.model.proofs.Basics.Tests.{true-T, cond_case}
use Rattle.model.proofs.Basics.Decimals.{last_digit, decimal_one, decimal_more}
use Rattle.model.proofs.Calls.Refusals.{within}
use Rattle.model.proofs.Sheet.Readers.{Always, always_map, always_then, always_if}

-- what was read of l stands before the rest as W writes it, and has R
unfoldable pub Stood : {A : Type 0} (W : A → List ℕ) (R : A → Type 0) → List ℕ → Read A → Type 0
Stood W R l r = (l ≡ W r.value ++ r.rest) × R r.value

-- a byte in front that is not 0 is really there
pub in_front : (l : List ℕ) (b : ℕ) → 0 < b → byte l 0 ≡ b → l ≡ b ∷ drop 1 l
in_front [] b h e = absurd (omega arith)
in_front (x ∷ l) b h e = ap (λ (y : ℕ). y ∷ l) e

pub spaced_stood : {A : Type 0} (W : A → List ℕ) (R : A → Type 0) (read : List ℕ → Option (Read A)) (l : List ℕ)
    → ((k : List ℕ) → Always (Stood W R k) (read k)) → Always (Stood (λ a. 32 ∷ W a) R l) (spaced read l)
unfolding spaced Stood
spaced_stood W R read l f =
    always_if (Stood (λ a. 32 ∷ W a) R l) (eqb (byte l 0) 32) (read (drop 1 l))
    (λ e. always_map (Stood W R (drop 1 l)) (Stood (λ a. 32 ∷ W a) R l) (read (drop 1 l))
    (λ r h. (in_front l 32 (lit< tt) (eqb-true (byte l 0) 32 e) ∙ ap (λ (k : List ℕ). 32 ∷ k) h.0, h.1))
    (f (drop 1 l)))

-- ---- numbers

digit_range : (b : ℕ) → digit b ≡ true → (48 ≤ b) × (b ≤ 57)
unfolding digit
digit_range b e = within 48 57 b (true-T _ e)

-- one more digit behind v
longer : (v b : ℕ) (l : List ℕ) → 1 ≤ v → digit b ≡ true → 10 * v + (b - 48) < 10000000000
    → decimal v ++ (b ∷ l) ≡ decimal (10 * v + (b - 48)) ++ l
longer v b l h e f =
    let d = digit_range b e in
    sym
    (ap (λ (x : List ℕ). x ++ l) (decimal_more (10 * v + (b - 48)) (omega arith) f)
    ∙ append_assoc (decimal ((10 * v + (b - 48)) / 10)) (last_digit (10 * v + (b - 48))) l
    ∙ joined ((10 * v + (b - 48)) / 10) v (48 + (10 * v + (b - 48)) % 10) b (omega (arith, d.1))
    (omega (arith, d.0, d.1)))
  where
    joined : (x y c d : ℕ) → x ≡ y → c ≡ d → decimal x ++ (c ∷ l) ≡ decimal y ++ (d ∷ l)
    joined x y c d p q = λ j. decimal (p j) ++ (q j ∷ l)

-- more digits make no smaller number
pub grows : (l : List ℕ) (v : ℕ) → v ≤ (digits_from v l).value
unfolding digits_from
grows [] v = le_refl v
grows (b ∷ l) v =
    cond_case (λ (r : Read ℕ). v ≤ r.value) (digit b) (digits_from (10 * v + (b - 48)) l)
    (record { value = v; rest = b ∷ l })
    (λ e. omega (arith, grows l (10 * v + (b - 48)))) (λ e. le_refl v)

-- a number that ten digits hold stands as it is written
unfoldable Natural : List ℕ → Read ℕ → Type 0
Natural l r = r.value < 10000000000 → l ≡ decimal r.value ++ r.rest

digits_stood : (l : List ℕ) (v : ℕ) → 1 ≤ v → Natural (decimal v ++ l) (digits_from v l)
unfolding digits_from Natural
digits_stood [] v h = λ f. refl
digits_stood (b ∷ l) v h =
    cond_case (Natural (decimal v ++ (b ∷ l))) (digit b) (digits_from (10 * v + (b - 48)) l)
    (record { value = v; rest = b ∷ l })
    (λ e f. longer v b l h e (omega (arith, grows l (10 * v + (b - 48)), f))
    ∙ digits_stood l (10 * v + (b - 48)) (omega arith) f) (λ e f. refl)

natural_stood : (l : List ℕ) → Always (Natural l) (natural l)
unfolding natural Always Natural found
natural_stood [] = tt
natural_stood (b ∷ l) =
    cond_case (Always (Natural (b ∷ l))) (eqb b 48) (found 0 l) (cond (digit b) (some (digits_from (b - 48) l)) none)
    (λ e f. ap (λ (x : ℕ). x ∷ l) (eqb-true b 48 e) ∙ ap (λ (d : List ℕ). d ++ l) (sym (decimal_one 0 (lit< tt))))
    (λ e. always_if (Natural (b ∷ l)) (digit b) (some (digits_from (b - 48) l))
    (λ d. several (eqb-false b 48 e) (digit_range b d)))
  where
    several : (b ≡ 48 → ⊥) → (48 ≤ b) × (b ≤ 57) → Natural (b ∷ l) (digits_from (b - 48) l)
    several n d =
        let positive : 1 ≤ b - 48 =
        ⊎_elim (λ (e : 48 ≡ b). absurd (n (sym e))) (λ (h : 48 < b). omega arith) (eq-or-lt_of_le d.0) in
        subst (λ (k : List ℕ). Natural k (digits_from (b - 48) l))
        (ap (λ (k : List ℕ). k ++ l) (decimal_one (b - 48) (omega (arith, d.1)))
        ∙ ap (λ (x : ℕ). x ∷ l) (omega (arith, d.0)))
        (digits_stood l (b - 48) positive)

pub number_stood : (low high : ℕ) → high < 10000000000 → (l : List ℕ)
    → Always (Stood decimal (λ v. (low ≤ v) × (v ≤ high)) l) (number_in low high l)
unfolding number_in Natural Stood found Always
number_stood low high h l =
    always_then (Natural l) (Stood decimal (λ v. (low ≤ v) × (v ≤ high)) l) (natural l) _ (natural_stood l)
    (λ r n. always_if (Stood decimal (λ v. (low ≤ v) × (v ≤ high)) l) (leb low r.value && leb r.value high)
    (found r.value r.rest)
    (λ e. let w = within low high r.value (true-T _ e) in (n (omega (arith, w.1)), w)))

pub figure_stood : (l : List ℕ) → Always (Stood signed (SFits w32) l) (figure_in l)
unfolding figure_in Stood signed text text_from found Always
figure_stood l =
    cond_case (Always (Stood signed (SFits w32) l)) (eqb (byte l 0) 45) _ _
    (λ e. always_then (Stood decimal (λ v. (1 ≤ v) × (v ≤ 2147483648)) (drop 1 l)) (Stood signed (SFits w32) l)
    (number_in 1 2147483648 (drop 1 l)) _
    (number_stood 1 2147483648 (lit< tt) (drop 1 l))
    (λ r h. (
      in_front l 45 (lit< tt) (eqb-true (byte l 0) 45 e) ∙ ap (λ (k : List ℕ). 45 ∷ k) h.0
          ∙ ap (λ (v : ℕ). 45 ∷ (decimal v ++ r.rest)) (omega (arith, h.1.0)),
      record { sfits = omega (arith, h.1.0, h.1.1) },
    )))
    (λ e. always_then (Stood decimal (λ v. (0 ≤ v) × (v ≤ 2147483647)) l) (Stood signed (SFits w32) l)
    (number_in 0 2147483647 l) _
    (number_stood 0 2147483647 (lit< tt) l) (λ r h. (h.0, record { sfits = omega (arith, h.1.1) })))
