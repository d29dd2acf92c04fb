-- Where the parts of a board stand: each inside, and no two meet.
-- Relies on the layout's offsets; the laws on a board after a write rely on it.
use Rattle.model.proofs.Kit.{◌≡◌, refl, ap, inl, inr, ⊎_elim, ◌⊎◌, ℕ, ◌+◌, ◌≤◌, ◌<◌, ◌*◌, ℕ_discrete}
use Rattle.model.proofs.Kit.{lt_of_not-le, eq-or-lt_of_le, arith}
use native.Mathlib.Nat.{mul-le-mul_left}
use native.Mathlib.Decide.{dec_le}
use Rattle.model.specs.Listing.{Array, in_m, in_a, in_b}
use Rattle.model.specs.Layout.{board_length, row_of, register_at, record_at}

-- of two numbers, the first is lower, they are equal, or the second is lower
pub data Compared (a b : ℕ) : Type 0 where
  lower : a < b → Compared a b
  equal : a ≡ b → Compared a b
  higher : b < a → Compared a b

pub compared : (a b : ℕ) → Compared a b
compared a b = go (dec_le a b)
  where
    go : Dec (a ≤ b) → Compared a b
    go (yes h) = ⊎_elim (λ (e : a ≡ b). equal e) (λ (l : a < b). lower l) (eq-or-lt_of_le h)
    go (no f) = higher (lt_of_not-le f)

-- an array of a board with K islands
unfoldable pub InBoard : (K : ℕ) → Array → Type 0
InBoard K in_m = Unit {0}
InBoard K (in_a c) = c < K
InBoard K (in_b c) = c < K

pub row_inside : (K : ℕ) (a : Array) → InBoard K a → row_of a < 1 + 2 * K
unfolding InBoard row_of
row_inside K in_m h = omega arith
row_inside K (in_a c) h = omega arith
row_inside K (in_b c) h = omega arith

-- arrays have rows of their own
pub row_injective : (a b : Array) → row_of a ≡ row_of b → a ≡ b
unfolding row_of
row_injective in_m in_m e = refl
row_injective in_m (in_a k) e = absurd (omega arith)
row_injective in_m (in_b k) e = absurd (omega arith)
row_injective (in_a c) in_m e = absurd (omega arith)
row_injective (in_a c) (in_a k) e = ap in_a (omega arith)
row_injective (in_a c) (in_b k) e = absurd (omega arith)
row_injective (in_b c) in_m e = absurd (omega arith)
row_injective (in_b c) (in_a k) e = absurd (omega arith)
row_injective (in_b c) (in_b k) e = ap in_b (omega arith)

-- two places of registers are the same or not
pub same_place : (a : Array) (i : ℕ) (b : Array) (j : ℕ) → Dec ((a ≡ b) × (i ≡ j))
same_place a i b j = go (ℕ_discrete (row_of a) (row_of b)) (ℕ_discrete i j)
  where
    go : Dec (row_of a ≡ row_of b) → Dec (i ≡ j) → Dec ((a ≡ b) × (i ≡ j))
    go (yes e) (yes h) = yes (row_injective a b e, h)
    go (yes e) (no h) = no (λ q. h q.1)
    go (no e) d = no (λ q. e (ap row_of q.0))

module _ (n K : ℕ) where
  pub head_first : (a : Array) (j : ℕ) → 8 ≤ register_at n a j
  unfolding register_at
  head_first a j = omega arith

  -- registers stand before the records
  pub register_inside : (a : Array) (j i : ℕ) → InBoard K a → j < n → register_at n a j + 8 ≤ record_at n K i
  unfolding register_at record_at
  register_inside a j i h l = omega (arith, mul-le-mul_left n (row_inside K a h))

  pub record_inside : (i : ℕ) → i < n → record_at n K i + 24 ≤ board_length n K
  unfolding record_at board_length
  record_inside i h = omega arith

  pub register_fits : (a : Array) (j : ℕ) → InBoard K a → j < n → register_at n a j + 8 ≤ board_length n K
  register_fits a j h l = omega (arith, register_inside a j j h l, record_inside j l)

  pub head_before_records : (i : ℕ) → 8 ≤ record_at n K i
  unfolding record_at
  head_before_records i = omega arith

  pub records_apart : (i j : ℕ) → (i ≡ j → ⊥)
      → (record_at n K i + 24 ≤ record_at n K j) ⊎ (record_at n K j + 24 ≤ record_at n K i)
  unfolding record_at
  records_apart i j f = go (compared i j)
    where
      go : Compared i j → (record_at n K i + 24 ≤ record_at n K j) ⊎ (record_at n K j + 24 ≤ record_at n K i)
      go (lower h) = inl (omega arith)
      go (equal e) = absurd (f e)
      go (higher h) = inr (omega arith)

-- two registers of one board, of whatever arrays, do not meet
pub registers_apart : (n : ℕ) (a : Array) (i : ℕ) (b : Array) (j : ℕ) → i < n → j < n → ((a ≡ b) × (i ≡ j) → ⊥)
    → (register_at n a i + 8 ≤ register_at n b j) ⊎ (register_at n b j + 8 ≤ register_at n a i)
unfolding register_at
registers_apart n a i b j hi hj f = go (compared (row_of a) (row_of b)) (compared i j)
  where
    go : Compared (row_of a) (row_of b) → Compared i j
        → (register_at n a i + 8 ≤ register_at n b j) ⊎ (register_at n b j + 8 ≤ register_at n a i)
    go (lower h) c = inl (omega (arith, mul-le-mul_left n h))
    go (higher h) c = inr (omega (arith, mul-le-mul_left n h))
    go (equal e) (lower h) = inl (omega (arith, ap (λ (r : ℕ). n * r) e))
    go (equal e) (higher h) = inr (omega (arith, ap (λ (r : ℕ). n * r) e))
    go (equal e) (equal k) = absurd (f (row_injective a b e, k))

-- "72 for n = 1, K = 2; 200 for 3, 2; 16,904 for 16, 64"
pub lengths : (board_length 1 2 ≡ 72) × (board_length 3 2 ≡ 200) × (board_length 16 64 ≡ 16904)
unfolding board_length
lengths = (refl, refl, refl)
