-- Numbers of several bytes, and figures, as bytes and back. One law each, for any count of bytes.
-- Relies on Bytes, Figure and Tests; the laws on registers and records rely on it.
use Rattle.model.proofs.Kit.{◌≡◌, refl, ap, ◌∙◌, Bool, true, List, [], ◌∷◌, ℕ, zero, suc, ◌+◌, ◌≤◌, ◌<◌, ◌/◌}
use Rattle.model.proofs.Kit.{◌%◌, ◌*◌, ltb-true, ltb-false, ltb, lit<, T, eqb→eq, eqb_refl, pos, negsuc, length}
use Rattle.model.proofs.Kit.{lt_z, to_z-of_z, w32, to_z, of_z, SFits, arith}
use Prim.Native.Nat.{◌^◌}
use native.Mathlib.Nat.{pow-suc}
use lib.Signed.{mag}
use mir.Val.{hbits}
use mir.Facts.{of_z-to_z, Fits-of_z}
use Rattle.model.specs.Bytes.{number, digits}
use Rattle.model.specs.Figure.{Figure, figure, figure_bytes, figures, same_figure}
use Rattle.model.proofs.Basics.Tests.{true-T, T_true, by_test}

-- every element is a byte
unfoldable pub Bytes : List ℕ → Type 0
Bytes [] = Unit {0}
Bytes (b ∷ bs) = (b < 256) × Bytes bs

pub length_digits : (k x : ℕ) → length (digits k x) ≡ k
unfolding digits
length_digits zero x = refl
length_digits (suc k) x = ap suc (length_digits k (x / 256))

pub number_digits : (k x : ℕ) → x < 256 ^ k → number (digits k x) ≡ x
unfolding number digits
number_digits zero x h = omega arith
number_digits (suc k) x h =
    let high : x / 256 < 256 ^ k = omega (arith, pow-suc 256 k) in
    rw (number_digits k (x / 256) high) (omega arith)

-- and whatever the number is, its lowest bytes are no more than it
pub digits_below : (k x : ℕ) → number (digits k x) ≤ x
unfolding number digits
digits_below zero x = omega arith
digits_below (suc k) x = omega (arith, digits_below k (x / 256))

pub digits_number : (bs : List ℕ) → Bytes bs → digits (length bs) (number bs) ≡ bs
unfolding number digits Bytes
digits_number [] h = refl
digits_number (b ∷ bs) h =
    let low : (b + 256 * number bs) % 256 ≡ b = omega (arith, h.0) in
    let high : (b + 256 * number bs) / 256 ≡ number bs = omega (arith, h.0) in
    cc (low, high, digits_number bs h.1)

pub number_lt : (bs : List ℕ) → Bytes bs → number bs < 256 ^ length bs
unfolding number Bytes
number_lt [] h = lit< tt
number_lt (b ∷ bs) h = rw pow-suc (omega (arith, number_lt bs h.1, h.0))

-- Whatever bits are read, the figure is a 32-bit one.
pub signed_fits : (x : ℕ) → SFits w32 (to_z w32 x)
signed_fits x =
    by_test (ltb x (2 ^ 31)) (λ e. rw e (record { sfits = ltb-true x (2 ^ 31) e }))
    (λ e. rw e (record { sfits = omega (arith, ltb-false x (2 ^ 31) e) }))

pub figure_fits : (b : List ℕ) → SFits w32 (figure b)
unfolding figure
figure_fits b = signed_fits (number b)

-- "figures in two's complement": each way round
pub figure_bytes_lem : (v : Figure) → SFits w32 v → figure (figure_bytes v) ≡ v
unfolding figure figure_bytes
figure_bytes_lem v h = ap (to_z w32) (number_digits 4 (of_z w32 v) (Fits-of_z h).fits) ∙ to_z-of_z h

pub bytes_figure : (b : List ℕ) → length b ≡ 4 → Bytes b → figure_bytes (figure b) ≡ b
unfolding figure figure_bytes
bytes_figure b l h =
    ap (digits 4) (of_z-to_z {w = w32} (record { fits = rw l at (number_lt b h) })) ∙ rw l at (digits_number b h)

-- the test of equality tells equal figures
pub same_is : (v w : Figure) → T (same_figure v w) → v ≡ w
unfolding same_figure
same_is (pos a) (pos b) t = ap pos (eqb→eq a b t)
same_is (pos a) (negsuc b) t = absurd t
same_is (negsuc a) (pos b) t = absurd t
same_is (negsuc a) (negsuc b) t = ap negsuc (eqb→eq a b t)

pub same_refl : (v : Figure) → T (same_figure v v)
unfolding same_figure
same_refl (pos a) = eqb_refl a
same_refl (negsuc a) = eqb_refl a

-- the same, in the words of the order
pub same_law : (x y : Figure) → figures.same x y ≡ true → x ≡ y
unfolding figures
same_law x y e = same_is x y (true-T (same_figure x y) e)

pub self_law : (x : Figure) → figures.same x x ≡ true
unfolding figures
self_law x = T_true (same_figure x x) (same_refl x)

-- a figure in range is the number of its bits
pub landed : (v : Figure) → mag v < 2 ^ hbits w32 → to_z w32 (of_z w32 v) ≡ v
landed v f = to_z-of_z {w = w32} {z = v} (record { sfits = f })

-- its sign is that of the number read back from its bits, which is the one that the code tests
pub sign : (v : Figure) → SFits w32 v → (t : Bool) → lt_z (to_z w32 (of_z w32 v)) (pos 0) ≡ t → lt_z v (pos 0) ≡ t
sign v h t e = rw (to_z-of_z h) at e
