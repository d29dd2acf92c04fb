-- Lists of zeros: by their bytes, by their number, and as a figure's bytes; and eight bytes at a place as one number.
-- Relies on the laws on numbers of the crate model; the tests of zero bytes and zero fields rely on it.
use Rattle.model.proofs.Kit.{◌≡◌, refl, sym, ap, ◌∙◌, Bool, true, false, ◌&&◌, List, [], ◌∷◌, ◌++◌, ℕ, ◌+◌}
use Rattle.model.proofs.Kit.{◌-◌, ◌≤◌, ◌*◌, not, eq-eqb, ne_eqb, eqb, ℤ, length, w32, of_z, SFits, ℕ_discrete, add-zero}
use Rattle.model.proofs.Kit.{arith}
use borrow.Author.Tests.{not-true, not-false}
use mir.Facts.{Fits-of_z}
use Rattle.model.specs.Bytes.{byte, number, part, zeros}
use Rattle.model.specs.Figure.{figure_bytes}
use Rattle.model.proofs.Basics.Numbers.{number_digits}
use Rattle.model.proofs.Basics.Parts.{listed, part_listed, part_join}

pub and_true : (a : Bool) → a ≡ a && true
and_true true = refl
and_true false = refl

and_assoc : (a b c : Bool) → a && (b && c) ≡ a && b && c
and_assoc true b c = refl
and_assoc false b c = refl

pub zeros_append : (l m : List ℕ) → zeros (l ++ m) ≡ zeros l && zeros m
unfolding zeros
zeros_append [] m = refl
zeros_append (x ∷ xs) m = ap (λ (t : Bool). eqb x 0 && t) (zeros_append xs m) ∙ and_assoc (eqb x 0) (zeros xs) (zeros m)

sum_zero : (x m : ℕ) → eqb x 0 && eqb m 0 ≡ eqb (x + 256 * m) 0
sum_zero x m = go (ℕ_discrete x 0) (ℕ_discrete m 0)
  where
    go : Dec (x ≡ 0) → Dec (m ≡ 0) → eqb x 0 && eqb m 0 ≡ eqb (x + 256 * m) 0
    go (yes e) (yes h) = (λ i. eq-eqb x 0 e i && eq-eqb m 0 h i) ∙ sym (eq-eqb (x + 256 * m) 0 (omega arith))
    go (yes e) (no h) = (λ i. eq-eqb x 0 e i && ne_eqb m 0 h i) ∙ sym (ne_eqb (x + 256 * m) 0 (λ q. h (omega arith)))
    go (no e) d = (λ i. ne_eqb x 0 e i && eqb m 0) ∙ sym (ne_eqb (x + 256 * m) 0 (λ q. e (omega arith)))

-- a number is zero when all its bytes are
pub zeros_number : (l : List ℕ) → zeros l ≡ eqb (number l) 0
unfolding zeros number
zeros_number [] = refl
zeros_number (x ∷ xs) = ap (λ (t : Bool). eqb x 0 && t) (zeros_number xs) ∙ sum_zero x (number xs)

pub figure_zero : (v : ℤ) → SFits w32 v → eqb (of_z w32 v) 0 ≡ zeros (figure_bytes v)
unfolding figure_bytes
figure_zero v h = ap (λ (x : ℕ). eqb x 0) (sym (number_digits 4 (of_z w32 v) (Fits-of_z h).fits)) ∙ sym (zeros_number _)

pub word_zero : (x : ℕ) (l : List ℕ) → x ≡ number l → eqb x 0 ≡ zeros l
word_zero x l e = ap (λ (y : ℕ). eqb y 0) e ∙ sym (zeros_number l)

-- two bytes at a place
module _ (b : List ℕ) (at : ℕ) (h : at + 2 ≤ length b) where
  pub pair_form : part at 2 b ≡ byte b at ∷ byte b (at + 1) ∷ []
  unfolding listed
  pair_form = part_listed at 2 b h ∙ ap (λ (x : ℕ). byte b x ∷ byte b (at + 1) ∷ []) (add-zero at)

  pub pair_second : byte b at ≡ 0 → eqb (byte b (at + 1)) 0 ≡ zeros (part at 2 b)
  unfolding zeros
  pair_second e =
      and_true (eqb (byte b (at + 1)) 0) ∙ sym (λ i. zeros (e i ∷ byte b (at + 1) ∷ [])) ∙ ap zeros (sym pair_form)

-- eight bytes at a place as one number
pub cell_read : (b : List ℕ) (at s t u v w x y z : ℕ) → at + 8 ≤ length b → s ≡ byte b at → t ≡ byte b (at + 1)
    → u ≡ byte b (at + 2) → v ≡ byte b (at + 3) → w ≡ byte b (at + 4) → x ≡ byte b (at + 5) → y ≡ byte b (at + 6)
    → z ≡ byte b (at + 7)
    → s + 256 * t + 65536 * u + 16777216 * v + 4294967296 * w + 1099511627776 * x + 281474976710656 * y
    + 72057594037927936 * z
    ≡ number (part at 8 b)
unfolding number listed
cell_read b at s t u v w x y z h es et eu ev ew ex ey ez =
    omega (arith, ap (byte b) (add-zero at)) ∙ sym (ap number (part_listed at 8 b h))

-- a part by its two halves
pub zeros_join : (b : List ℕ) (at k m : ℕ)
    → zeros (part at (k + m) b) ≡ zeros (part at k b) && zeros (part (at + k) m b)
zeros_join b at k m = ap zeros (part_join at k m b) ∙ zeros_append (part at k b) (part (at + k) m b)

-- as code tests them: r is the first of the two, and t the second, which begins at `from`
module _ (b : List ℕ) (at len k : ℕ) (r : Bool) (first : r ≡ zeros (part at k b)) where
  pub first_fails : not r ≡ true → k ≤ len → false ≡ zeros (part at len b)
  first_fails e h =
      let whole : len ≡ k + (len - k) = omega arith in
      sym (ap (λ (x : ℕ). zeros (part at x b)) whole ∙ zeros_join b at k (len - k)
      ∙ ap (λ (x : Bool). x && zeros (part (at + k) (len - k) b)) (sym first ∙ not-true r e))

  pub second_decides : not r ≡ false → (t : Bool) (from m : ℕ) → t ≡ zeros (part from m b) → from ≡ at + k → len ≡ k + m
      → t ≡ zeros (part at len b)
  second_decides e t from m second q whole =
      second ∙ ap (λ (x : ℕ). zeros (part x m b)) q
      ∙ sym (ap (λ (x : ℕ). zeros (part at x b)) whole ∙ zeros_join b at k m
      ∙ ap (λ (x : Bool). x && zeros (part (at + k) m b)) (sym first ∙ not-false r e))
