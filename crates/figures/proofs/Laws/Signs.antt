-- Two's complement at 32 bits: what a complement stands for, and four bytes as a figure and back.
-- Relies on the laws on numbers of the crate model; the functions' proofs rely on it, and so do those of the codec.
use Rattle.model.proofs.Kit.{◌≡◌, sym, ap, ◌∙◌, List, [], ◌∷◌, ℕ, ◌+◌, ◌-◌, ◌≤◌, ◌/◌, ◌%◌, ◌*◌}
use Rattle.model.proofs.Kit.{ℤ, pos, negsuc, length, to_z-of_z, w32, to_z, of_z, SFits, add-zero}
use Rattle.model.proofs.Kit.{arith}
use Rattle.std.specs.Int.{to_le_bytes}
use Rattle.model.specs.Bytes.{byte, number, digits, part}
use Rattle.model.specs.Figure.{Figure, figure, figure_bytes}
use Rattle.model.proofs.Basics.Numbers.{figure_fits}
use Rattle.model.proofs.Basics.Parts.{listed, part_listed}

-- −z − 1, whose bits are the complement of z's
abbrev pub not_z : ℤ → ℤ
not_z (pos n) = negsuc n
not_z (negsuc n) = pos n

pub not_bits : (v : ℤ) → SFits w32 v → to_z w32 (4294967295 - of_z w32 v) ≡ not_z v
not_bits v h = ap (to_z w32) (bits v h) ∙ to_z-of_z (inside v h)
  where
    bits : (v : ℤ) → SFits w32 v → 4294967295 - of_z w32 v ≡ of_z w32 (not_z v)
    bits (pos n) h = omega (arith, h.sfits)
    bits (negsuc n) h = omega (arith, h.sfits)

    inside : (v : ℤ) → SFits w32 v → SFits w32 (not_z v)
    inside (pos n) h = record { sfits = h.sfits }
    inside (negsuc n) h = record { sfits = h.sfits }

-- a signed value that is returned is read back from its bits
pub returned : (v : ℤ) (b : List ℕ) → v ≡ figure b → to_z w32 (of_z w32 v) ≡ figure b
returned v b e = ap (λ (z : ℤ). to_z w32 (of_z w32 z)) e ∙ to_z-of_z (figure_fits b)

pub figure_read : (b : List ℕ) (x : ℕ) (v : ℤ) → x ≡ number b → v ≡ to_z w32 x → to_z w32 (of_z w32 v) ≡ figure b
unfolding figure
figure_read b x v e q = returned v b (q ∙ ap (to_z w32) e)

-- the library's bytes of a number are its digits
word_laid : (x : ℕ) → to_le_bytes w32 x ≡ digits 4 x
unfolding digits
word_laid x = λ i. x % 256 ∷ x / 256 % 256 ∷ third i ∷ fourth i ∷ []
  where
    third : x / 65536 % 256 ≡ x / 256 / 256 % 256
    third = omega arith

    fourth : x / 16777216 % 256 ≡ x / 256 / 256 / 256 % 256
    fourth = omega arith

-- and so is one that is passed
pub passed : (v : ℤ) → SFits w32 v → (f : List ℕ) → f ≡ figure_bytes (to_z w32 (of_z w32 v)) → f ≡ figure_bytes v
passed v h f e = e ∙ ap figure_bytes (to_z-of_z h)

pub figure_laid : (v : Figure) → SFits w32 v → (l : List ℕ)
    → l ≡ to_le_bytes w32 (of_z w32 (to_z w32 (of_z w32 v))) → l ≡ figure_bytes v
unfolding figure_bytes
figure_laid v h l e = e ∙ ap (to_le_bytes w32) (ap (of_z w32) (to_z-of_z h)) ∙ word_laid (of_z w32 v)

pub word_read : (b : List ℕ) (at w x y z : ℕ) → at + 4 ≤ length b → w ≡ byte b at → x ≡ byte b (at + 1)
    → y ≡ byte b (at + 2) → z ≡ byte b (at + 3) → w + 256 * x + 65536 * y + 16777216 * z ≡ number (part at 4 b)
unfolding number listed
word_read b at w x y z h ew ex ey ez = omega (arith, ap (byte b) (add-zero at)) ∙ sym (ap number (part_listed at 4 b h))
