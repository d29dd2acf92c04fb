-- The station's own register: where it stands, and what it holds against what the record says it wrote.
-- Relies on the listing's values and their layout; the proofs of held and of the three turns rely on it.
use Rattle.model.proofs.Kit.{◌≡◌, refl, sym, ap, ◌∙◌, Bool, true, false, cond, ◌&&◌, not, ℕ_discrete, List, ℕ, zero, suc, ◌+◌, ◌≤◌, ◌<◌}
use Rattle.model.proofs.Kit.{◌*◌, lt-ltb, le-ltb, eq-eqb, ne_eqb, eqb, ltb, length, to_z-of_z, w32}
use Rattle.model.proofs.Kit.{to_z, of_z, SFits, lt_of_not-le, arith}
use native.Mathlib.Decide.{dec_le}
use mathlib.Core.Bool.{beq}
use Rattle.model.specs.declared.Record.{Record}
use Rattle.model.specs.declared.Register.{Register}
use Rattle.model.specs.Bytes.{part}
use Rattle.model.specs.Figure.{Figure, same_figure}
use Rattle.model.specs.Listing.{flag_of, flag_number, Turn, turn_m, turn_a, turn_b, Flag, array, in_a, in_b, entry, filled}
use Rattle.model.specs.Layout.{board_length, row_of, register_at, read_register, register_value, register_of, reading_of}
use Rattle.model.specs.Sound.{same_register, own_written}
use Rattle.model.proofs.Board.Codec.{marked_by}
use Rattle.model.proofs.Board.Places.{InBoard, register_fits}

-- ---- flags: 0 and 1 are adopt, the others commit
low : (m : ℕ) → m < 2 → flag_number (flag_of m) ≡ 1
unfolding flag_number flag_of
low zero h = refl
low (suc zero) h = refl
low (suc (suc m)) h = absurd (omega arith)

high : (m : ℕ) → 2 ≤ m → flag_number (flag_of m) ≡ 2
unfolding flag_number flag_of
high zero h = absurd (omega arith)
high (suc zero) h = absurd (omega arith)
high (suc (suc m)) h = refl

flag_by : (m : ℕ) → flag_number (flag_of m) ≡ cond (ltb m 2) 1 2
flag_by m = go (dec_le 2 m)
  where
    go : Dec (2 ≤ m) → flag_number (flag_of m) ≡ cond (ltb m 2) 1 2
    go (yes l) = high m l ∙ ap (λ (t : Bool). cond t 1 2) (sym (le-ltb m 2 l))
    go (no f) = low m (lt_of_not-le f) ∙ ap (λ (t : Bool). cond t 1 2) (sym (lt-ltb m 2 (lt_of_not-le f)))

one_side : (x y : Bool) → beq x y ≡ eqb (cond x 1 2) (cond y 1 2)
one_side true true = refl
one_side true false = refl
one_side false true = refl
one_side false false = refl

pub same_side : (m g : ℕ) → beq (ltb m 2) (ltb g 2) ≡ eqb (flag_number (flag_of m)) (flag_number (flag_of g))
same_side m g = one_side (ltb m 2) (ltb g 2) ∙ (λ i. eqb (sym (flag_by m) i) (sym (flag_by g) i))

-- ---- what a register holds
marked : (m k : ℕ) (v : Figure) (g : Flag) (j : ℕ) (w : Figure) → (m ≡ 0 → ⊥)
    → eqb (flag_number (flag_of m)) (flag_number g) && eqb k j && same_figure v w
    ≡ same_register (marked_by m k v) (filled g j w)
unfolding same_register
marked zero k v g j w h = absurd (h refl)
marked (suc m) k v g j w h = refl

-- the tests of the code one after another
pub held_tests : (r : Register) (g j : ℕ) (w : Figure)
    → same_register (register_value r) (filled (flag_of g) j w)
    ≡ not (eqb r.mark 0) && eqb (flag_number (flag_of r.mark)) (flag_number (flag_of g)) && eqb r.island j
    && same_figure r.figure w
unfolding register_value same_register
held_tests r g j w = sym (go (ℕ_discrete r.mark 0))
  where
    fields : Bool → Bool
    fields t = not t && eqb (flag_number (flag_of r.mark)) (flag_number (flag_of g)) && eqb r.island j && same_figure r.figure w

    go : Dec (r.mark ≡ 0) → fields (eqb r.mark 0) ≡ same_register (register_value r) (filled (flag_of g) j w)
    go (yes e) =
        ap fields (eq-eqb r.mark 0 e)
        ∙ ap (λ (m : ℕ). same_register (marked_by m r.island r.figure) (filled (flag_of g) j w)) (sym e)
    go (no h) = ap fields (ne_eqb r.mark 0 h) ∙ marked r.mark r.island r.figure (flag_of g) j w h

-- the code's test of the figures that the bits stand for
pub same_bits : (x y : Figure) (s : Bool) → SFits w32 x → SFits w32 y
    → s ≡ same_figure (to_z w32 (of_z w32 x)) (to_z w32 (of_z w32 y)) → s ≡ same_figure x y
same_bits x y s h l p = p ∙ (λ q. same_figure (to_z-of_z h q) (to_z-of_z l q))

-- The register that the code read is the one of the record's turn t, and it was compared with what the record says it
-- wrote: flag g and island j beside the carried figure.
written : (t : Turn) (n i : ℕ) (b : List ℕ) (f : Record) (r : Register) (row g j : ℕ) (a : Bool)
    → SFits w32 f.carried
    → row ≡ row_of (array t f.island) → filled (flag_of g) j f.carried ≡ entry t f.island f.carried
    → r ≡ read_register (part (8 + 8 * (n * row + i)) 8 b)
    → a ≡ same_register (register_value r) (filled (flag_of g) j (to_z w32 (of_z w32 f.carried)))
    → a ≡ own_written n i b (reading_of t f)
unfolding own_written reading_of register_of register_at
written t n i b f r row g j a h place what er ea =
    ea ∙ (λ q. same_register (register_value (er q)) (filled (flag_of g) j (to_z-of_z h q)))
    ∙ (λ q. same_register (register_value (read_register (part (8 + 8 * (n * place q + i)) 8 b))) (what q))

module _ (n i : ℕ) (b : List ℕ) (f : Record) (r : Register) (a : Bool) (h : SFits w32 f.carried) where
  pub written_m : r ≡ read_register (part (8 + 8 * (n * 0 + i)) 8 b)
      → a ≡ same_register (register_value r) (filled (flag_of 1) f.island (to_z w32 (of_z w32 f.carried)))
      → a ≡ own_written n i b (reading_of turn_m f)
  unfolding array row_of entry flag_of
  written_m = written turn_m n i b f r 0 1 f.island a h refl refl

  module _ (c : ℕ) (place : c ≡ f.island) where
    pub written_a : r ≡ read_register (part (8 + 8 * (n * (1 + 2 * c) + i)) 8 b)
        → a ≡ same_register (register_value r) (filled (flag_of 1) 0 (to_z w32 (of_z w32 f.carried)))
        → a ≡ own_written n i b (reading_of turn_a f)
    unfolding array row_of entry flag_of
    written_a = written turn_a n i b f r (1 + 2 * c) 1 0 a h (ap (λ (c : ℕ). 1 + 2 * c) place) refl

    pub written_b : r ≡ read_register (part (8 + 8 * (n * (2 + 2 * c) + i)) 8 b)
        → a ≡ same_register (register_value r) (filled (flag_of f.flag) 0 (to_z w32 (of_z w32 f.carried)))
        → a ≡ own_written n i b (reading_of (turn_b (flag_of f.flag)) f)
    unfolding array row_of entry
    written_b = written (turn_b (flag_of f.flag)) n i b f r (2 + 2 * c) f.flag 0 a h (ap (λ (c : ℕ). 2 + 2 * c) place) refl

-- where that register stands
module _ (n k i c : ℕ) (b : List ℕ) (e : length b ≡ board_length n k) (h : i < n) where
  pub place_m : 16 + 8 * i ≤ length b
  unfolding board_length
  place_m = omega arith

  pub place_a : c < k → 8 + 8 * (n * (1 + 2 * c) + i) + 8 ≤ length b
  unfolding register_at row_of InBoard
  place_a l = omega (arith, register_fits n k (in_a c) i l h)

  pub place_b : c < k → 8 + 8 * (n * (2 + 2 * c) + i) + 8 ≤ length b
  unfolding register_at row_of InBoard
  place_b l = omega (arith, register_fits n k (in_b c) i l h)

pub ruleset held = (held_tests, same_bits)
