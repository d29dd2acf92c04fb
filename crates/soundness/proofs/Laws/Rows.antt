-- A register by the tests that the code makes, and the board's head.
-- Relies on Zeros and on codec's laws of parts; the proofs of registers and of head_sound rely on it.
use Rattle.model.proofs.Kit.{◌≡◌, refl, sym, ap, ◌∙◌, Bool, true, false, ◌&&◌, not, List, ℕ, suc, ◌+◌, ◌-◌, ◌≤◌, ◌<◌}
use Rattle.model.proofs.Kit.{◌*◌, lt-leb, eq-eqb, ne_eqb, eqb, leb, ltb, le→leb, leb→le, lit<}
use Rattle.model.proofs.Kit.{T, lit≤, ltb→lt, lt→ltb, length, ℕ_discrete, add-zero, arith}
use native.Mathlib.Nat.{mul-zero, mul-one, mul-suc}
use Rattle.model.specs.Bytes.{byte, number, part, zeros, every}
use Rattle.model.specs.Listing.{Array, in_m, in_a, in_b}
use Rattle.model.specs.Layout.{board_length, row_of, register_at}
use Rattle.model.specs.Sound.{register_sound, head_sound, array_sound, registers_sound}
use Rattle.model.proofs.Basics.Tests.{and_l, and_r, and_i, true-T, both}
use Rattle.model.proofs.Basics.Parts.{zero_at_lem}
use Rattle.model.proofs.Board.Places.{InBoard, register_fits}
use Rattle.figures.proofs.Laws.Signs.{word_read}
use Rattle.figures.proofs.Laws.Zeros.{zeros_join, word_zero, pair_second}
use Rattle.codec.proofs.Laws.Reads.{part_part, first_byte, byte_at}
use Rattle.record_soundness.proofs.Laws.Chains as chains
use Rattle.record_soundness.proofs.Laws.Chains.{cond_yes, cond_no}
use Rattle.model.proofs.Basics.Loops.{every_none, every_more}

module _ (marks islands : ℕ) (b : List ℕ) (at : ℕ) (h : at + 8 ≤ length b) where
  mark : byte b at ≡ byte (part at 8 b) 0
  mark = first_byte at 8 b (lit< tt)

  filled : Bool
  filled = leb (byte (part at 8 b) 0) marks && ltb (byte (part at 8 b) 1) islands && zeros (part 2 2 (part at 8 b))

  register_empty : byte b at ≡ 0 → zeros (part at 8 b) ≡ register_sound marks islands (part at 8 b)
  unfolding register_sound filled
  register_empty e =
      cond_yes (eqb (byte (part at 8 b) 0) 0) (zeros (part at 8 b)) filled
      (eq-eqb (byte (part at 8 b) 0) 0 (sym mark ∙ e))

  register_filled : (byte b at ≡ 0 → ⊥)
      → leb (byte b at) marks && ltb (byte b (at + 1)) islands && zeros (part (at + 2) 2 b)
      ≡ register_sound marks islands (part at 8 b)
  unfolding register_sound filled
  register_filled f =
      (λ i. leb (mark i) marks && ltb (byte_at at 8 b 1 (lit< tt) i) islands && zeros
      (part_part at 8 2 2 b h (lit≤ tt) i))
      ∙ cond_no (eqb (byte (part at 8 b) 0) 0) (zeros (part at 8 b)) filled
      (ne_eqb (byte (part at 8 b) 0) 0 (λ e. f (mark ∙ e)))

  -- a register whose first byte is zero, and another byte is not
  stray : byte b at ≡ 0 → zeros (part at 8 b) ≡ false → false ≡ register_sound marks islands (part at 8 b)
  stray z e = sym e ∙ register_empty z

  pub cell_empty : (r : Bool) → r ≡ zeros (part at 8 b) → r ≡ true → r ≡ register_sound marks islands (part at 8 b)
  cell_empty r e q =
      let z = zero_at_lem at 8 b h (true-T (zeros (part at 8 b)) (sym e ∙ q)) 0 (lit< tt) in
      e ∙ register_empty (sym (ap (byte b) (add-zero at)) ∙ z)

  -- the first four bytes as one number
  module _ (word : ℕ) (e : word ≡ number (part at 4 b)) where
    its_bytes : word ≡ byte b at + 256 * byte b (at + 1) + 65536 * byte b (at + 2) + 16777216 * byte b (at + 3)
    its_bytes =
        e ∙ sym (word_read b at (byte b at) (byte b (at + 1)) (byte b (at + 2)) (byte b (at + 3))
        (omega arith) refl refl refl refl)

    next : at + 2 + 1 ≡ at + 3
    next = omega arith

    pub word_empty : word ≡ 0 → (r : Bool) → r ≡ zeros (part (at + 4) 4 b)
        → r ≡ register_sound marks islands (part at 8 b)
    word_empty z r er =
        er ∙ ap (λ (t : Bool). t && zeros (part (at + 4) 4 b)) (sym (eq-eqb word 0 z) ∙ word_zero word (part at 4 b) e)
        ∙ sym (zeros_join b at 4 4)
        ∙ register_empty (omega (arith, its_bytes))

    word_not_empty : (word ≡ 0 → ⊥) → zeros (part at 8 b) ≡ false
    word_not_empty f =
        zeros_join b at 4 4
        ∙ ap (λ (t : Bool). t && zeros (part (at + 4) 4 b)) (sym (word_zero word (part at 4 b) e) ∙ ne_eqb word 0 f)

    -- a filled register whose island is zero is its mark
    module _ (small : marks ≤ 255) (one : islands ≡ 1) (f : word ≡ 0 → ⊥) where
      low : Bool
      low = leb (byte b at) marks

      inside : Bool
      inside = ltb (byte b (at + 1)) islands

      rest : Bool
      rest = zeros (part (at + 2) 2 b)

      forth : T (leb word marks) → T (low && inside && rest)
      unfolding low inside rest
      forth l =
          let small_word = leb→le word marks l in
          let y : byte b (at + 1) ≡ 0 = omega (arith, its_bytes) in
          let z : byte b (at + 2) ≡ 0 = omega (arith, its_bytes) in
          let w : byte b (at + 2 + 1) ≡ 0 = omega (arith, its_bytes, ap (byte b) next) in
          and_i (low && inside) rest (and_i low inside (le→leb (byte b at) marks (omega (arith, its_bytes)))
          (lt→ltb (byte b (at + 1)) islands (omega arith)))
          (true-T rest (sym (pair_second b (at + 2) (omega arith) z) ∙ eq-eqb (byte b (at + 2 + 1)) 0 w))

      back : T (low && inside && rest) → T (leb word marks)
      unfolding low inside rest
      back t =
          let m = leb→le (byte b at) marks (and_l low inside (and_l (low && inside) rest t)) in
          let y = ltb→lt (byte b (at + 1)) islands (and_r low inside (and_l (low && inside) rest t)) in
          let z = zero_at_lem (at + 2) 2 b (omega arith) (and_r (low && inside) rest t) in
          le→leb word marks (omega (
            arith,
            its_bytes,
            z 0 (lit< tt),
            ap (byte b) (add-zero (at + 2)),
            z 1 (lit< tt),
            ap
                (byte b) next,
          ))

      pub word_mark : leb word marks ≡ register_sound marks islands (part at 8 b)
      unfolding low inside rest
      word_mark = go (ℕ_discrete (byte b at) 0)
        where
          go : Dec (byte b at ≡ 0) → leb word marks ≡ register_sound marks islands (part at 8 b)
          go (yes z) = lt-leb word marks (omega (arith, its_bytes)) ∙ stray z (word_not_empty f)
          go (no g) = both (leb word marks) (low && inside && rest) forth back ∙ register_filled g

    -- a word that is no mark of its row, where the island is zero
    pub unmarked : marks ≤ 255 → islands ≡ 1 → not (eqb word 0) && leb word marks ≡ false → (r : Bool)
        → r ≡ zeros (part at 8 b) → r ≡ register_sound marks islands (part at 8 b)
    unmarked small one q r er = er ∙ go (ℕ_discrete word 0)
      where
        go : Dec (word ≡ 0) → zeros (part at 8 b) ≡ register_sound marks islands (part at 8 b)
        go (yes z) = register_empty (omega (arith, its_bytes))
        go (no f) =
            word_not_empty f
            ∙ sym (ap (λ (t : Bool). not t && leb word marks) (sym (ne_eqb word 0 f)) ∙ q)
            ∙ word_mark small one f

-- of a register that is not all zero, the tests of the three bytes one after another, with the mark's own first
pub cell_by_bytes : (marks islands : ℕ) (b : List ℕ) (at : ℕ) → at + 8 ≤ length b → (r : Bool) → r ≡ zeros (part at 8 b)
    → r ≡ false → register_sound marks islands (part at 8 b)
    ≡ not (eqb (byte b at) 0) && leb (byte b at) marks && ltb (byte b (at + 1)) islands && zeros (part (at + 2) 2 b)
cell_by_bytes marks islands b at h r e f = sym (go (ℕ_discrete (byte b at) 0))
  where
    tests : Bool → Bool
    tests t = not t && leb (byte b at) marks && ltb (byte b (at + 1)) islands && zeros (part (at + 2) 2 b)

    go : Dec (byte b at ≡ 0) → tests (eqb (byte b at) 0) ≡ register_sound marks islands (part at 8 b)
    go (yes z) = ap tests (eq-eqb (byte b at) 0 z) ∙ stray marks islands b at h z (sym e ∙ f)
    go (no g) = ap tests (ne_eqb (byte b at) 0 g) ∙ register_filled marks islands b at h g

-- the same where it is known of the first four bytes alone
pub by_bytes : (marks islands : ℕ) (b : List ℕ) (at : ℕ) → at + 8 ≤ length b → (number (part at 4 b) ≡ 0 → ⊥)
    → register_sound marks islands (part at 8 b)
    ≡ not (eqb (byte b at) 0) && leb (byte b at) marks && ltb (byte b (at + 1)) islands && zeros (part (at + 2) 2 b)
by_bytes marks islands b at h f =
    cell_by_bytes marks islands b at h _ refl (word_not_empty marks islands b at h _ refl f)

-- the head's six zeros are two and four
pub head_form : (b : List ℕ) → head_sound b ≡ zeros (part 2 2 b) && zeros (part 4 4 b)
unfolding head_sound
head_form b = zeros_join b 2 2 4

-- ---- rows of n registers
-- one row after another
row_step : (n r s : ℕ) → s ≡ suc r → 8 + 8 * (n * r + 0) + 8 * n ≡ 8 + 8 * (n * s + 0)
row_step n r s e = omega (arith, mul-suc n r, ap (λ (x : ℕ). n * x) e)

pub first_row : (n : ℕ) → 8 + 8 * n ≡ register_at n (in_a 0) 0
unfolding register_at row_of
first_row n = omega (arith, mul-one n)

row_b : (n c start : ℕ) → start ≡ register_at n (in_a c) 0 → start + 8 * n ≡ register_at n (in_b c) 0
unfolding register_at row_of
row_b n c start e = ap (λ (x : ℕ). x + 8 * n) e ∙ row_step n (1 + 2 * c) (2 + 2 * c) (omega arith)

pub next_rows : (n c start : ℕ) → start ≡ register_at n (in_a c) 0 → start + 8 * n + 8 * n ≡ register_at n (in_a (c + 1)) 0
unfolding register_at row_of
next_rows n c start e =
    ap (λ (x : ℕ). x + 8 * n) (row_b n c start e) ∙ row_step n (2 + 2 * c) (1 + 2 * (c + 1)) (omega arith)

row_inside : (n k : ℕ) (b : List ℕ) (a : Array) (start : ℕ) → length b ≡ board_length n k → 1 ≤ n → InBoard k a
    → start ≡ register_at n a 0
    → start + 8 * n ≤ length b
unfolding register_at
row_inside n k b a start l h in-board e = omega (arith, register_fits n k a (n - 1) in-board (omega arith))

row_is : (n marks islands : ℕ) (b : List ℕ) (a : Array) (start : ℕ) → start ≡ register_at n a 0
    → every n (λ j. register_sound marks islands (part (start + 8 * j) 8 b)) ≡ array_sound n marks islands b a
unfolding array_sound register_at
row_is n marks islands b a start e = λ i. every n (λ j. register_sound marks islands (part (place j i) 8 b))
  where
    place : (j : ℕ) → start + 8 * j ≡ 8 + 8 * (n * row_of a + j)
    place j = omega arith

row_m : (n : ℕ) → 8 ≡ register_at n in_m 0
unfolding register_at row_of
row_m n = omega (arith, mul-zero n)

array_m : (n k : ℕ) (b : List ℕ) → every n (λ j. register_sound 1 k (part (8 + 8 * j) 8 b)) ≡ array_sound n 1 k b in_m
array_m n k b = row_is n 1 k b in_m 8 (row_m n)

pub rows_form : (n k : ℕ) (b : List ℕ)
    → registers_sound n k b
    ≡ every n (λ j. register_sound 1 k (part (8 + 8 * j) 8 b))
    && every k (λ c. array_sound n 1 1 b (in_a c) && array_sound n 2 1 b (in_b c))
unfolding registers_sound
rows_form n k b =
    sym (ap (λ (t : Bool). t && every k (λ c. array_sound n 1 1 b (in_a c) && array_sound n 2 1 b (in_b c))) (array_m n k b))

-- the rows of island c, A from `start` on and B after it
pub record Rows (n k c start : ℕ) (b : List ℕ) : Type 0 where
  pub len : length b ≡ board_length n k
  pub some : 1 ≤ n
  pub island : c < k
  pub place : start ≡ register_at n (in_a c) 0

module _ {n k c start : ℕ} {b : List ℕ} (p : Rows n k c start b) where
  pub a_inside : start + 8 * n ≤ length b
  unfolding InBoard
  a_inside = row_inside n k b (in_a c) start p.len p.some p.island p.place

  pub b_inside : start + 8 * n + 8 * n ≤ length b
  unfolding InBoard
  b_inside = row_inside n k b (in_b c) (start + 8 * n) p.len p.some p.island (row_b n c start p.place)

  pub array_a : every n (λ j. register_sound 1 1 (part (start + 8 * j) 8 b)) ≡ array_sound n 1 1 b (in_a c)
  array_a = row_is n 1 1 b (in_a c) start p.place

  pub array_b : every n (λ j. register_sound 2 1 (part (start + 8 * n + 8 * j) 8 b)) ≡ array_sound n 2 1 b (in_b c)
  array_b = row_is n 2 1 b (in_b c) (start + 8 * n) (row_b n c start p.place)

pub m_inside : (n k : ℕ) (b : List ℕ) → length b ≡ board_length n k → 8 + 8 * n ≤ length b
unfolding board_length
m_inside n k b l = omega arith

-- what each step has to show: of one register, of a row, of all
pub ruleset one = (word_empty, word_mark, unmarked, cell_empty, cell_by_bytes, by_bytes)

pub ruleset row = (every_none, every_more, chains.no, chains.yes)

pub ruleset all = (m_inside, rows_form)
