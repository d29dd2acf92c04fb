-- Encoding after decoding is the identity on sound registers and records, bytes being bytes.
-- Relies on Codec, Numbers, Splices, Good and soundness's clauses; so a sound part has one meaning and one form.
use Rattle.model.proofs.Kit.{◌≡◌, refl, sym, ap, subst, ◌∙◌, Bool, false, cond, ◌&&◌, ◌||◌, ⊎_elim, List, []}
use Rattle.model.proofs.Kit.{◌∷◌, ◌++◌, ℕ, zero, suc, ◌+◌, ◌≤◌, eqb, leb, ltb, leb→le, T, eqb→eq, lit≤, pos}
use Rattle.model.proofs.Kit.{length, replicate, arith}
use mathlib.Core.Path.{subst⁻¹}
use lib.Dec.{eqb-suc-zero}
use Rattle.model.specs.Bytes.{byte, part, number, digits, zeros, implies}
use Rattle.model.specs.Figure.{Figure, figure, figure_bytes}
use Rattle.model.specs.Listing.{Flag, adopt, commit, filled, idle, Seen, nothing, flag_of, flag_number}
use Rattle.model.specs.Layout.{lay_register, read_register, register_fields, register_value, seen_number, best_island}
use Rattle.model.specs.Layout.{best_figure, seen_of, write_phase, flag_byte, read_record, lay_record, fields}
use Rattle.model.specs.Layout.{record_fields, record_value, writing_of, reading_of, of_phase, changed, phase_is}
use Rattle.model.specs.Layout.{position_is, seen_is, highest_is, flag_is, best_is, steps_at, gap_at, gap, tail_at, tail}
use Rattle.model.specs.Sound.{register_sound, collecting, phase_known, flag_known, rest_zero, idle_zero, collect_zero}
use Rattle.model.specs.Sound.{best_island_zero, best_zero, seen_known, fields_sound}
use Rattle.model.proofs.Board.Codec.{register_bytes, marked_by, register, station}
use Rattle.model.proofs.Basics.Tests.{and_l, and_r, or_case, zeros_is, implies_use}
use Rattle.model.proofs.Basics.Numbers.{Bytes, digits_number, bytes_figure}
use Rattle.model.proofs.Basics.Splices.{length_part}
use Rattle.model.proofs.Basics.Parts.{listed, part_listed, part_join, part_whole, part-Bytes, part_zeros}
use Rattle.model.proofs.Basics.Parts.{zero_at_lem}
use Rattle.model.proofs.Board.Good.{best_island_fact, seen_fact}

-- ---- registers

register_parts : (r : List ℕ) → length r ≡ 8 → r ≡ (byte r 0 ∷ byte r 1 ∷ byte r 2 ∷ byte r 3 ∷ []) ++ part 4 4 r
unfolding listed
register_parts r e =
    sym (part_whole r 8 e) ∙ part_join 0 4 4 r ∙ ap (λ (l : List ℕ). l ++ part 4 4 r) (part_listed 0 4 r (omega arith))

module _ (marks islands : ℕ) (low : marks ≤ 2) (r : List ℕ) (e : length r ≡ 8) (bytes : Bytes r) where
  filled_parts : (f : Flag) → byte r 0 ≡ flag_number f → T (zeros (part 2 2 r))
      → register_bytes (filled f (byte r 1) (figure (part 4 4 r))) ≡ r
  unfolding lay_register register_fields
  filled_parts f h z =
      (λ i. sym h i ∷ byte r 1 ∷ sym (zero_at_lem 2 2 r (omega arith) z 0 (lit≤ tt)) i
      ∷ sym (zero_at_lem 2 2 r (omega arith) z 1 (lit≤ tt)) i
      ∷ bytes_figure (part 4 4 r) (length_part 4 4 r (omega arith)) (part-Bytes 4 4 r bytes) i)
      ∙ sym (register_parts r e)

  at_mark : (h : ℕ) → byte r 0 ≡ h → T (register_sound marks islands r)
      → T (cond (eqb h 0) (zeros r) (leb h marks && ltb (byte r 1) islands && zeros (part 2 2 r)))
  unfolding register_sound
  at_mark h q t =
      subst (λ (m : ℕ). T (cond (eqb m 0) (zeros r) (leb m marks && ltb (byte r 1) islands && zeros (part 2 2 r)))) q t

  above_two : (k : ℕ) → byte r 0 ≡ suc (suc (suc k)) → T (register_sound marks islands r) → ⊥
  above_two k q t =
      let s = subst (λ (m : Bool). T
      (cond m (zeros r) (leb (suc (suc (suc k))) marks && ltb (byte r 1) islands && zeros (part 2 2 r))))
      (eqb-suc-zero (suc (suc k))) (at_mark (suc (suc (suc k))) q t) in
      let l = leb→le (suc (suc (suc k))) marks (search (and_l, and_r)) in
      omega arith

  marked : (h : ℕ) → byte r 0 ≡ h → T (register_sound marks islands r)
      → register_bytes (marked_by h (byte r 1) (figure (part 4 4 r))) ≡ r
  unfolding flag_of lay_register register_fields figure_bytes digits flag_number
  marked zero q t = sym (zeros_is r (at_mark 0 q t) ∙ ap (λ (k : ℕ). replicate k 0) e)
  marked (suc zero) q t = filled_parts adopt q (let s = at_mark 1 q t in search (and_l, and_r))
  marked (suc (suc zero)) q t = filled_parts commit q (let s = at_mark 2 q t in search (and_l, and_r))
  marked (suc (suc (suc k))) q t = absurd (above_two k q t)

  pub bytes_register : T (register_sound marks islands r) → register_bytes (register r) ≡ r
  unfolding register_value read_register
  bytes_register t = marked (byte r 0) refl t

-- ---- records

module _ (r : List ℕ) (e : length r ≡ 24) (bytes : Bytes r) where
  record_parts : r ≡ (byte r 0 ∷ byte r 1 ∷ byte r 2 ∷ byte r 3 ∷ byte r 4 ∷ byte r 5 ∷ byte r 6 ∷ byte r 7 ∷ [])
      ++ part 8 4 r ++ part 12 4 r ++ part 16 4 r ++ part 20 2 r ++ part 22 2 r
  unfolding listed
  record_parts =
      sym (part_whole r 24 e) ∙ part_join 0 22 2 r
      ∙ ap (λ (l : List ℕ). l ++ part 22 2 r)
      (part_join 0 20 2 r
      ∙ ap (λ (l : List ℕ). l ++ part 20 2 r)
      (part_join 0 16 4 r
      ∙ ap (λ (l : List ℕ). l ++ part 16 4 r)
      (part_join 0 12 4 r
      ∙ ap (λ (l : List ℕ). l ++ part 12 4 r)
      (part_join 0 8 4 r ∙ ap (λ (l : List ℕ). l ++ part 8 4 r) (part_listed 0 8 r (omega arith))))))

  figure_at_lem : (at : ℕ) → at + 4 ≤ 24 → figure_bytes (figure (part at 4 r)) ≡ part at 4 r
  figure_at_lem at h = bytes_figure (part at 4 r) (length_part at 4 r (omega arith)) (part-Bytes at 4 r bytes)

  steps_at_lem : digits 2 (number (part steps_at 2 r)) ≡ part steps_at 2 r
  steps_at_lem =
      rw (length_part steps_at 2 r (omega arith)) at (digits_number (part steps_at 2 r) (part-Bytes steps_at 2 r bytes))

  -- a record is its fields and zeros
  pub laid_fields : T (rest_zero (byte r 0) r) → lay_record (read_record r) ≡ r
  unfolding lay_record read_record rest_zero
  laid_fields z =
      (λ i. (byte r 0 ∷ byte r 1 ∷ byte r 2 ∷ byte r 3 ∷ byte r 4 ∷ byte r 5 ∷ byte r 6 ∷ seven i ∷ [])
      ++ figure_at_lem 8 (lit≤ tt) i ++ figure_at_lem 12 (lit≤ tt) i ++ figure_at_lem 16 (lit≤ tt) i ++ steps_at_lem i ++ last i)
      ∙ sym record_parts
    where
      front : T (zeros (part gap_at gap r))
      front = and_l (zeros (part gap_at gap r)) (zeros (part tail_at tail r)) z

      seven : 0 ≡ byte r 7
      seven = sym (zero_at_lem gap_at gap r (omega arith) front 0 (lit≤ tt))

      last : replicate tail 0 ≡ part tail_at tail r
      last =
          sym (part_zeros tail_at tail r (omega arith) (and_r (zeros (part gap_at gap r)) (zeros (part tail_at tail r)) z))

-- the fields that tell how a station stands, one by one
same_fields : (r : List ℕ) (phase p : ℕ) (a : Seen Figure) (flag : ℕ) → phase ≡ byte r 0 → p ≡ byte r 1
    → seen_number a ≡ byte r 3
    → best_island a ≡ byte r 4 → flag ≡ byte r 5 → best_figure a ≡ figure (part 16 4 r)
    → fields phase p (byte r 2) a flag (figure (part 8 4 r)) (figure (part 12 4 r)) (read_record r) ≡ read_record r
unfolding fields changed read_record
same_fields r phase p a flag e0 e1 e3 e4 e5 e16 =
    λ i. changed
    (phase_is (e0 i) ∷ position_is (e1 i) ∷ seen_is (e3 i) ∷ highest_is (e4 i) ∷ flag_is (e5 i) ∷ best_is (e16 i) ∷ [])
    (read_record r)

-- what the seen fields decode to encodes to them
seen_number_lem : (g k : ℕ) (y : Figure) → g ≤ 3 → seen_number (seen_of g k y) ≡ g
unfolding seen_of seen_number
seen_number_lem zero k y h = refl
seen_number_lem (suc zero) k y h = refl
seen_number_lem (suc (suc zero)) k y h = refl
seen_number_lem (suc (suc (suc g))) k y h = omega arith

best_island_lem : (g k : ℕ) (y : Figure) → (g ≡ 0 → k ≡ 0) → best_island (seen_of g k y) ≡ k
unfolding seen_of best_island
best_island_lem zero k y h = sym (h refl)
best_island_lem (suc zero) k y h = refl
best_island_lem (suc (suc zero)) k y h = refl
best_island_lem (suc (suc (suc g))) k y h = refl

best_figure_lem : (g k : ℕ) (y : Figure) → (g ≡ 0 → y ≡ pos 0) → best_figure (seen_of g k y) ≡ y
unfolding seen_of best_figure
best_figure_lem zero k y h = sym (h refl)
best_figure_lem (suc zero) k y h = refl
best_figure_lem (suc (suc zero)) k y h = refl
best_figure_lem (suc (suc (suc g))) k y h = refl

-- four zeros are the figure 0
figure_zero : (r : List ℕ) → length r ≡ 24 → T (zeros (part 16 4 r)) → figure (part 16 4 r) ≡ pos 0
unfolding figure number
figure_zero r e z = ap figure (part_zeros 16 4 r (omega arith) z)

flag_byte_lem : (k : ℕ) → T (eqb k 1 || eqb k 2) → flag_number (flag_of k) ≡ k
unfolding flag_of flag_number
flag_byte_lem zero t = absurd t
flag_byte_lem (suc zero) t = refl
flag_byte_lem (suc (suc k)) t =
    ⊎_elim (λ (s : T (eqb (suc (suc k)) 1)). absurd (omega (arith, eqb→eq (suc (suc k)) 1 s)))
    (λ (s : T (eqb (suc (suc k)) 2)). sym (eqb→eq (suc (suc k)) 2 s))
    (or_case (eqb (suc (suc k)) 1) (eqb (suc (suc k)) 2) t)

-- The clauses on zeros out of the conjunction, at a phase.
module _ (n K phase : ℕ) (r : List ℕ) (t : T (fields_sound n K phase r)) where
  known_fact : T (phase_known phase r)
  unfolding fields_sound
  known_fact = search (and_l, and_r) depth 12

  flag_fact : T (flag_known phase r)
  unfolding fields_sound
  flag_fact = search (and_l, and_r) depth 12

  rest_fact : T (rest_zero phase r)
  unfolding fields_sound
  rest_fact = search (and_l, and_r) depth 12

  idle_fact : T (idle_zero phase r)
  unfolding fields_sound
  idle_fact = search (and_l, and_r) depth 12

  collect_fact : T (collect_zero phase r)
  unfolding fields_sound
  collect_fact = search (and_l, and_r) depth 12

  best_zero_fact : T (best_zero phase r)
  unfolding fields_sound
  best_zero_fact = search (and_l, and_r) depth 12

-- a phase outside the collects
resting_fields : (n K phase : ℕ) (r : List ℕ) (e : length r ≡ 24) → phase ≡ byte r 0 → T (fields_sound n K phase r)
    → collecting phase r ≡ false → eqb phase 2 ≡ false → (flag : ℕ) → flag ≡ byte r 5
    → fields phase 0 (byte r 2) nothing flag (figure (part 8 4 r)) (figure (part 12 4 r)) (read_record r)
    ≡ read_record r
unfolding seen_number best_island best_figure collect_zero best_island_zero
resting_fields n K phase r e h t c m flag ef =
    same_fields r phase 0 nothing flag h (sym (eqb→eq (byte r 1) 0 (search (and_l, and_r, zero_parts))))
    (sym (eqb→eq (byte r 3) 0 (search (and_l, and_r, zero_parts))))
    (sym (eqb→eq (byte r 4) 0 island)) ef (sym (figure_zero r e (search (and_l, and_r, zero_parts))))
  where
    zero_parts : T (eqb (byte r 1) 0 && eqb (byte r 3) 0 && zeros (part 16 4 r))
    zero_parts =
        subst (λ (b : Bool). T (b || (eqb (byte r 1) 0 && eqb (byte r 3) 0 && zeros (part 16 4 r)))) c
        (collect_fact n K phase r t)

    island : T (eqb (byte r 4) 0)
    island = subst (λ (b : Bool). T (b || eqb (byte r 4) 0)) m (best_island_fact n K phase r t)

-- a phase in a collect
reading_fields : (n K phase : ℕ) (r : List ℕ) (e : length r ≡ 24) → phase ≡ byte r 0 → T (fields_sound n K phase r)
    → byte r 3 ≤ 3 → (flag : ℕ) → flag ≡ byte r 5
    → fields phase (byte r 1) (byte r 2) (seen_of (byte r 3) (byte r 4) (figure (part 16 4 r))) flag
    (figure (part 8 4 r)) (figure (part 12 4 r)) (read_record r) ≡ read_record r
unfolding best_zero
reading_fields n K phase r e h t s flag ef =
    same_fields r phase (byte r 1) (seen_of (byte r 3) (byte r 4) (figure (part 16 4 r))) flag h refl
    (seen_number_lem (byte r 3) (byte r 4) _ s)
    (best_island_lem (byte r 3) (byte r 4) _
    (λ z. eqb→eq (byte r 4) 0 (and_l (eqb (byte r 4) 0) (zeros (part 16 4 r)) (unseen z))))
    ef
    (best_figure_lem (byte r 3) (byte r 4) _
    (λ z. figure_zero r e (and_r (eqb (byte r 4) 0) (zeros (part 16 4 r)) (unseen z))))
  where
    unseen : byte r 3 ≡ 0 → T (eqb (byte r 4) 0 && zeros (part 16 4 r))
    unseen z =
        implies_use (eqb (byte r 3) 0) (eqb (byte r 4) 0 && zeros (part 16 4 r)) (best_zero_fact n K phase r t)
        (subst (λ (k : ℕ). T (eqb k 0)) (sym z) tt)

above_eight : (k : ℕ) → T (leb (suc (suc (suc (suc (suc (suc (suc (suc (suc k))))))))) 8) → ⊥
above_eight k t = omega (arith, leb→le (suc (suc (suc (suc (suc (suc (suc (suc (suc k))))))))) 8 t)

idle_fields : (r : List ℕ) → r ≡ replicate 24 0 → record_fields idle (read_record r) ≡ read_record r
unfolding read_record record_fields fields changed seen_number best_island best_figure part figure number
idle_fields r e = subst⁻¹ (λ (l : List ℕ). record_fields idle (read_record l) ≡ read_record l) e refl

-- by the phase
module _ (n K : ℕ) (r : List ℕ) (e : length r ≡ 24) where
  by_phase : (phase : ℕ) → phase ≡ byte r 0 → T (fields_sound n K phase r)
      → record_fields (of_phase phase (read_record r)) (read_record r) ≡ read_record r
  unfolding read_record record_fields of_phase writing_of reading_of write_phase flag_byte flag_known idle_zero seen_known
      implies phase_known collecting
  by_phase zero h t = idle_fields r (zeros_is r (idle_fact n K 0 r t) ∙ ap (λ (k : ℕ). replicate k 0) e)
  by_phase (suc zero) h t =
      resting_fields n K 1 r e h t refl refl 0 (sym (eqb→eq (byte r 5) 0 (flag_fact n K 1 r t)))
  by_phase (suc (suc zero)) h t =
      reading_fields n K 2 r e h t (omega (arith, leb→le (byte r 3) 1 (seen_fact n K 2 r t))) 0
      (sym (eqb→eq (byte r 5) 0 (flag_fact n K 2 r t)))
  by_phase (suc (suc (suc zero))) h t =
      resting_fields n K 3 r e h t refl refl 0 (sym (eqb→eq (byte r 5) 0 (flag_fact n K 3 r t)))
  by_phase (suc (suc (suc (suc zero)))) h t =
      reading_fields n K 4 r e h t (omega (arith, leb→le (byte r 3) 2 (seen_fact n K 4 r t))) 0
      (sym (eqb→eq (byte r 5) 0 (flag_fact n K 4 r t)))
  by_phase (suc (suc (suc (suc (suc zero))))) h t =
      resting_fields n K 5 r e h t refl refl _ (flag_byte_lem (byte r 5) (flag_fact n K 5 r t))
  by_phase (suc (suc (suc (suc (suc (suc zero)))))) h t =
      reading_fields n K 6 r e h t (leb→le (byte r 3) 3 (seen_fact n K 6 r t)) _
      (flag_byte_lem (byte r 5) (flag_fact n K 6 r t))
  by_phase (suc (suc (suc (suc (suc (suc (suc zero))))))) h t =
      resting_fields n K 7 r e h t refl refl 0 (sym (eqb→eq (byte r 5) 0 (flag_fact n K 7 r t)))
  by_phase (suc (suc (suc (suc (suc (suc (suc (suc zero)))))))) h t =
      resting_fields n K 8 r e h t refl refl 0 (sym (eqb→eq (byte r 5) 0 (flag_fact n K 8 r t)))
  by_phase (suc (suc (suc (suc (suc (suc (suc (suc (suc k))))))))) h t =
      absurd (above_eight k (known_fact n K (suc (suc (suc (suc (suc (suc (suc (suc (suc k))))))))) r t))

  pub fields_station : T (fields_sound n K (byte r 0) r) → record_fields (station r) (read_record r) ≡ read_record r
  unfolding record_value read_record
  fields_station t = by_phase (byte r 0) refl t

  -- and the fields to the bytes
  pub bytes_record : Bytes r → T (fields_sound n K (byte r 0) r) → lay_record (read_record r) ≡ r
  bytes_record bytes t = laid_fields r e bytes (rest_fact n K (byte r 0) r t)
