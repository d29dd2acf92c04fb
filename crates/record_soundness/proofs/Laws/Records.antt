-- A record of a board by the tests that the code makes: the bytes without a field, the fields, the counts, the own
-- register.
-- Relies on the layout, the model's laws of a record's parts and codec's of reads; the proofs of records rely on it.
use Rattle.model.proofs.Kit.{◌≡◌, refl, sym, ap, subst, ◌∙◌, Bool, true, false, ◌&&◌, List, [], ◌∷◌, ℕ, suc, ◌+◌, ◌≤◌}
use Rattle.model.proofs.Kit.{◌<◌, le-ltb, leb, leb→le, le-leb, eq-eqb, eqb→eq, eqb, lit≤, T, length, replicate, w8, w64, Fits, mul-le-mul}
use Rattle.model.proofs.Kit.{◌*◌, lit<, add-zero, lt_of_not-le, arith}
use native.Mathlib.Decide.{dec_le}
use Rattle.model.specs.declared.Record.{Record}
use Rattle.model.specs.Bytes.{byte, number, part, zeros}
use Rattle.model.specs.Layout.{board_length, record_at, record_of, read_record, lay_record, record_value, gap_at, gap}
use Rattle.model.specs.Layout.{tail_at, tail, met_at}
use Rattle.model.specs.Sound.{phase_known, position_inside, island_inside, best_inside, flag_known, rest_zero, idle_zero}
use Rattle.model.specs.Sound.{collect_zero, best_island_zero, best_zero, seen_known}
use Rattle.model.specs.Sound.{fields_sound, own_written, own_passed, steps_kept, most_met, met_kept}
use Rattle.model.specs.Sound.{record_sound}
use Rattle.model.proofs.Board.Codec.{length_record, steps_back}
use Rattle.model.proofs.Basics.Numbers.{Bytes, number_digits}
use Rattle.model.proofs.Basics.Tests.{both, and_false, and_l, and_r, and_i, true-T, T_true, no-T, zeros_is}
use Rattle.model.proofs.Basics.Tests.{implies_use}
use Rattle.record_soundness.specs.Groups.{laid, met_pair, own_kept}
use Rattle.record_soundness.proofs.Laws.Chains.{decided, regrouped}
use Rattle.record_soundness.proofs.Laws.Chains as chains
use Rattle.model.proofs.Basics.Loops.{every_none, every_more, every_fails}
use Rattle.record_soundness.proofs.Laws.Counts.{most_met_lem, pair_low, pair_high}
use Rattle.model.proofs.Basics.Parts.{part-Bytes, listed, part_listed}
use Rattle.model.proofs.Basics.Splices.{length_part, byte_part}
use Rattle.model.proofs.Board.Canon.{laid_fields}
use Rattle.model.proofs.Board.Places.{record_inside}
use Rattle.model.proofs.Board.Fresh.{zero_sound}
use Rattle.figures.proofs.Laws.Zeros.{and_true, zeros_join}
use Rattle.codec.proofs.Laws.Reads.{part_part}

-- ---- one clause that fails
module _ (n K phase : ℕ) (r : List ℕ) where
  inside : Bool
  inside = phase_known phase r && position_inside phase r n

  flagged : Bool
  flagged = inside && island_inside phase r K && best_inside phase r K && flag_known phase r

  fields_island : island_inside phase r K ≡ false → false ≡ fields_sound n K phase r
  unfolding fields_sound inside
  fields_island e =
      ap
      (λ (x : Bool).
      x && best_inside phase r K && flag_known phase r && rest_zero phase r && idle_zero phase r && collect_zero phase r
      && best_island_zero phase r
      && best_zero phase r && seen_known phase r)
      (sym (and_false inside) ∙ ap (λ (y : Bool). inside && y) (sym e))

  pub fields_rest : rest_zero phase r ≡ false → false ≡ fields_sound n K phase r
  unfolding fields_sound flagged inside
  fields_rest e =
      ap (λ (x : Bool). x && idle_zero phase r && collect_zero phase r && best_island_zero phase r && best_zero phase r
      && seen_known phase r)
      (sym (and_false flagged) ∙ ap (λ (y : Bool). flagged && y) (sym e))

-- what passes has a known phase
pub phase_inside : (n K : ℕ) (f : Record) → fields_sound n K f.phase (lay_record f) ≡ true → f.phase ≤ 8
unfolding fields_sound phase_known
phase_inside n K f e =
    let t = true-T (fields_sound n K f.phase (lay_record f)) e in
    leb→le f.phase 8 (search (and_l, and_r) depth 12)

-- and zeros where no collect is under way
pub collect_rests : (n K : ℕ) (f : Record) → fields_sound n K f.phase (lay_record f) ≡ true
    → laid collect_zero f ≡ true
unfolding fields_sound
collect_rests n K f e =
    let t = true-T (fields_sound n K f.phase (lay_record f)) e in T_true _ (search (and_l, and_r) depth 12)

-- and zero in the byte behind what it has met
gap_kept : (n K phase : ℕ) (r : List ℕ) → T (fields_sound n K phase r) → T (zeros (part gap_at gap r))
unfolding fields_sound rest_zero
gap_kept n K phase r t = search (and_l, and_r) depth 14

-- and counts no step while it is idle
pub idle_none : (n K : ℕ) (f : Record) → fields_sound n K f.phase (lay_record f) ≡ true → f.steps < 65536
    → f.phase ≡ 0 → f.steps ≡ 0
unfolding fields_sound idle_zero read_record number part
idle_none n K f e few z =
    let t = true-T (fields_sound n K f.phase (lay_record f)) e in
    let all = implies_use (eqb f.phase 0) (zeros (lay_record f)) (search (and_l, and_r) depth 12)
    (true-T _ (eq-eqb f.phase 0 z)) in
    sym (number_digits 2 f.steps few) ∙ sym (steps_back f)
    ∙ ap (λ (l : List ℕ). (read_record l).steps)
    (zeros_is (lay_record f) all ∙ ap (λ (k : ℕ). replicate k 0) (length_record f))

pub island_inside_lem : (n K : ℕ) (f : Record) → fields_sound n K f.phase (lay_record f) ≡ true → f.island < K
unfolding island_inside lay_record
island_inside_lem n K f e = go (dec_le K f.island)
  where
    go : Dec (K ≤ f.island) → f.island < K
    go (yes h) =
        let q = fields_island n K f.phase (lay_record f) (le-ltb f.island K h) in
        let z : ◌≡◌ {A = ℕ} 0 1 = cc in
        omega arith
    go (no g) = lt_of_not-le g

-- ---- bytes
all_bytes : (l : List ℕ) → ((j : ℕ) → Fits w8 (byte l j)) → Bytes l
unfolding Bytes
all_bytes [] h = tt
all_bytes (x ∷ xs) h = ((h 0).fits, all_bytes xs (λ j. h (suc j)))

-- ---- a record's 24 bytes as three cells
pub three_cells : (b : List ℕ) (at : ℕ)
    → zeros (part at 24 b) ≡ zeros (part at 8 b) && zeros (part (at + 8) 8 b) && zeros (part (at + 16) 8 b)
three_cells b at = zeros_join b at 16 8 ∙ ap (λ (x : Bool). x && zeros (part (at + 16) 8 b)) (zeros_join b at 8 8)

-- ---- the record of station index i, which stands at `at`
pub record Placed (n k i at : ℕ) (b : List ℕ) : Type 0 where
  pub len : length b ≡ board_length n k
  pub station : i < n
  pub place : at ≡ record_at n k i

module _ {n k i at : ℕ} {b : List ℕ} (p : Placed n k i at b) where
  pub record_place : at + 24 ≤ length b
  record_place = omega (arith, record_inside n k i p.station)

  here : part at 24 b ≡ record_of n k i b
  unfolding record_of
  here = ap (λ (x : ℕ). part x 24 b) p.place

  -- of an idle station nothing but the zeros is asked
  pub idle_form : 0 < k → byte b at ≡ 0 → (r : Bool) → r ≡ zeros (part at 24 b)
      → r ≡ record_sound n k i b (record_of n k i b)
  unfolding record_sound fields_sound idle_zero
  idle_form positive e r h = h ∙ ap zeros here ∙ both _ _ made used
    where
      phase : byte (record_of n k i b) 0 ≡ 0
      phase =
          ap (λ (l : List ℕ). byte l 0) (sym here) ∙ byte_part at 24 b 0 (lit< tt)
          ∙ ap (byte b) (add-zero at) ∙ e

      made : T (zeros (record_of n k i b)) → T (record_sound n k i b (record_of n k i b))
      made t =
          true-T _
          (ap (record_sound n k i b)
          (zeros_is (record_of n k i b) t
          ∙ ap (λ (x : ℕ). replicate x 0) (ap length (sym here) ∙ length_part at 24 b record_place))
          ∙ zero_sound n k (omega (arith, p.station)) positive i b)

      used : T (record_sound n k i b (record_of n k i b)) → T (zeros (record_of n k i b))
      used t =
          implies_use (eqb (byte (record_of n k i b) 0) 0) (zeros (record_of n k i b)) (search (and_l, and_r) depth 14)
          (true-T _ (eq-eqb (byte (record_of n k i b) 0) 0 phase))

  pub not_idle_lem : (byte b at ≡ 0 → ⊥) → (f : Record) → f ≡ read_record (part at 24 b) → 0 < f.phase
  unfolding read_record
  not_idle_lem ne f read =
      let phase : f.phase ≡ byte b at
      = ap (λ (x : Record). x.phase) read ∙ byte_part at 24 b 0 (lit< tt) ∙ ap (byte b) (add-zero at) in
      lt_of_not-le (λ (h : f.phase ≤ 0). ne (sym phase ∙ omega arith))

  fails : fields_sound n k (byte (record_of n k i b) 0) (record_of n k i b) ≡ false
      → false ≡ record_sound n k i b (record_of n k i b)
  unfolding record_sound
  fails q =
      sym (no-T _ (λ (t : T (record_sound n k i b (record_of n k i b))). let f : T (fields_sound n k
      (byte (record_of n k i b) 0) (record_of n k i b)) = search (and_l, and_r) in subst T q f))

  zeros_in : (o len : ℕ) → o + len ≤ 24 → zeros (part (at + o) len b) ≡ zeros (part o len (record_of n k i b))
  zeros_in o len h = ap zeros (part_part at 24 o len b record_place h ∙ ap (part o len) here)

  rest : rest_zero (byte (record_of n k i b) 0) (record_of n k i b) ≡ false
      → false ≡ record_sound n k i b (record_of n k i b)
  rest q = fails (sym (fields_rest n k (byte (record_of n k i b) 0) (record_of n k i b) q))

  -- the one byte of the gap
  gap_byte : zeros (part (at + gap_at) gap b) ≡ eqb (byte b (at + gap_at)) 0
  unfolding listed zeros
  gap_byte =
      ap zeros (part_listed (at + gap_at) gap b (omega (arith, record_place)))
      ∙ sym (and_true _) ∙ ap (λ (x : ℕ). eqb (byte b x) 0) (add-zero (at + gap_at))

  tail_fails : zeros (part (at + tail_at) tail b) ≡ false → false ≡ record_sound n k i b (record_of n k i b)
  unfolding rest_zero
  tail_fails q =
      rest (ap (λ (x : Bool). zeros (part gap_at gap (record_of n k i b)) && x)
      (sym (zeros_in tail_at tail (lit≤ tt)) ∙ q)
      ∙ and_false (zeros (part gap_at gap (record_of n k i b))))

  module _ (bytes : (j : ℕ) → Fits w8 (byte b j)) (f : Record) (read : f ≡ read_record (part at 24 b))
      (back : zeros (part (at + tail_at) tail b) ≡ true) where
    same : f ≡ read_record (record_of n k i b)
    same = read ∙ ap read_record here

    met_read_lem : f.met ≡ byte b (at + met_at)
    unfolding read_record
    met_read_lem = ap (λ (g : Record). g.met) read ∙ byte_part at 24 b met_at (lit< tt)

    position_low : f.position < 256
    unfolding read_record
    position_low =
        omega (arith, ap (λ (g : Record). g.position) read ∙ byte_part at 24 b 1 (lit< tt), (bytes (at + 1)).fits)

    module _ (front : byte b (at + gap_at) ≡ 0) where
      whole : record_of n k i b ≡ lay_record f
      unfolding rest_zero
      whole =
          sym (laid_fields (record_of n k i b) (ap length (sym here) ∙ length_part at 24 b record_place)
          (subst Bytes here (part-Bytes at 24 b (all_bytes b bytes)))
          (and_i (zeros (part gap_at gap (record_of n k i b))) (zeros (part tail_at tail (record_of n k i b)))
          (true-T _ (sym (zeros_in gap_at gap (lit≤ tt)) ∙ gap_byte ∙ eq-eqb (byte b (at + gap_at)) 0 front))
          (true-T _ (sym (zeros_in tail_at tail (lit≤ tt)) ∙ back))))
          ∙ ap lay_record (sym same)

      fields_is : fields_sound n k f.phase (lay_record f)
          ≡ fields_sound n k (byte (record_of n k i b) 0) (record_of n k i b)
      unfolding lay_record
      fields_is = sym (λ q. fields_sound n k (byte (whole q) 0) (whole q))

      -- of a sound record the position is the most that it may have met
      most_is : fields_sound n k f.phase (lay_record f) ≡ true → most_met (record_value f) ≡ f.position
      most_is q = most_met_lem f (phase_inside n k f q) (collect_rests n k f q)

    pair_fails : leb (met_pair at b) f.position ≡ false → false ≡ record_sound n k i b (record_of n k i b)
    unfolding record_sound rest_zero met_kept
    pair_fails e =
        sym (no-T _ (λ (t : T (record_sound n k i b (record_of n k i b))).
        let sound : T (fields_sound n k (byte (record_of n k i b) 0) (record_of n k i b)) = search (and_l, and_r) in
        let gap_zero : T (zeros (part gap_at gap (record_of n k i b))) = gap_kept n k _ _ sound in
        let front : byte b (at + gap_at) ≡ 0 =
        eqb→eq _ 0 (subst T (sym (zeros_in gap_at gap (lit≤ tt)) ∙ gap_byte) gap_zero) in
        let kept : T (met_kept (read_record (record_of n k i b)).met (record_value (read_record (record_of n k i b)))) =
        search (and_l, and_r) in
        let few : f.met ≤ most_met (record_value f) =
        leb→le f.met (most_met (record_value f)) (subst (λ (g : Record). T (leb g.met (most_met (record_value g)))) (sym same) kept) in
        let most = most_is front (fields_is front ∙ T_true _ sound) in
        true-T _ (sym e ∙ pair_high b at record_place f.position front (omega (arith, met_read_lem, few, most)))))

    module _ (pass : leb (met_pair at b) f.position ≡ true) where
      front : byte b (at + gap_at) ≡ 0
      front = (pair_low b at record_place f.position position_low pass).0

      fields_fail : fields_sound n k f.phase (lay_record f) ≡ false
          → false ≡ record_sound n k i b (record_of n k i b)
      fields_fail q = fails (sym (fields_is front) ∙ q)

      steps_fail : steps_kept n f.steps (record_value f) ≡ false
          → false ≡ record_sound n k i b (record_of n k i b)
      unfolding record_sound
      steps_fail q =
          sym (no-T _ (λ (t : T (record_sound n k i b (record_of n k i b))). let kept : T (steps_kept n
          (read_record (record_of n k i b)).steps (record_value (read_record (record_of n k i b)))) = search (and_l, and_r) in
          subst T (ap (λ (g : Record). steps_kept n g.steps (record_value g)) (sym same) ∙ q) kept))

      met_passes : fields_sound n k f.phase (lay_record f) ≡ true → met_kept f.met (record_value f) ≡ true
      unfolding met_kept
      met_passes q =
          le-leb f.met (most_met (record_value f))
          (omega (arith, met_read_lem, most_is front q, (pair_low b at record_place f.position position_low pass).1))

      record_form : (a : Bool) → fields_sound n k f.phase (lay_record f) ≡ true
          → steps_kept n f.steps (record_value f) ≡ true
          → a ≡ own_written n i b (record_value f) && own_passed i (record_value f)
          → a ≡ record_sound n k i b (record_of n k i b)
      unfolding record_sound
      record_form a q c h =
          h ∙ and_true _ ∙ and_true _
          ∙ (λ s. own_written n i b (record_value f) && own_passed i (record_value f) && sym c s && sym (met_passes q) s)
          ∙ (λ s. let g = same s in (sym q ∙ fields_is front) s && own_written n i b (record_value g)
          && own_passed i (record_value g) && steps_kept n g.steps (record_value g) && met_kept g.met (record_value g))

  -- the tests of the code one after another
  pub record_tests : ((j : ℕ) → Fits w8 (byte b j)) → (f : Record) → f ≡ read_record (part at 24 b)
      → zeros (part (at + tail_at) tail b) && leb (met_pair at b) f.position && fields_sound n k f.phase (lay_record f)
      && steps_kept n f.steps (record_value f) && own_kept n i b (record_value f)
      ≡ record_sound n k i b (record_of n k i b)
  record_tests bytes f read =
      regrouped (zeros (part (at + tail_at) tail b)) (leb (met_pair at b) f.position)
      (fields_sound n k f.phase (lay_record f)) (steps_kept n f.steps (record_value f)) (own_kept n i b (record_value f))
      ∙ decided _ _ _ tail_fails (λ back. decided _ _ _ (pair_fails bytes f read back)
      (λ pass. decided _ _ _ (fields_fail bytes f read back pass)
      (λ sound. decided _ _ _ (steps_fail bytes f read back pass)
      (λ few. record_form bytes f read back pass _ sound few refl))))

-- the record of index i, from the place of the first
pub record_next : (n k i at : ℕ) → at ≡ record_at n k 0 → at + 24 * i ≡ record_at n k i
unfolding record_at
record_next n k i at e = omega arith

pub next_fits : (n k i at : ℕ) → at ≡ record_at n k 0 → n ≤ 16 → k ≤ 64 → i < n → Fits w64 (at + 24 * i)
unfolding record_at
next_fits n k i at e hn hk h = record { fits = omega (arith, mul-le-mul hn hk) }

pub ruleset each = (every_none, every_more, every_fails, chains.no, chains.yes, record_next, next_fits)
