-- A board after a station's record or one register was put in: what each part of it then holds.
-- Relies on Splices, Places and Codec; that the calls keep a board sound relies on it, and the bridge to values.
use Rattle.model.proofs.Kit.{◌≡◌, sym, ap, ◌∙◌, ⊎_elim, ◌⊎◌, List, [], ◌∷◌, some, ℕ, ◌+◌, ◌≤◌, ◌<◌, length}
use Rattle.model.proofs.Kit.{arith}
use Rattle.model.specs.declared.Record.{Record}
use Rattle.model.specs.Bytes.{byte, part, splice}
use Rattle.model.specs.Figure.{Figure}
use Rattle.model.specs.Listing.{Register, Array, Station}
use Rattle.model.specs.Layout.{board_length, register_at, record_at, lay_record, record_fields, record_of, steps_is, met_is}
use Rattle.model.specs.Layout.{changed, put_changes}
use Rattle.model.specs.Calls.{put_record, put_register}
use Rattle.model.proofs.Basics.Splices.{length_splice, byte_before, part_same, part_before, part_after}
use Rattle.model.proofs.Basics.Splices.{splice_apart}
use Rattle.model.proofs.Board.Places.{InBoard, head_first, register_inside, record_inside, register_fits}
use Rattle.model.proofs.Board.Places.{head_before_records, records_apart, registers_apart}
use Rattle.model.proofs.Board.Changes.{all_put}
use Rattle.model.proofs.Board.Codec.{register_bytes, length_register, length_record, counts_beside, counts_stay}

-- the register of array a and station index j, as bytes
unfoldable pub register_part : (n : ℕ) → Array → (j : ℕ) → List ℕ → List ℕ
register_part n a j b = part (register_at n a j) 8 b

-- A splice of v at `at` leaves a part alone that lies before it or after it.
part_apart : (at : ℕ) (v b : List ℕ) (size : ℕ) → length v ≡ size → at + size ≤ length b → (from len : ℕ)
    → from + len ≤ length b
    → (from + len ≤ at) ⊎ (at + size ≤ from) → part from len (splice at v b) ≡ part from len b
part_apart at v b size e fits from len h s =
    ⊎_elim (λ (l : from + len ≤ at). part_before at v b (omega arith) from len l)
    (λ (l : at + size ≤ from). part_after at v b (omega arith) from len (omega arith) h) s

module _ (n K : ℕ) (b : List ℕ) (len : length b ≡ board_length n K) (i : ℕ) (own : i < n) (f : Record) where
  fits : record_at n K i + length (lay_record f) ≤ length b
  fits = omega (arith, record_inside n K i own, length_record f)

  pub record_length : length (put_record n K i f b) ≡ board_length n K
  unfolding put_record
  record_length = length_splice (record_at n K i) (lay_record f) b fits ∙ len

  pub record_head : (k : ℕ) → k < 8 → byte (put_record n K i f b) k ≡ byte b k
  unfolding put_record
  record_head k h = byte_before (record_at n K i) (lay_record f) b fits k (omega (arith, head_before_records n K i))

  pub record_before : (from size : ℕ) → from + size ≤ 8 → part from size (put_record n K i f b) ≡ part from size b
  unfolding put_record
  record_before from size h =
      part_before (record_at n K i) (lay_record f) b fits from size (omega (arith, head_before_records n K i))

  pub record_same : record_of n K i (put_record n K i f b) ≡ lay_record f
  unfolding put_record record_of
  record_same =
      ap (λ (k : ℕ). part (record_at n K i) k (splice (record_at n K i) (lay_record f) b)) (sym (length_record f))
      ∙ part_same (record_at n K i) (lay_record f) b fits

  pub record_other : (j : ℕ) → j < n → (i ≡ j → ⊥) → record_of n K j (put_record n K i f b) ≡ record_of n K j b
  unfolding put_record record_of
  record_other j h g =
      part_apart (record_at n K i) (lay_record f) b 24 (length_record f) (omega (arith, record_inside n K i own))
      (record_at n K j) 24
      (omega (arith, record_inside n K j h)) (records_apart n K j i (λ (e : j ≡ i). g (sym e)))

  pub record_register : (a : Array) (j : ℕ) → InBoard K a → j < n
      → register_part n a j (put_record n K i f b) ≡ register_part n a j b
  unfolding put_record register_part
  record_register a j h l =
      part_before (record_at n K i) (lay_record f) b fits (register_at n a j) 8 (register_inside n K a j i h l)

-- the records of two stations are put in in either order
pub records_commute : (n K : ℕ) (b : List ℕ) → length b ≡ board_length n K → (i j : ℕ) → i < n → j < n → (i ≡ j → ⊥)
    → (f g : Record) → put_record n K j g (put_record n K i f b) ≡ put_record n K i f (put_record n K j g b)
unfolding put_record
records_commute n K b len i j hi hj ne f g =
    ⊎_elim
    (λ (l : record_at n K i + 24 ≤ record_at n K j). splice_apart (record_at n K i) (lay_record f) (record_at n K j)
    (lay_record g) b (omega (arith, length_record f)) (fits n K b len j hj g))
    (λ (l : record_at n K j + 24 ≤ record_at n K i). sym (splice_apart (record_at n K j) (lay_record g) (record_at n K i)
    (lay_record f) b (omega (arith, length_record g)) (fits n K b len i hi f)))
    (records_apart n K i j ne)

-- other steps put into a station's record that was put in
pub steps_over : (n K : ℕ) (b : List ℕ) → length b ≡ board_length n K → (i : ℕ) → i < n
    → (s : Station Figure) (k : ℕ) (f : Record)
    → put_changes (steps_is k ∷ []) (record_at n K i) (put_record n K i (record_fields s f) b)
    ≡ put_record n K i (record_fields s (changed (steps_is k ∷ []) f)) b
unfolding put_record changed
steps_over n K b len i own s k f =
    all_put (record_at n K i) b (omega (arith, record_inside n K i own)) (steps_is k ∷ []) (record_fields s f)
    ∙ ap (λ (g : Record). splice (record_at n K i) (lay_record g) b)
    ((λ j. changed (steps_is k ∷ met_is ((counts_stay s f).1 j) ∷ []) (record_fields s f)) ∙ counts_beside s k f.met f)

module _ (n K : ℕ) (b : List ℕ) (len : length b ≡ board_length n K) (a : Array) (inside : InBoard K a) (i : ℕ)
    (own : i < n) (r : Register Figure) where
  fits_register : register_at n a i + length (register_bytes r) ≤ length b
  fits_register = omega (arith, register_fits n K a i inside own, length_register r)

  pub register_length : length (put_register n a i (some r) b) ≡ board_length n K
  unfolding put_register
  register_length = length_splice (register_at n a i) (register_bytes r) b fits_register ∙ len

  pub register_head : (k : ℕ) → k < 8 → byte (put_register n a i (some r) b) k ≡ byte b k
  unfolding put_register
  register_head k h =
      byte_before (register_at n a i) (register_bytes r) b fits_register k (omega (arith, head_first n K a i))

  pub register_before : (from size : ℕ) → from + size ≤ 8
      → part from size (put_register n a i (some r) b) ≡ part from size b
  unfolding put_register
  register_before from size h =
      part_before (register_at n a i) (register_bytes r) b fits_register from size (omega (arith, head_first n K a i))

  pub register_same : register_part n a i (put_register n a i (some r) b) ≡ register_bytes r
  unfolding put_register register_part
  register_same =
      ap (λ (k : ℕ). part (register_at n a i) k (splice (register_at n a i) (register_bytes r) b))
      (sym (length_register r))
      ∙ part_same (register_at n a i) (register_bytes r) b fits_register

  pub register_other : (c : Array) (j : ℕ) → InBoard K c → j < n → ((c ≡ a) × (j ≡ i) → ⊥)
      → register_part n c j (put_register n a i (some r) b) ≡ register_part n c j b
  unfolding put_register register_part
  register_other c j h l f =
      part_apart (register_at n a i) (register_bytes r) b 8 (length_register r)
      (omega (arith, register_fits n K a i inside own))
      (register_at n c j) 8 (omega (arith, register_fits n K c j h l)) (registers_apart n c j a i l own f)

  pub register_record : (j : ℕ) → j < n → record_of n K j (put_register n a i (some r) b) ≡ record_of n K j b
  unfolding put_register record_of
  register_record j h =
      part_after (register_at n a i) (register_bytes r) b fits_register (record_at n K j) 24
      (omega (arith, register_inside n K a i j inside own, length_register r)) (omega (arith, record_inside n K j h))
