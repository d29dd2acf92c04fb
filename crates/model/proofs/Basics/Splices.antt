-- A part of a list of bytes after a splice: what was spliced in, or what stood there before. Two splices in either
-- order, and splices that are one: of no byte, of one byte, of two lists side by side, and of a list into one that was
-- put in before.
-- Relies on Bytes; the laws on boards and on lines that are written piece by piece rely on it.
use Rattle.model.proofs.Kit.{◌≡◌, sym, ap, ◌∙◌, List, [], ◌∷◌, ◌++◌, append_assoc, append-nil, ℕ, zero, suc, ◌+◌}
use Rattle.model.proofs.Kit.{◌-◌, ◌≤◌, ◌<◌, length, take, drop, length-drop, drop_of_length-le, set}
use Rattle.model.proofs.Kit.{length-append, take-append-drop, drop-drop, take_all, add-zero, zero-add, arith}
use Rattle.model.proofs.Kit.{ltb, ltb-true, ltb-false}
use native.Mathlib.Nat.{suc-add}
use lib.ListN.{length-take, get_or-append}
use lib.Seq.{length-take-le, take-append_seam, take-append-add, take-append-le, drop-append-add, drop-append-le}
use lib.Seq.{ext_get_or, get_or-take, get_or-drop, get_or-append-add, sets-eq, drop_at}
use Rattle.model.specs.Bytes.{byte, part, splice}
use Rattle.model.proofs.Basics.Tests.{by_test}

pub length_part : (at len : ℕ) (b : List ℕ) → at + len ≤ length b → length (part at len b) ≡ len
unfolding part
length_part at len b h = length-take-le len (drop at b) (omega (arith, length-drop at b))

pub byte_part : (at len : ℕ) (b : List ℕ) (i : ℕ) → i < len → byte (part at len b) i ≡ byte b (at + i)
unfolding part
byte_part at len b i h = get_or-take len (drop at b) i 0 h ∙ get_or-drop at b i 0

-- a part is the list that has its bytes
pub part_is : (at len : ℕ) (b l : List ℕ) → at + len ≤ length b → length l ≡ len
    → ((i : ℕ) → i < len → byte b (at + i) ≡ byte l i) → part at len b ≡ l
part_is at len b l h e f =
    ext_get_or 0 (part at len b) l (length_part at len b h ∙ sym e)
    (λ i k. let m : i < len = omega (arith, length_part at len b h) in byte_part at len b i m ∙ f i m)

-- A splice that fits, byte by byte.
module _ (at : ℕ) (v b : List ℕ) (fits : at + length v ≤ length b) where
  head_length : length (take at b) ≡ at
  head_length = length-take-le at b (omega arith)

  front_length : length (take at b ++ v) ≡ at + length v
  front_length = length-append (take at b) v ∙ rw head_length

  pub length_splice : length (splice at v b) ≡ length b
  unfolding splice
  length_splice = simp (length-append, length-take, length-drop) (omega arith)

  pub byte_before : (i : ℕ) → i < at → byte (splice at v b) i ≡ byte b i
  unfolding splice
  byte_before i h =
      get_or-append (take at b ++ v) (drop (at + length v) b) 0 i (omega (arith, front_length))
      ∙ get_or-append (take at b) v 0 i (omega (arith, head_length)) ∙ get_or-take at b i 0 h

  byte_after_lem : (j : ℕ) → at + length v ≤ j → byte (splice at v b) j ≡ byte b j
  unfolding splice
  byte_after_lem j h =
      let i : ℕ = j - (at + length v) in
      let inside : j ≡ length (take at b ++ v) + i = omega (arith, front_length) in
      rw (inside, get_or-append-add, get_or-drop, front_length)

  pub part_same : part at (length v) (splice at v b) ≡ v
  unfolding part splice
  part_same = rw (append_assoc, drop_at (take at b) _ at head_length) (take-append_seam v _)

  byte_same : (j : ℕ) → at ≤ j → j < at + length v → byte (splice at v b) j ≡ byte v (j - at)
  byte_same j h l =
      let from_there : at + (j - at) ≡ j = omega arith in
      ap (byte (splice at v b)) (sym from_there)
      ∙ sym (byte_part at (length v) (splice at v b) (j - at) (omega arith))
      ∙ ap (λ (w : List ℕ). byte w (j - at)) part_same

  part_as : (from len : ℕ) → from + len ≤ length b
      → ((i : ℕ) → i < len → byte (splice at v b) (from + i) ≡ byte b (from + i))
      → part from len (splice at v b) ≡ part from len b
  part_as from len h f =
      part_is from len (splice at v b) (part from len b) (omega (arith, length_splice)) (length_part from len b h)
      (λ i l. f i l ∙ sym (byte_part from len b i l))

  pub part_before : (from len : ℕ) → from + len ≤ at → part from len (splice at v b) ≡ part from len b
  part_before from len h = part_as from len (omega arith) (λ i l. byte_before (from + i) (omega arith))

  pub part_after : (from len : ℕ) → at + length v ≤ from → from + len ≤ length b
      → part from len (splice at v b) ≡ part from len b
  part_after from len h k = part_as from len k (λ i l. byte_after_lem (from + i) (omega arith))

-- two that do not meet, the one before or after the other
pub splice_apart : (at : ℕ) (u : List ℕ) (from : ℕ) (v b : List ℕ) → at + length u ≤ from → from + length v ≤ length b
    → splice from v (splice at u b) ≡ splice at u (splice from v b)
splice_apart at u from v b h fits =
    ext_get_or 0 _ _ (length_splice from v _ outer ∙ lu ∙ sym (length_splice at u _ inner ∙ lv)) (λ j l. at_byte j)
  where
    first : at + length u ≤ length b
    first = omega arith

    lu : length (splice at u b) ≡ length b
    lu = length_splice at u b first

    lv : length (splice from v b) ≡ length b
    lv = length_splice from v b fits

    outer : from + length v ≤ length (splice at u b)
    outer = omega (arith, lu)

    inner : at + length u ≤ length (splice from v b)
    inner = omega (arith, lv)

    at_byte : (j : ℕ) → byte (splice from v (splice at u b)) j ≡ byte (splice at u (splice from v b)) j
    at_byte j =
        by_test (ltb j at)
        (λ e. let l = ltb-true j at e in
        byte_before from v _ outer j (omega arith) ∙ byte_before at u b first j l
        ∙ sym (byte_before at u _ inner j l ∙ byte_before from v b fits j (omega arith)))
        (λ e. let l = ltb-false j at e in
        by_test (ltb j (at + length u))
        (λ f. let m = ltb-true j (at + length u) f in
        byte_before from v _ outer j (omega arith) ∙ byte_same at u b first j l m ∙ sym (byte_same at u _ inner j l m))
        (λ f. let m = ltb-false j (at + length u) f in behind j m ∙ sym (byte_after_lem at u _ inner j m)))
      where
        behind : (j : ℕ) → at + length u ≤ j → byte (splice from v (splice at u b)) j ≡ byte (splice from v b) j
        behind j m =
            by_test (ltb j from)
            (λ e. let l = ltb-true j from e in
            byte_before from v _ outer j l ∙ byte_after_lem at u b first j m ∙ sym (byte_before from v b fits j l))
            (λ e. let l = ltb-false j from e in
            by_test (ltb j (from + length v))
            (λ f. let k = ltb-true j (from + length v) f in
            byte_same from v _ outer j l k ∙ sym (byte_same from v b fits j l k))
            (λ f. let k = ltb-false j (from + length v) f in
            byte_after_lem from v _ outer j k ∙ byte_after_lem at u b first j m ∙ sym (byte_after_lem from v b fits j k)))

-- ---- splices that are one

pub splice_none : (at : ℕ) (b : List ℕ) → splice at [] b ≡ b
unfolding splice
splice_none at b = rw (append-nil (take at b), add-zero at) (take-append-drop at b)

pub splice_set : (at a : ℕ) (b : List ℕ) → at < length b → set b at a ≡ splice at (a ∷ []) b
unfolding splice
splice_set at a b h = sets-eq (a ∷ []) b at (omega arith)

-- past the end of the bytes the lists stand one behind the other
joined : (n m : ℕ) (u v : List ℕ) → length u ≤ n → length u ≤ m
    → take n (u ++ []) ++ v ++ drop m (u ++ []) ≡ u ++ v ++ []
joined n m u v h l =
    rw (append-nil u, take_all n u h, drop_of_length-le u {i = m} l)

-- the second is put in where the first ends
pub splice_join : (at : ℕ) (u v b : List ℕ) → splice (at + length u) v (splice at u b) ≡ splice at (u ++ v) b
unfolding splice
splice_join zero u v b =
    simp (zero-add, length-append)
    (rw (take-append_seam u (drop (length u) b), drop-append-add u (drop (length u) b) (length v), drop-drop))
splice_join (suc at) u v [] =
    simp suc-add (joined (suc (at + length u)) (suc (at + length u + length v)) u v (omega arith) (omega arith))
splice_join (suc at) u v (x ∷ b) = simp suc-add (ap (◌∷◌ x) (splice_join at u v b))

-- and the second is put into the first
module _ (at i : ℕ) (x w b : List ℕ) (inner : i + length x ≤ length w) (outer : at + length w ≤ length b) where
  whole : List ℕ
  whole = take at b ++ w ++ drop (at + length w) b

  front : length (take at b) ≡ at
  front = length-take-le at b (omega arith)

  past : (n : ℕ) → n ≤ length w → take (at + n) whole ≡ take at b ++ take n w
  unfolding whole
  past n h =
      ap (take (at + n)) (append_assoc (take at b) w _)
      ∙ ap (λ (k : ℕ). take (k + n) (take at b ++ (w ++ drop (at + length w) b))) (sym front)
      ∙ take-append-add (take at b) _ n ∙ ap (λ (l : List ℕ). take at b ++ l) (take-append-le n w _ h)

  left : (n : ℕ) → n ≤ length w → drop (at + n) whole ≡ drop n w ++ drop (at + length w) b
  unfolding whole
  left n h =
      ap (drop (at + n)) (append_assoc (take at b) w _)
      ∙ ap (λ (k : ℕ). drop (k + n) (take at b ++ (w ++ drop (at + length w) b))) (sym front)
      ∙ drop-append-add (take at b) _ n ∙ drop-append-le n w _ h

  grouped : (p q r s e : List ℕ) → p ++ q ++ r ++ (s ++ e) ≡ p ++ (q ++ r ++ s) ++ e
  grouped p q r s e = simp append_assoc

  pub splice_inside : splice (at + i) x (splice at w b) ≡ splice at (splice i x w) b
  unfolding splice whole
  splice_inside =
      (λ k. past i (omega arith) k ++ x ++ (ap (λ (n : ℕ). drop n whole) ends ∙ left (i + length x) inner) k)
      ∙ grouped (take at b) (take i w) x (drop (i + length x) w) (drop (at + length w) b)
      ∙ ap (λ (n : ℕ). take at b ++ (take i w ++ x ++ drop (i + length x) w) ++ drop (at + n) b)
      (sym (length_splice i x w inner))
    where
      ends : at + i + length x ≡ at + (i + length x)
      ends = omega arith
