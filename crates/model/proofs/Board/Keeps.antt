-- What changes on a board keeps it sound: one register of a station, then that station's record.
-- Relies on Boards and Values; that the calls keep a board sound relies on it.
use Rattle.model.proofs.Kit.{◌≡◌, refl, sym, ap, subst, List, some, ℕ, ◌<◌, leb, T, lit≤, le→leb}
use Rattle.model.proofs.Kit.{ℕ_discrete, arith}
use mathlib.Core.Path.{subst⁻¹}
use Rattle.model.specs.declared.Record.{Record}
use Rattle.model.specs.Bytes.{byte, zeros}
use Rattle.model.specs.Figure.{Figure}
use Rattle.model.specs.Listing.{Register, Stage, writing, reading, has_decided, is_spent, Station, idle, active}
use Rattle.model.specs.Listing.{Array, array, entry}
use Rattle.model.specs.Layout.{read_record, lay_record, record_fields, record_value, register_of, record_of}
use Rattle.model.specs.Sound.{head_sound, own_written, own_passed, same_register, most_steps, steps_kept, most_met}
use Rattle.model.specs.Sound.{met_kept, fields_sound, record_sound}
use Rattle.model.specs.Calls.{put_record, put_register}
use Rattle.model.proofs.Basics.Tests.{and_l, and_r, and_i, true-T}
use Rattle.model.proofs.Board.Places.{InBoard, same_place}
use Rattle.model.proofs.Board.Codec.{register_bytes, record_bytes, register, station, FitsStation, station_bytes}
use Rattle.model.proofs.Board.Codec.{steps_below, met_back}
use Rattle.model.proofs.Board.Boards.{register_part, record_length, record_before, record_same, record_other}
use Rattle.model.proofs.Board.Boards.{record_register, register_length, register_before, register_same}
use Rattle.model.proofs.Board.Boards.{register_other, register_record}
use Rattle.model.proofs.Board.Good.{GoodStation, GoodStage, fields_good, good_fields}
use Rattle.model.proofs.Board.SoundFacts.{register_test, SoundBoard, SoundBut}
use Rattle.model.proofs.Board.Values.{array_inside, SoundStation, Counts}

pub sound_but : (i n K : ℕ) (b : List ℕ) → SoundBoard n K b → SoundBut i n K b
sound_but i n K b s = record {
  len = s.len;
  head = s.head;
  registers = s.registers;
  others = λ j h f. s.records j h;
}

-- The clause on a station's own register looks at no register but that one.
own_written_as : (n K j : ℕ) (b d : List ℕ) → ((a : Array) → InBoard K a → register_part n a j d ≡ register_part n a j b)
    → (s : Station Figure) → GoodStation n K s → own_written n j d s ≡ own_written n j b s
unfolding own_written GoodStation GoodStage register_of register_part
own_written_as n K j b d e idle g = refl
own_written_as n K j b d e (active v (writing t c x)) g = refl
own_written_as n K j b d e (active v (reading t c x p a)) g =
    ap (λ (r : List ℕ). same_register (register r) (entry t c x)) (e (array t c) (array_inside K t c g.0))
own_written_as n K j b d e (active v (has_decided c x)) g = refl
own_written_as n K j b d e (active v (is_spent c x)) g = refl

-- so a record stays sound where neither it nor its station's registers change
record_as : (n K j : ℕ) (b d r : List ℕ) → ((a : Array) → InBoard K a → register_part n a j d ≡ register_part n a j b)
    → T (record_sound n K j b r) → T (record_sound n K j d r)
unfolding record_sound record_value read_record
record_as n K j b d r e t =
    let written : T (own_written n j d (station r)) =
    subst T (sym (own_written_as n K j b d e (station r) (fields_good n K (byte r 0) r fields)))
    (search (and_l, and_r)) in
    search (and_i, and_l, and_r)
  where
    fields : T (fields_sound n K (byte r 0) r)
    fields = search (and_l, and_r)

-- One register of station index i is put in.
module _ (i n K : ℕ) (b : List ℕ) (s : SoundBut i n K b) (a : Array) (inside : InBoard K a) (own : i < n)
    (r : Register Figure) where
  after : List ℕ
  after = put_register n a i (some r) b

  register_at_lem : T (register_test K a (register_bytes r)) → (c : Array) → InBoard K c → (j : ℕ) → j < n
      → T (register_test K c (register_part n c j after))
  unfolding after
  register_at_lem t c h j l = go (same_place c j a i)
    where
      go : Dec ((c ≡ a) × (j ≡ i)) → T (register_test K c (register_part n c j (put_register n a i (some r) b)))
      go (yes e) =
          subst⁻¹ (λ (d : Array). T (register_test K d (register_part n d j (put_register n a i (some r) b)))) e.0
          (subst⁻¹ (λ (k : ℕ). T (register_test K a (register_part n a k (put_register n a i (some r) b)))) e.1
          (subst⁻¹ (λ (l : List ℕ). T (register_test K a l)) (register_same n K b s.len a inside i own r) t))
      go (no f) =
          subst⁻¹ (λ (l : List ℕ). T (register_test K c l)) (register_other n K b s.len a inside i own r c j h l f)
          (s.registers c h j l)

  pub register_keeps : T (register_test K a (register_bytes r)) → SoundBut i n K (put_register n a i (some r) b)
  unfolding after head_sound
  register_keeps t = record {
    len = register_length n K b s.len a inside i own r;
    head =
        subst⁻¹ (λ (l : List ℕ). T (zeros l)) (register_before n K b s.len a inside i own r 2 6 (lit≤ tt)) s.head;
    registers = register_at_lem t;
    others = λ j h f.
        record_as n K j b (put_register n a i (some r) b) (record_of n K j (put_register n a i (some r) b))
        (λ c l. register_other n K b s.len a inside i own r c j l h (λ q. f (sym q.1)))
        (subst⁻¹ (λ (l : List ℕ). T (record_sound n K j b l)) (register_record n K b s.len a inside i own r j h)
        (s.others j h f));
  }

-- A good station with its own clauses and counts that are low enough encodes to a sound record.
record_sound_lem : (n K : ℕ) → 0 < n → 0 < K → (i : ℕ) (b : List ℕ) (v : Figure) (s : Stage Figure) (f : Record)
    → FitsStation (active v s) → SoundStation n K i b (active v s) → Counts n (active v s) f
    → T (record_sound n K i b (record_bytes (active v s) f))
unfolding record_sound GoodStation steps_kept met_kept
record_sound_lem n K hn hK i b v s f fits g few =
    let r = record_bytes (active v s) f in
    let same = station_bytes (active v s) f fits in
    let fields : T (fields_sound n K (byte r 0) r) = true-T _ (good_fields n K hn hK v s f g.good) in
    let written : T (own_written n i b (station r)) =
    subst⁻¹ (λ (z : Station Figure). T (own_written n i b z)) same g.written in
    let passed : T (own_passed i (station r)) = subst⁻¹ (λ (z : Station Figure). T (own_passed i z)) same g.passed in
    let steps : T (steps_kept n (read_record r).steps (station r)) =
    subst⁻¹ (λ (z : Station Figure). T (leb (read_record r).steps (most_steps n z))) same
    (le→leb (read_record r).steps (most_steps n (active v s)) (omega (arith, few.steps, steps_below (active v s) f))) in
    let met : T (met_kept (read_record r).met (station r)) =
    subst⁻¹ (λ (z : Station Figure). T (leb (read_record r).met (most_met z))) same
    (le→leb (read_record r).met (most_met (active v s)) (rw (met_back (active v s) f) few.met)) in
    search and_i

-- A record of station index i is put in that is sound there.
module _ (i n K : ℕ) (b : List ℕ) (q : SoundBut i n K b) (own : i < n) (f : Record)
    (g : T (record_sound n K i b (lay_record f))) where
  own_registers : (j : ℕ) → j < n → (a : Array) → InBoard K a
      → register_part n a j (put_record n K i f b) ≡ register_part n a j b
  own_registers j h a l = record_register n K b q.len i own f a j l h

  record_at_lem : (j : ℕ) → j < n → T (record_sound n K j b (record_of n K j (put_record n K i f b)))
  record_at_lem j h = go (ℕ_discrete i j)
    where
      go : Dec (i ≡ j) → T (record_sound n K j b (record_of n K j (put_record n K i f b)))
      go (yes e) =
          subst (λ (k : ℕ). T (record_sound n K k b (record_of n K k (put_record n K i f b)))) e
          (subst⁻¹ (λ (l : List ℕ). T (record_sound n K i b l)) (record_same n K b q.len i own f) g)
      go (no d) =
          subst⁻¹ (λ (l : List ℕ). T (record_sound n K j b l)) (record_other n K b q.len i own f j h d)
          (q.others j h d)

  record_keeps : SoundBoard n K (put_record n K i f b)
  unfolding head_sound
  record_keeps = record {
    len = record_length n K b q.len i own f;
    head = subst⁻¹ (λ (l : List ℕ). T (zeros l)) (record_before n K b q.len i own f 2 6 (lit≤ tt)) q.head;
    registers =
        λ a h j l. subst⁻¹ (λ (z : List ℕ). T (register_test K a z)) (own_registers j l a h) (q.registers a h j l);
    records =
        λ j h. record_as n K j b (put_record n K i f b) (record_of n K j (put_record n K i f b)) (own_registers j h)
        (record_at_lem j h);
  }

-- A station of index i that comes to stand otherwise, whatever its record f was but for its counts.
pub station_keeps : (i n K : ℕ) (b : List ℕ) → SoundBut i n K b → i < n → 0 < K → (v : Figure) (s : Stage Figure)
    (f : Record)
    → FitsStation (active v s) → SoundStation n K i b (active v s) → Counts n (active v s) f
    → SoundBoard n K (put_record n K i (record_fields (active v s) f) b)
station_keeps i n K b q own hK v s f fits g few =
    record_keeps i n K b q own _ (record_sound_lem n K (omega arith) hK i b v s f fits g few)
