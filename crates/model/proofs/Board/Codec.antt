-- Registers and records as bytes: their lengths, and decoding after encoding is the identity on 32-bit figures.
-- Relies on the layout and on Numbers; the laws on a board after a write rely on it.
use Rattle.model.proofs.Kit.{◌≡◌, refl, ap, ◌∙◌, List, [], ◌∷◌, ℕ, zero, suc, ◌≤◌, lit<, length, w32}
use Rattle.model.proofs.Kit.{SFits}
use Rattle.model.specs.declared.Record.{Record}
use Rattle.model.specs.Bytes.{number, digits, part}
use Rattle.model.specs.Figure.{Figure, figure, figure_bytes}
use Rattle.model.specs.Listing.{adopt, commit, turn_m, turn_a, turn_b, first, second, third, Register, empty, filled}
use Rattle.model.specs.Listing.{Seen, nothing, seen, Stage, writing, reading, has_decided, is_spent, Station}
use Rattle.model.specs.Listing.{idle, active, flag_of, flag_number}
use Rattle.model.specs.Layout.{lay_register, read_register, register_fields, register_value, seen_number, best_island}
use Rattle.model.specs.Layout.{best_figure, seen_of, write_phase, flag_byte, changed, proposal_is, carried_is, best_is}
use Rattle.model.specs.Layout.{lay_record, read_record, fields, record_fields, record_value, writing_of, reading_of}
use Rattle.model.specs.Layout.{of_phase, with_counts}
use Rattle.model.proofs.Basics.Numbers.{digits_below, figure_fits, figure_bytes_lem}

-- a register and a station's record as bytes, the record having been f, and back
abbrev pub register_bytes : Register Figure → List ℕ
register_bytes r = lay_register (register_fields r)

abbrev pub register : List ℕ → Register Figure
register r = register_value (read_register r)

abbrev pub record_bytes : Station Figure → Record → List ℕ
record_bytes s f = lay_record (record_fields s f)

abbrev pub station : List ℕ → Station Figure
station r = record_value (read_record r)

-- the register with this mark, island and figure
abbrev pub marked_by : ℕ → (k : ℕ) → Figure → Register Figure
marked_by m k v = elim m [ zero ↦ empty | suc l ↦ filled (flag_of (suc l)) k v ]

-- Every figure in it is a 32-bit one.
unfoldable pub Fits : Figure → Type 0
Fits v = SFits w32 v

unfoldable pub FitsRegister : Register Figure → Type 0
FitsRegister empty = Unit {0}
FitsRegister (filled f k v) = Fits v

unfoldable pub FitsSeen : Seen Figure → Type 0
FitsSeen nothing = Unit {0}
FitsSeen (seen g k y) = Fits y

unfoldable pub FitsStage : Stage Figure → Type 0
FitsStage (writing t c x) = Fits x
FitsStage (reading t c x p a) = Fits x × FitsSeen a
FitsStage (has_decided c x) = Fits x
FitsStage (is_spent c x) = Fits x

unfoldable pub FitsStation : Station Figure → Type 0
FitsStation idle = Unit {0}
FitsStation (active v s) = Fits v × FitsStage s

-- what is decoded fits, whatever the bytes are
pub figure-Fits : (b : _) → Fits (figure b)
unfolding Fits
figure-Fits b = figure_fits b

pub bytes-Fits : (v : Figure) → Fits v → figure (figure_bytes v) ≡ v
unfolding Fits
bytes-Fits v h = figure_bytes_lem v h

pub length_register : (r : Register Figure) → length (register_bytes r) ≡ 8
unfolding lay_register figure_bytes digits
length_register r = refl

pub register_bytes_lem : (r : Register Figure) → FitsRegister r → register (register_bytes r) ≡ r
unfolding lay_register register_fields read_register register_value FitsRegister flag_number flag_of part figure_bytes digits
register_bytes_lem empty h = refl
register_bytes_lem (filled adopt k v) h = ap (filled adopt k) (bytes-Fits v h)
register_bytes_lem (filled commit k v) h = ap (filled commit k) (bytes-Fits v h)

pub length_record : (f : Record) → length (lay_record f) ≡ 24
unfolding lay_record figure_bytes digits
length_record f = refl

-- ---- a value survives its fields

pub seen_back : (a : Seen Figure) → seen_of (seen_number a) (best_island a) (best_figure a) ≡ a
unfolding seen_of seen_number best_island best_figure
seen_back nothing = refl
seen_back (seen first k y) = refl
seen_back (seen second k y) = refl
seen_back (seen third k y) = refl

station_back : (s : Station Figure) (f : Record) → record_value (record_fields s f) ≡ s
unfolding record_value of_phase writing_of reading_of record_fields fields changed write_phase flag_byte
    flag_number flag_of
station_back idle f = refl
station_back (active v (writing turn_m c x)) f = refl
station_back (active v (writing turn_a c x)) f = refl
station_back (active v (writing (turn_b adopt) c x)) f = refl
station_back (active v (writing (turn_b commit) c x)) f = refl
station_back (active v (reading turn_m c x p a)) f =
    ap (λ (a : Seen Figure). active v (reading turn_m c x p a)) (seen_back a)
station_back (active v (reading turn_a c x p a)) f =
    ap (λ (a : Seen Figure). active v (reading turn_a c x p a)) (seen_back a)
station_back (active v (reading (turn_b adopt) c x p a)) f =
    ap (λ (a : Seen Figure). active v (reading (turn_b adopt) c x p a)) (seen_back a)
station_back (active v (reading (turn_b commit) c x p a)) f =
    ap (λ (a : Seen Figure). active v (reading (turn_b commit) c x p a)) (seen_back a)
station_back (active v (has_decided c x)) f = refl
station_back (active v (is_spent c x)) f = refl

-- how it stands tells nothing of the counts
pub counts_stay : (s : Station Figure) (f : Record)
    → ((record_fields s f).steps ≡ f.steps) × ((record_fields s f).met ≡ f.met)
unfolding record_fields fields changed
counts_stay idle f = (refl, refl)
counts_stay (active v (writing t c x)) f = (refl, refl)
counts_stay (active v (reading t c x p a)) f = (refl, refl)
counts_stay (active v (has_decided c x)) f = (refl, refl)
counts_stay (active v (is_spent c x)) f = (refl, refl)

pub counts_beside : (s : Station Figure) (k m : ℕ) (f : Record)
    → with_counts k m (record_fields s f) ≡ record_fields s (with_counts k m f)
unfolding record_fields fields changed
counts_beside idle k m f = refl
counts_beside (active v (writing t c x)) k m f = refl
counts_beside (active v (reading t c x p a)) k m f = refl
counts_beside (active v (has_decided c x)) k m f = refl
counts_beside (active v (is_spent c x)) k m f = refl

-- nor do the counts tell how it stands
pub value_beside : (k m : ℕ) (f : Record) → record_value (with_counts k m f) ≡ record_value f
unfolding record_value of_phase writing_of reading_of changed
value_beside k m f = by_phase f.phase
  where
    by_phase : (p : ℕ) → of_phase p (with_counts k m f) ≡ of_phase p f
    by_phase zero = refl
    by_phase (suc zero) = refl
    by_phase (suc (suc zero)) = refl
    by_phase (suc (suc (suc zero))) = refl
    by_phase (suc (suc (suc (suc zero)))) = refl
    by_phase (suc (suc (suc (suc (suc zero))))) = refl
    by_phase (suc (suc (suc (suc (suc (suc zero)))))) = refl
    by_phase (suc (suc (suc (suc (suc (suc (suc zero))))))) = refl
    by_phase (suc (suc (suc (suc (suc (suc (suc (suc p)))))))) = refl

-- ---- and its fields survive their bytes

pub met_back : (s : Station Figure) (f : Record) → (read_record (record_bytes s f)).met ≡ f.met
unfolding read_record lay_record
met_back s f = (counts_stay s f).1

pub steps_back : (f : Record) → (read_record (lay_record f)).steps ≡ number (digits 2 f.steps)
unfolding read_record lay_record part figure_bytes digits
steps_back f = refl

pub steps_below : (s : Station Figure) (f : Record) → (read_record (record_bytes s f)).steps ≤ f.steps
steps_below s f = rw (steps_back (record_fields s f), (counts_stay s f).0) (digits_below 2 f.steps)

best_back : (a : Seen Figure) → FitsSeen a → figure (figure_bytes (best_figure a)) ≡ best_figure a
unfolding best_figure FitsSeen figure figure_bytes digits number
best_back nothing h = refl
best_back (seen g k y) h = bytes-Fits y h

fields_back : (phase p c : ℕ) (a : Seen Figure) (flag : ℕ) (v x : Figure) (f : Record) → Fits v → Fits x → FitsSeen a
    → read_record (lay_record (fields phase p c a flag v x f)) ≡ fields phase p c a flag v x (read_record (lay_record f))
unfolding read_record lay_record fields changed part figure_bytes digits
fields_back phase p c a flag v x f hv hx ha =
    λ i. changed (proposal_is (bytes-Fits v hv i) ∷ carried_is (bytes-Fits x hx i) ∷ best_is (best_back a ha i) ∷ [])
    (fields phase p c a flag v x (read_record (lay_record f)))

record_back : (s : Station Figure) (f : Record) → FitsStation s
    → read_record (record_bytes s f) ≡ record_fields s (read_record (lay_record f))
unfolding record_fields FitsStation FitsStage FitsSeen Fits
record_back idle f h = fields_back _ _ _ nothing _ _ _ f (record { sfits = lit< tt }) (record { sfits = lit< tt }) tt
record_back (active v (writing t c x)) f h = fields_back _ _ _ nothing _ _ _ f h.0 h.1 tt
record_back (active v (reading t c x p a)) f h = fields_back _ _ _ a _ _ _ f h.0 h.1.0 h.1.1
record_back (active v (has_decided c x)) f h = fields_back _ _ _ nothing _ _ _ f h.0 h.1 tt
record_back (active v (is_spent c x)) f h = fields_back _ _ _ nothing _ _ _ f h.0 h.1 tt

pub station_bytes : (s : Station Figure) (f : Record) → FitsStation s → station (record_bytes s f) ≡ s
station_bytes s f h = ap record_value (record_back s f h) ∙ station_back s (read_record (lay_record f))
