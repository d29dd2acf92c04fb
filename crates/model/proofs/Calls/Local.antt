-- Locality: on sound boards a step's answer and the bytes it alters follow from n, K, the station's own record and,
-- where it reads, the one register that it reads. No other station's record is touched.
-- Relies on Boards, Written, CallsKeep and Refusals; it proves the claim of locality.
use Rattle.model.proofs.Kit.{◌≡◌, refl, sym, ap, ◌&&◌, List, [], ◌∷◌, none, some, ℕ, ◌+◌, ◌-◌, ◌<◌, leb}
use Rattle.model.specs.Figure.{Figure, figures}
use Rattle.model.specs.Listing.{Stage, writing, reading, has_decided, is_spent, Station, idle, active}
use Rattle.model.specs.Listing.{wrote, nothing, entry, array, move, stay, place_array, place_column}
use Rattle.model.specs.Filled.{Report, filled_in, met_with, reported, report, refusal}
use Rattle.model.specs.Layout.{register_at, record_at, register_of, record_of, fields_of, lay_record, station_of}
use Rattle.model.specs.Calls.{After, Refusal, unless, stations, islands, station_refusal, station_at, unless_refused}
use Rattle.model.specs.Calls.{put_record, put_register, not_going, stepped_record, access, stepped, step_on, step}
use Rattle.model.specs.Claims.{Change, change, Effect, apply, touched, ReadsNext}
use Rattle.model.proofs.Board.Codec.{register_bytes, station}
use Rattle.model.proofs.Board.Boards.{record_other, register_record}
use Rattle.model.proofs.Listing.Written.{read_writes}
use Rattle.model.proofs.Calls.CallsKeep.{step_on_leaves}
use Rattle.model.proofs.Calls.Refusals.{Board, step_on_lem}

-- one effect takes two boards to what x and y are
abbrev OneEffect : (b d : List ℕ) → (x y : After (Report Figure)) → Type 0
OneEffect b d x y = (e : Effect) × (x ≡ apply e b) × (y ≡ apply e d)

-- bytes put in at an offset, and so the station's record that a step leaves
abbrev at : ℕ → List ℕ → Change
at o bs = record { offset = o; content = bs }

abbrev own : (n K i : ℕ) → Figure → Stage Figure → (k : ℕ) → List ℕ → Change
own n K i v s k b = at (record_at n K i) (lay_record (stepped_record n K i v s k b))

-- a step by the station's record, where both boards have that record, and one register at its place
stepped_one : (n K i : ℕ) (z : Station Figure) (b d : List ℕ) → record_of n K i b ≡ record_of n K i d
    → (ReadsNext z → touched n i z b ≡ touched n i z d)
    → OneEffect b d (stepped n K i z b) (stepped n K i z d)
unfolding stepped access apply change touched ReadsNext place_array place_column put_record put_register
stepped_one n K i idle b d q e = (record { answer = refusal 14; changes = [] }, refl, refl)
stepped_one n K i (active v (writing t c x)) b d q e =
    let written = at (register_at n (array t c) i) (register_bytes (entry t c x)) in
    unfold move met_with reported in (
      record { answer = report wrote 0 0; changes = written ∷ own n K i v (reading t c x 0 nothing) 0 b ∷ [] },
      refl,
      rw (← q),
    )
stepped_one n K i (active v (reading t c x p a)) b d q e =
    let m = move figures n K (reading t c x p a) (register_of n (array t c) p b) in
    let unwritten = read_writes K figures n t c x p a (register_of n (array t c) p b) in
    let met = filled_in (register_of n (array t c) p b) in
    let total = (fields_of n K i b).met + met in
    unfold met_with in (
      record { answer = report m.answer met total; changes = own n K i v m.stage total b ∷ [] },
      rw unwritten,
      rw (← q, ← e tt, unwritten),
    )
stepped_one n K i (active v (has_decided c x)) b d q e =
    unfold move stay met_with reported in
    (record { answer = refusal 15; changes = own n K i v (has_decided c x) 0 b ∷ [] }, refl, rw (← q))
stepped_one n K i (active v (is_spent c x)) b d q e =
    unfold move stay met_with reported in
    (record { answer = refusal 16; changes = own n K i v (is_spent c x) 0 b ∷ [] }, refl, rw (← q))

-- a checked step: its refusal, or what it does
checked_one : (r : Refusal) (b d : List ℕ) (x y : After (Report Figure)) → OneEffect b d x y
    → OneEffect b d (unless_refused r refusal b x) (unless_refused r refusal d y)
unfolding unless_refused apply change
checked_one none b d x y h = h
checked_one (some k) b d x y h = (record { answer = refusal k; changes = [] }, refl, refl)

-- a step on a sound board, by n, K and the station's record
step_as : (n K i : ℕ) (b : List ℕ) (z : Station Figure) → Board b → stations b ≡ n → islands b ≡ K
    → station_of n K (i - 1) b ≡ z
    → step i b ≡ unless_refused (unless (leb 1 i && leb i n) 12 (not_going z)) refusal b (stepped n K (i - 1) z b)
unfolding step_on station_at station_refusal
step_as n K i b z h en eK ez = rw (← ez, ← en, ← eK) (step_on_lem i b h)

-- Two sound boards of one n and K that agree on the station's record and, where it reads, on the one register: one and
-- the same effect is what the step does to both.
pub local : (n K i : ℕ) (b d : List ℕ) → Board b → Board d
    → stations b ≡ n → stations d ≡ n → islands b ≡ K → islands d ≡ K → record_of n K (i - 1) b ≡ record_of n K (i - 1) d
    → (ReadsNext (station_of n K (i - 1) b)
    → touched n (i - 1) (station_of n K (i - 1) b) b ≡ touched n (i - 1) (station_of n K (i - 1) b) d)
    → OneEffect b d (step i b) (step i d)
unfolding station_of
local n K i b d hb hd bn dn bK dK er eg =
    let z = station_of n K (i - 1) b in
    rw (step_as n K i b z hb bn bK refl, step_as n K i d z hd dn dK (ap station (sym er)))
    (checked_one _ b d _ _ (stepped_one n K (i - 1) z b d er eg))

-- ---- no other station's record is touched

pub step_other : (i : ℕ) (b : List ℕ) → Board b → (j : ℕ) → j < stations b → (i - 1 ≡ j → ⊥)
    → record_of (stations b) (islands b) j (step i b).bytes ≡ record_of (stations b) (islands b) j b
step_other i b h j l f =
    rw (step_on_lem i b h) (step_on_leaves (record_of (stations b) (islands b) j) i b h (λ own. record {
      record_put = λ d len g. record_other _ _ d len (i - 1) own g j l f;
      register = λ a inside r. register_record _ _ b h.sound_board.len a inside (i - 1) own r j l;
    }))
