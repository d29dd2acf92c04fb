-- What the tests of a record's fields say of the value that it decodes to, which passes them when encoded.
-- Relies on soundness's clauses and the codec; that the calls keep a board sound relies on it.
use Rattle.model.proofs.Kit.{◌≡◌, refl, true, ◌||◌, List, ℕ, zero, suc, ◌≤◌, ◌<◌, lt-ltb, eqb, leb→le, T, eqb→eq}
use Rattle.model.proofs.Kit.{ltb→lt, arith}
use Rattle.model.specs.declared.Record.{Record}
use Rattle.model.specs.Bytes.{byte, part, zeros, implies, digits}
use Rattle.model.specs.Figure.{Figure, figure_bytes}
use Rattle.model.specs.Listing.{Flag, adopt, commit, Turn, turn_m, turn_a, turn_b, first, second, third, Seen}
use Rattle.model.specs.Listing.{nothing, seen, Stage, writing, reading, has_decided, is_spent, Station, idle}
use Rattle.model.specs.Listing.{active, flag_number}
use Rattle.model.specs.Layout.{seen_number, best_island, best_figure, seen_of, write_phase, flag_byte, lay_record}
use Rattle.model.specs.Layout.{fields, record_fields, read_record, changed, writing_of, reading_of, of_phase}
use Rattle.model.specs.Sound.{collecting, phase_known, position_inside, island_inside, best_inside, flag_known}
use Rattle.model.specs.Sound.{rest_zero, idle_zero, collect_zero, best_island_zero, best_zero, seen_known, fields_sound}
use Rattle.model.proofs.Board.Codec.{record_bytes}
use Rattle.model.proofs.Basics.Tests.{and_l, and_r}

-- what the seen fields may be in a turn: the grades of 01's table, and a best island below K in m and 0 elsewhere
unfoldable pub GoodSeen : (K : ℕ) → Turn → Seen Figure → Type 0
GoodSeen K t nothing = Unit {0}
GoodSeen K turn_m (seen first k y) = k < K
GoodSeen K turn_m (seen second k y) = ⊥
GoodSeen K turn_m (seen third k y) = ⊥
GoodSeen K turn_a (seen first k y) = k ≡ 0
GoodSeen K turn_a (seen second k y) = k ≡ 0
GoodSeen K turn_a (seen third k y) = ⊥
GoodSeen K (turn_b f) (seen g k y) = k ≡ 0

unfoldable pub GoodStage : (n K : ℕ) → Stage Figure → Type 0
GoodStage n K (writing t c x) = c < K
GoodStage n K (reading t c x p a) = (c < K) × (p < n) × GoodSeen K t a
GoodStage n K (has_decided c x) = c < K
GoodStage n K (is_spent c x) = c < K

unfoldable pub GoodStation : (n K : ℕ) → Station Figure → Type 0
GoodStation n K idle = Unit {0}
GoodStation n K (active v s) = GoodStage n K s

-- The clauses that bound fields, one by one, out of their conjunction.
module _ (n K phase : ℕ) (r : List ℕ) (t : T (fields_sound n K phase r)) where
  pub position_fact : byte r 1 < n
  unfolding fields_sound position_inside
  position_fact = ltb→lt (byte r 1) n (search (and_l, and_r) depth 12)

  pub island_fact : byte r 2 < K
  unfolding fields_sound island_inside
  island_fact = ltb→lt (byte r 2) K (search (and_l, and_r) depth 12)

  best_fact : byte r 4 < K
  unfolding fields_sound best_inside
  best_fact = ltb→lt (byte r 4) K (search (and_l, and_r) depth 12)

  pub best_island_fact : T (best_island_zero phase r)
  unfolding fields_sound
  best_island_fact = search (and_l, and_r) depth 12

  pub seen_fact : T (seen_known phase r)
  unfolding fields_sound
  seen_fact = search (and_l, and_r) depth 12

seen_m : (K g k : ℕ) (y : Figure) → g ≤ 1 → k < K → GoodSeen K turn_m (seen_of g k y)
unfolding seen_of GoodSeen
seen_m K zero k y h l = tt
seen_m K (suc zero) k y h l = l
seen_m K (suc (suc zero)) k y h l = omega arith
seen_m K (suc (suc (suc g))) k y h l = omega arith

seen_a : (K g k : ℕ) (y : Figure) → g ≤ 2 → k ≡ 0 → GoodSeen K turn_a (seen_of g k y)
unfolding seen_of GoodSeen
seen_a K zero k y h e = tt
seen_a K (suc zero) k y h e = e
seen_a K (suc (suc zero)) k y h e = e
seen_a K (suc (suc (suc g))) k y h e = omega arith

seen_b : (K : ℕ) (f : Flag) (g k : ℕ) (y : Figure) → k ≡ 0 → GoodSeen K (turn_b f) (seen_of g k y)
unfolding seen_of GoodSeen
seen_b K f zero k y e = tt
seen_b K f (suc zero) k y e = e
seen_b K f (suc (suc zero)) k y e = e
seen_b K f (suc (suc (suc g))) k y e = e

-- a record whose fields pass decodes to a good station
pub fields_good : (n K phase : ℕ) (r : List ℕ) → T (fields_sound n K phase r)
    → GoodStation n K (of_phase phase (read_record r))
unfolding GoodStation GoodStage read_record of_phase writing_of reading_of best_island_zero seen_known
fields_good n K zero r t = tt
fields_good n K (suc zero) r t = island_fact n K _ r t
fields_good n K (suc (suc zero)) r t = (
  island_fact n K _ r t,
  position_fact n K _ r t,
  seen_m K (byte r 3) (byte r 4) _ (leb→le _ _ (seen_fact n K 2 r t))
      (best_fact n K _ r t),
)
fields_good n K (suc (suc (suc zero))) r t = island_fact n K _ r t
fields_good n K (suc (suc (suc (suc zero)))) r t = (
  island_fact n K _ r t,
  position_fact n K _ r t,
  seen_a K (byte r 3) (byte r 4) _ (leb→le _ _ (seen_fact n K 4 r t))
      (eqb→eq _ _ (best_island_fact n K 4 r t)),
)
fields_good n K (suc (suc (suc (suc (suc zero))))) r t = island_fact n K _ r t
fields_good n K (suc (suc (suc (suc (suc (suc zero)))))) r t = (
  island_fact n K _ r t,
  position_fact n K _ r t,
  seen_b K _ (byte r 3) (byte r 4) _
      (eqb→eq _ _ (best_island_fact n K 6 r t)),
)
fields_good n K (suc (suc (suc (suc (suc (suc (suc zero))))))) r t = island_fact n K _ r t
fields_good n K (suc (suc (suc (suc (suc (suc (suc (suc h)))))))) r t = island_fact n K _ r t

flag_known_lem : (f : Flag) → (eqb (flag_number f) 1 || eqb (flag_number f) 2) ≡ true
unfolding flag_number
flag_known_lem adopt = refl
flag_known_lem commit = refl

-- and back: a good stage encodes to a record whose fields pass, whatever the record was
pub good_fields : (n K : ℕ) → 0 < n → 0 < K → (v : Figure) (s : Stage Figure) (f : Record) → GoodStage n K s
    → fields_sound n K (byte (record_bytes (active v s) f) 0) (record_bytes (active v s) f) ≡ true
unfolding GoodStage GoodSeen fields_sound phase_known position_inside island_inside best_inside flag_known rest_zero idle_zero
    collect_zero best_island_zero best_zero seen_known collecting implies zeros part record_fields fields changed lay_record
    write_phase flag_byte seen_number best_island best_figure figure_bytes digits
good_fields n K hn hK v (writing turn_m c x) f h = simp (lt-ltb 0 n hn, lt-ltb 0 K hK, lt-ltb c K h)
good_fields n K hn hK v (writing turn_a c x) f h = simp (lt-ltb 0 n hn, lt-ltb 0 K hK, lt-ltb c K h)
good_fields n K hn hK v (writing (turn_b e) c x) f h =
    simp (lt-ltb 0 n hn, lt-ltb 0 K hK, lt-ltb c K h, flag_known_lem e)
good_fields n K hn hK v (has_decided c x) f h = simp (lt-ltb 0 n hn, lt-ltb 0 K hK, lt-ltb c K h)
good_fields n K hn hK v (is_spent c x) f h = simp (lt-ltb 0 n hn, lt-ltb 0 K hK, lt-ltb c K h)
good_fields n K hn hK v (reading turn_m c x p nothing) f h =
    simp (lt-ltb p n h.1, lt-ltb 0 K hK, lt-ltb c K h.0)
good_fields n K hn hK v (reading turn_m c x p (seen first k y)) f h =
    simp (lt-ltb p n h.1, lt-ltb k K h.2, lt-ltb c K h.0)
good_fields n K hn hK v (reading turn_m c x p (seen second k y)) f h = absurd h.2
good_fields n K hn hK v (reading turn_m c x p (seen third k y)) f h = absurd h.2
good_fields n K hn hK v (reading turn_a c x p nothing) f h =
    simp (lt-ltb p n h.1, lt-ltb 0 K hK, lt-ltb c K h.0)
good_fields n K hn hK v (reading turn_a c x p (seen first k y)) f h =
    simp (h.2, lt-ltb p n h.1, lt-ltb 0 K hK, lt-ltb c K h.0)
good_fields n K hn hK v (reading turn_a c x p (seen second k y)) f h =
    simp (h.2, lt-ltb p n h.1, lt-ltb 0 K hK, lt-ltb c K h.0)
good_fields n K hn hK v (reading turn_a c x p (seen third k y)) f h = absurd h.2
good_fields n K hn hK v (reading (turn_b e) c x p nothing) f h =
    simp (flag_known_lem e, lt-ltb p n h.1, lt-ltb 0 K hK, lt-ltb c K h.0)
good_fields n K hn hK v (reading (turn_b e) c x p (seen first k y)) f h =
    simp (flag_known_lem e, h.2, lt-ltb p n h.1, lt-ltb 0 K hK, lt-ltb c K h.0)
good_fields n K hn hK v (reading (turn_b e) c x p (seen second k y)) f h =
    simp (flag_known_lem e, h.2, lt-ltb p n h.1, lt-ltb 0 K hK, lt-ltb c K h.0)
good_fields n K hn hK v (reading (turn_b e) c x p (seen third k y)) f h =
    simp (flag_known_lem e, h.2, lt-ltb p n h.1, lt-ltb 0 K hK, lt-ltb c K h.0)
