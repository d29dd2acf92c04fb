-- The values on a sound board: each station good, each register readable, each station's own register as it wrote it.
-- Relies on SoundFacts, Good and OneRead; that the calls keep a board sound relies on it.
use Rattle.model.proofs.Kit.{◌≡◌, refl, sym, subst, Bool, cond, ◌&&◌, List, ℕ, zero, suc, ◌≤◌, ◌<◌, eqb, leb}
use Rattle.model.proofs.Kit.{ltb, T, leb→le, eqb→eq, eqb_refl, ltb→lt, lt→ltb}
use lib.Dec.{eqb-suc-zero}
use Rattle.model.specs.declared.Record.{Record}
use Rattle.model.specs.Bytes.{byte, part, zeros}
use Rattle.model.specs.Figure.{Figure, figure, figures, same_figure}
use Rattle.model.specs.Listing.{Flag, adopt, commit, Turn, turn_m, turn_a, turn_b, Register, empty, filled, Seen}
use Rattle.model.specs.Listing.{nothing, seen, Stage, writing, reading, has_decided, is_spent, Station, active}
use Rattle.model.specs.Listing.{array, entry, place_array, place_column, flag_number}
use Rattle.model.specs.Layout.{register_at, read_register, register_value, seen_of, read_record, record_value}
use Rattle.model.specs.Layout.{writing_of, reading_of, of_phase, register_of, record_of, fields_of, station_of}
use Rattle.model.specs.Sound.{register_sound, same_register, own_written, own_seen, own_passed}
use Rattle.model.specs.Sound.{most_steps, steps_kept, most_met, met_kept, record_sound}
use Rattle.model.proofs.Basics.Tests.{and_l, and_r, and_i, implies_use}
use Rattle.model.proofs.Basics.Numbers.{same_is, same_refl}
use Rattle.model.proofs.Board.Places.{InBoard}
use Rattle.model.proofs.Board.Codec.{marked_by, register, station, FitsRegister, FitsSeen, FitsStage}
use Rattle.model.proofs.Board.Codec.{FitsStation, figure-Fits}
use Rattle.model.proofs.Board.Boards.{register_part}
use Rattle.model.proofs.Board.Good.{GoodStation, GoodStage, fields_good}
use Rattle.model.proofs.Listing.Collect.{Something, Filled, entry_fills, last_read_sees}
use Rattle.model.proofs.Listing.OneRead.{GoodRead}
use Rattle.model.proofs.Listing.Moves.{Readable}
use Rattle.model.proofs.Board.SoundFacts.{marks_in, islands_in, register_test, SoundBoard}

pub array_inside : (K : ℕ) (t : Turn) (c : ℕ) → c < K → InBoard K (array t c)
unfolding InBoard array
array_inside K turn_m c h = tt
array_inside K turn_a c h = h
array_inside K (turn_b f) c h = h

-- ---- what is decoded fits 32 bits, whatever the bytes are

marked-Fits : (h k : ℕ) (b : List ℕ) → FitsRegister (marked_by h k (figure b))
unfolding FitsRegister
marked-Fits zero k b = tt
marked-Fits (suc h) k b = figure-Fits b

pub register-Fits : (r : List ℕ) → FitsRegister (register r)
unfolding register_value read_register
register-Fits r = marked-Fits (byte r 0) (byte r 1) (part 4 4 r)

seen-Fits : (g k : ℕ) (b : List ℕ) → FitsSeen (seen_of g k (figure b))
unfolding seen_of FitsSeen
seen-Fits zero k b = tt
seen-Fits (suc zero) k b = figure-Fits b
seen-Fits (suc (suc zero)) k b = figure-Fits b
seen-Fits (suc (suc (suc g))) k b = figure-Fits b

phase-Fits : (phase : ℕ) (r : List ℕ) → FitsStation (of_phase phase (read_record r))
unfolding of_phase writing_of reading_of read_record FitsStation FitsStage
phase-Fits zero r = tt
phase-Fits (suc zero) r = (figure-Fits _, figure-Fits _)
phase-Fits (suc (suc zero)) r = (figure-Fits _, (figure-Fits _, seen-Fits _ _ _))
phase-Fits (suc (suc (suc zero))) r = (figure-Fits _, figure-Fits _)
phase-Fits (suc (suc (suc (suc zero)))) r = (figure-Fits _, (figure-Fits _, seen-Fits _ _ _))
phase-Fits (suc (suc (suc (suc (suc zero))))) r = (figure-Fits _, figure-Fits _)
phase-Fits (suc (suc (suc (suc (suc (suc zero)))))) r = (figure-Fits _, (figure-Fits _, seen-Fits _ _ _))
phase-Fits (suc (suc (suc (suc (suc (suc (suc zero))))))) r = (figure-Fits _, figure-Fits _)
phase-Fits (suc (suc (suc (suc (suc (suc (suc (suc h)))))))) r = (figure-Fits _, figure-Fits _)

pub station-Fits : (r : List ℕ) → FitsStation (station r)
unfolding record_value read_record
station-Fits r = phase-Fits (byte r 0) r

-- ---- a register is the same as another by the test

flag_same : (f g : Flag) → T (eqb (flag_number f) (flag_number g)) → f ≡ g
unfolding flag_number
flag_same adopt adopt t = refl
flag_same adopt commit t = absurd t
flag_same commit adopt t = absurd t
flag_same commit commit t = refl

pub register_same_is : (r s : Register Figure) → T (same_register r s) → r ≡ s
unfolding same_register
register_same_is empty empty t = refl
register_same_is empty (filled f k v) t = absurd t
register_same_is (filled f k v) empty t = absurd t
register_same_is (filled f k v) (filled g j w) t = λ i.
    filled (flag_same f g (search (and_l, and_r)) i) (eqb→eq k j (search (and_l, and_r)) i)
    (same_is v w (search (and_l, and_r)) i)

pub register_same_refl : (r : Register Figure) → T (same_register r r)
unfolding same_register
register_same_refl empty = tt
register_same_refl (filled f k v) =
    and_i (eqb (flag_number f) (flag_number f) && eqb k k) (same_figure v v)
    (and_i (eqb (flag_number f) (flag_number f)) (eqb k k) (eqb_refl (flag_number f)) (eqb_refl k)) (same_refl v)

-- ---- a register's test, on values

read_m : (K h k : ℕ) (v : Figure) (r : List ℕ) → T (cond (eqb h 0) (zeros r) (leb h 1 && ltb k K && zeros (part 2 2 r)))
    → GoodRead K turn_m (marked_by h k v)
unfolding GoodRead
read_m K zero k v r t = tt
read_m K (suc h) k v r t =
    let s = subst (λ (e : Bool). T (cond e (zeros r) (leb (suc h) 1 && ltb k K && zeros (part 2 2 r))))
    (eqb-suc-zero h) t in
    ltb→lt k K (search (and_l, and_r))

read_a : (K h k : ℕ) (v : Figure) → GoodRead K turn_a (marked_by h k v)
unfolding GoodRead
read_a K zero k v = tt
read_a K (suc h) k v = tt

read_b : (K h k : ℕ) (f : Flag) (v : Figure) → GoodRead K (turn_b f) (marked_by h k v)
unfolding GoodRead
read_b K zero k f v = tt
read_b K (suc h) k f v = tt

read_good : (K : ℕ) (t : Turn) (c : ℕ) (r : List ℕ) → T (register_test K (array t c) r) → GoodRead K t (register r)
unfolding register_value read_register register_test register_sound array marks_in islands_in
read_good K turn_m c r t = read_m K (byte r 0) (byte r 1) _ r t
read_good K turn_a c r t = read_a K (byte r 0) (byte r 1) _
read_good K (turn_b f) c r t = read_b K (byte r 0) (byte r 1) f _

-- ---- a station of a sound board

-- what a sound board says of one station and the register that its next step touches
pub record SoundStation (n K i : ℕ) (b : List ℕ) (s : Station Figure) : Type 0 where
  pub good : GoodStation n K s
  pub written : T (own_written n i b s)
  pub passed : T (own_passed i s)

pub sound_station : (n K : ℕ) (b : List ℕ) → SoundBoard n K b → (i : ℕ) → i < n
    → SoundStation n K i b (station_of n K i b)
unfolding station_of record_value read_record record_sound
sound_station n K b s i h = record {
  good = let t = s.records i h in fields_good n K (byte r 0) r (search (and_l, and_r));
  written = let t = s.records i h in search (and_l, and_r);
  passed = let t = s.records i h in search (and_l, and_r);
}
  where
    r : List ℕ
    r = record_of n K i b

-- and of what its record counts: no more steps, and no more filled registers met, than a station that stands so may have
pub record Counts (n : ℕ) (s : Station Figure) (f : Record) : Type 0 where
  pub steps : f.steps ≤ most_steps n s
  pub met : f.met ≤ most_met s

pub sound_counts : (n K : ℕ) (b : List ℕ) → SoundBoard n K b → (i : ℕ) → i < n
    → Counts n (station_of n K i b) (fields_of n K i b)
unfolding station_of record_sound steps_kept met_kept
sound_counts n K b s i h =
    let t = s.records i h in
    record { steps = leb→le _ _ (search (and_l, and_r)); met = leb→le _ _ (search (and_l, and_r)) }

own_something : (t : Turn) (c : ℕ) (x : Figure) (a : Seen Figure) → T (own_seen t c x a) → Something a
unfolding own_seen
own_something t c x nothing h = h
own_something t c x (seen g k y) h = tt

pub own_register : (n K i : ℕ) (b : List ℕ) (v : Figure) (t : Turn) (c : ℕ) (x : Figure) (p : ℕ) (a : Seen Figure)
    → SoundStation n K i b (active v (reading t c x p a)) → register_of n (array t c) i b ≡ entry t c x
unfolding own_written
own_register n K i b v t c x p a s = register_same_is (register_of n (array t c) i b) (entry t c x) s.written

-- The next step of a station of a sound board finds a register that keeps the station good.
pub readable : (n K : ℕ) (b : List ℕ) → SoundBoard n K b → (i : ℕ) → i < n → (v : Figure) (s : Stage Figure)
    → SoundStation n K i b (active v s) → Readable n K s (register_of n (place_array s) (place_column i s) b)
unfolding Readable GoodStation GoodStage place_array place_column register_of register_part own_passed
readable n K b q i h v (writing t c x) s = tt
readable n K b q i h v (has_decided c x) s = tt
readable n K b q i h v (is_spent c x) s = tt
readable n K b q i h v (reading t c x p a) s = (
  read_good K t c (part (register_at n (array t c) p) 8 b)
      (q.registers (array t c) (array_inside K t c s.good.0) p s.good.1),
  register-Fits (part (register_at n (array t c) p) 8 b),
  λ l. last_read_sees figures n p i h l t a _
      (λ k. own_something t c x a (implies_use (ltb i p) (own_seen t c x a) s.passed (lt→ltb i p k)))
      (λ e. subst (λ (j : ℕ). Filled (register (part (register_at n (array t c) j) 8 b))) e
      (subst Filled (sym (own_register n K i b v t c x p a s)) (entry_fills t c x))),
)
