-- Soundness: 01's clauses on the bytes of a board, each a named test, in 01's order and with its words.
-- Relies on the layout and the listing's values; the calls rely on it.
use Rattle.std.specs.Prelude.{Bool, true, false, not, ◌&&◌, ◌||◌, cond, List, ℕ, ◌+◌, ◌*◌, eqb, leb, ltb}
use Rattle.model.specs.Bytes.{byte, part, zeros, every, implies}
use Rattle.model.specs.Figure.{Figure, figures, same_figure}
use Rattle.model.specs.Listing.{Turn, turn_m, turn_a, turn_b, Seen, nothing, seen, Register, empty, filled, Stage}
use Rattle.model.specs.Listing.{writing, reading, has_decided, is_spent, Station, idle, active, Array, in_m, in_a}
use Rattle.model.specs.Listing.{in_b, array, entry, pair_above, flag_number}
use Rattle.model.specs.Layout.{register_at, register_of, record_of, read_record, record_value, gap_at, gap}
use Rattle.model.specs.Layout.{tail_at, tail}

-- "Head, 8 bytes: n, K, six zeros."
unfoldable pub head_sound : List ℕ → Bool
head_sound b = zeros (part 2 6 b)

-- "mark, island, two zeros, figure. An empty register is all zero."
unfoldable pub register_sound : (marks islands : ℕ) → List ℕ → Bool
register_sound marks islands r =
    cond (eqb (byte r 0) 0) (zeros r) (leb (byte r 0) marks && ltb (byte r 1) islands && zeros (part 2 2 r))

-- "n registers, one per station": all those of one array
unfoldable pub array_sound : (n marks islands : ℕ) → List ℕ → Array → Bool
array_sound n marks islands b a = every n λ j. register_sound marks islands (part (register_at n a j) 8 b)

-- "Marks: m and A 1 written; B 1 adopt, 2 commit. The island byte is below K in m and zero in A and B."
unfoldable pub registers_sound : (n K : ℕ) → List ℕ → Bool
registers_sound n K b = array_sound n 1 K b in_m && every K λ c. array_sound n 1 1 b (in_a c) && array_sound n 2 1 b (in_b c)

-- The clauses on one record r of a board, at its phase, which is its byte 0.
module _ (phase : ℕ) (r : List ℕ) where
  -- "phases 2, 4, 6"
  unfoldable pub collecting : Bool
  collecting = eqb phase 2 || eqb phase 4 || eqb phase 6

  -- "byte 0 phase (0 idle, .., 8 spent)"
  unfoldable pub phase_known : Bool
  phase_known = leb phase 8

  -- "1 next position to read, 0 to n − 1"
  unfoldable pub position_inside : (n : ℕ) → Bool
  position_inside n = ltb (byte r 1) n

  -- "2 island c, below K"
  unfoldable pub island_inside : (K : ℕ) → Bool
  island_inside K = ltb (byte r 2) K

  -- "4 best island, below K"
  unfoldable pub best_inside : (K : ℕ) → Bool
  best_inside K = ltb (byte r 4) K

  -- "5 flag to write, 1 adopt or 2 commit"; "Byte 5 is zero outside phases 5, 6."
  unfoldable pub flag_known : Bool
  flag_known = cond (eqb phase 5 || eqb phase 6) (eqb (byte r 5) 1 || eqb (byte r 5) 2) (eqb (byte r 5) 0)

  -- of "6–7 zero" and "20–23 zero" the bytes that are left, 7 and 22–23
  unfoldable pub rest_zero : Bool
  rest_zero = zeros (part gap_at gap r) && zeros (part tail_at tail r)

  -- "Idle is all zero."
  unfoldable pub idle_zero : Bool
  idle_zero = implies (eqb phase 0) (zeros r)

  -- "Bytes 1, 3 and 16–19 are zero outside phases 2, 4, 6."
  unfoldable pub collect_zero : Bool
  collect_zero = collecting || (eqb (byte r 1) 0 && eqb (byte r 3) 0 && zeros (part 16 4 r))

  -- "Byte 4 is zero outside phase 2."
  unfoldable pub best_island_zero : Bool
  best_island_zero = eqb phase 2 || eqb (byte r 4) 0

  -- "While seen is 0, the best fields are zero."
  unfoldable pub best_zero : Bool
  best_zero = implies (eqb (byte r 3) 0) (eqb (byte r 4) 0 && zeros (part 16 4 r))

  -- "Seen in phase 2: 0 nothing, 1 something. In 4: .. 2 different figures. In 6: .. 3 a commit beside .."
  unfoldable pub seen_known : Bool
  seen_known = leb (byte r 3) (cond (eqb phase 2) 1 (cond (eqb phase 4) 2 3))

-- the same mark, island and figure
unfoldable pub same_register : Register Figure → Register Figure → Bool
same_register empty empty = true
same_register empty (filled f k v) = false
same_register (filled f k v) empty = false
same_register (filled f k v) (filled g j w) = eqb (flag_number f) (flag_number g) && eqb k j && same_figure v w

-- "In phases 2, 4 and 6": a test of a station that collects, passed by every other
abbrev pub while_reading : (Turn → (c : ℕ) (x : Figure) (p : ℕ) → Seen Figure → Bool) → Station Figure → Bool
while_reading test idle = true
while_reading test (active v (writing t c x)) = true
while_reading test (active v (reading t c x p a)) = test t c x p a
while_reading test (active v (has_decided c x)) = true
while_reading test (active v (is_spent c x)) = true

-- "the station's own register holds what the record says it wrote: (c, carried), carried, or (flag, carried)"; i is the
-- station's index from 0
unfoldable pub own_written : (n i : ℕ) → List ℕ → Station Figure → Bool
own_written n i b s = while_reading (λ t c x p a. same_register (register_of n (array t c) i b) (entry t c x)) s

-- "seen is not 0, and in phases 2 and 4 best is no lower than what it wrote"
unfoldable pub own_seen : Turn → (c : ℕ) (x : Figure) → Seen Figure → Bool
own_seen t c x nothing = false
own_seen turn_m c x (seen g k y) = not (pair_above figures c x k y)
own_seen turn_a c x (seen g k y) = not (figures.above x y)
own_seen (turn_b f) c x (seen g k y) = true

-- "Once its own position is passed": the next position is greater than the station's index.
unfoldable pub own_passed : (i : ℕ) → Station Figure → Bool
own_passed i s = while_reading (λ t c x p a. implies (ltb i p) (own_seen t c x a)) s

-- 02: "the steps of its present pass (a whole one, 3(n + 1), once decided or spent)". A turn is n + 1 steps: its write
-- and n reads. A pass at its phase has the turns before this one behind it, and in a collect the write and the reads
-- before its position.
unfoldable pub turns_before : Turn → ℕ
turns_before turn_m = 0
turns_before turn_a = 1
turns_before (turn_b f) = 2

unfoldable pub present_pass : (n : ℕ) → Stage Figure → ℕ
present_pass n (writing t c x) = turns_before t * (n + 1)
present_pass n (reading t c x p a) = turns_before t * (n + 1) + 1 + p
present_pass n (has_decided c x) = 3 * (n + 1)
present_pass n (is_spent c x) = 3 * (n + 1)

unfoldable pub island_of : Stage Figure → ℕ
island_of (writing t c x) = c
island_of (reading t c x p a) = c
island_of (has_decided c x) = c
island_of (is_spent c x) = c

-- 02: "at most 3(n + 1) × c plus the steps of its present pass"; an idle station has taken none
unfoldable pub most_steps : (n : ℕ) → Station Figure → ℕ
most_steps n idle = 0
most_steps n (active v s) = 3 * (n + 1) * island_of s + present_pass n s

unfoldable pub steps_kept : (n steps : ℕ) → Station Figure → Bool
steps_kept n steps s = leb steps (most_steps n s)

-- 02, of the filled registers met: "never above the position, zero elsewhere"
unfoldable pub most_met : Station Figure → ℕ
most_met idle = 0
most_met (active v (writing t c x)) = 0
most_met (active v (reading t c x p a)) = p
most_met (active v (has_decided c x)) = 0
most_met (active v (is_spent c x)) = 0

unfoldable pub met_kept : (met : ℕ) → Station Figure → Bool
met_kept met s = leb met (most_met s)

-- all clauses on a record alone
unfoldable pub fields_sound : (n K phase : ℕ) → List ℕ → Bool
fields_sound n K phase r =
    phase_known phase r && position_inside phase r n && island_inside phase r K && best_inside phase r K
    && flag_known phase r
    && rest_zero phase r && idle_zero phase r && collect_zero phase r && best_island_zero phase r && best_zero phase r
    && seen_known phase r

-- and on its station's own register and its counts
unfoldable pub record_sound : (n K i : ℕ) → (b r : List ℕ) → Bool
record_sound n K i b r =
    let f = read_record r in
    let s = record_value f in
    fields_sound n K (byte r 0) r && own_written n i b s && own_passed i s && steps_kept n f.steps s
    && met_kept f.met s

-- "A board that keeps all this is sound"; n and K are its own and its length fits them.
unfoldable pub sound : (n K : ℕ) → List ℕ → Bool
sound n K b = head_sound b && registers_sound n K b && every n λ i. record_sound n K i b (record_of n K i b)
