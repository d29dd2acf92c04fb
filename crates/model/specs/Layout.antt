-- The board: where its parts stand, and a register and a record as bytes and back.
-- Relies on Bytes, Figure and the listing's values; soundness and the calls rely on it. It knows no algorithm.
use Rattle.std.specs.Prelude.{cond, List, [], ◌∷◌, ◌++◌, ℕ, zero, suc, ◌+◌, ◌*◌, ◌-◌, eqb, replicate, pos}
use Rattle.model.specs.declared.Record.{Record}
use Rattle.model.specs.declared.Register as Fields
use Rattle.model.specs.Bytes.{byte, number, digits, part, splice}
use Rattle.model.specs.Figure.{Figure, figure, figure_bytes}
use Rattle.model.specs.Listing.{Turn, turn_m, turn_a, turn_b, first, second, third, Array, in_m, in_a, in_b, Register}
use Rattle.model.specs.Listing.{empty, filled, Seen, nothing, seen, writing, reading, has_decided, is_spent}
use Rattle.model.specs.Listing.{Station, idle, active, flag_of, flag_number}

-- "Length is exactly 8 + 32n + 16nK"
unfoldable pub board_length : (n K : ℕ) → ℕ
board_length n K = 8 + 32 * n + 16 * (n * K)

-- "The max register m: n registers, one per station. Per island: n A-registers, then n B-registers."
unfoldable pub row_of : Array → ℕ
row_of in_m = 0
row_of (in_a c) = 1 + 2 * c
row_of (in_b c) = 2 + 2 * c

-- After "Head, 8 bytes: n, K, six zeros": the register of station index j (from 0) in an array.
unfoldable pub register_at : (n : ℕ) → Array → (j : ℕ) → ℕ
register_at n a j = 8 + 8 * (n * row_of a + j)

-- "n station records of 24 bytes", after the 1 + 2K rows of registers
unfoldable pub record_at : (n K j : ℕ) → ℕ
record_at n K j = 8 + 8 * (n * (1 + 2 * K)) + 24 * j

-- "lays a fresh board, zero in every byte but n and K"
unfoldable pub fresh_board : (n K : ℕ) → List ℕ
fresh_board n K = n ∷ K ∷ replicate (board_length n K - 2) 0

-- "A register has 8 bytes: mark, island, two zeros, figure."
unfoldable pub read_register : List ℕ → Fields.Register
read_register r = record { mark = byte r 0; island = byte r 1; figure = figure (part 4 4 r) }

-- and the bytes of such fields
unfoldable pub lay_register : Fields.Register → List ℕ
lay_register f = f.mark ∷ f.island ∷ 0 ∷ 0 ∷ figure_bytes f.figure

-- "An empty register is all zero. Marks: m and A 1 written; B 1 adopt, 2 commit."
unfoldable pub register_fields : Register Figure → Fields.Register
register_fields empty = record { mark = 0; island = 0; figure = pos 0 }
register_fields (filled f k v) = record { mark = flag_number f; island = k; figure = v }

-- and back: a register whose mark is 0 is empty
unfoldable pub register_value : Fields.Register → Register Figure
register_value f = elim f.mark [ zero ↦ empty | suc m ↦ filled (flag_of (suc m)) f.island f.figure ]

-- what the collect has seen, as "3 seen", "4 best island" and "16–19 best figure"
unfoldable pub seen_number : Seen Figure → ℕ
seen_number nothing = 0
seen_number (seen first k y) = 1
seen_number (seen second k y) = 2
seen_number (seen third k y) = 3

unfoldable pub best_island : Seen Figure → ℕ
best_island nothing = 0
best_island (seen g k y) = k

unfoldable pub best_figure : Seen Figure → Figure
best_figure nothing = pos 0
best_figure (seen g k y) = y

-- and back
unfoldable pub seen_of : ℕ → (k : ℕ) → Figure → Seen Figure
seen_of zero k y = nothing
seen_of (suc zero) k y = seen first k y
seen_of (suc (suc zero)) k y = seen second k y
seen_of (suc (suc (suc g))) k y = seen third k y

-- "byte 0 phase (0 idle, 1 write m, 2 read m, 3 write A, 4 read A, 5 write B, 6 read B, 7 decided, 8 spent)"
unfoldable pub write_phase : Turn → ℕ
write_phase turn_m = 1
write_phase turn_a = 3
write_phase (turn_b f) = 5

-- "5 flag to write, 1 adopt or 2 commit", "zero outside phases 5, 6"
unfoldable pub flag_byte : Turn → ℕ
flag_byte turn_m = 0
flag_byte turn_a = 0
flag_byte (turn_b f) = flag_number f

-- a record by its fields, its counts last
abbrev pub as_record : (phase position island seen highest flag : ℕ) (proposal carried best : Figure) (steps met : ℕ)
    → Record
as_record h p c g k f v x y s m = record {
  phase = h;
  position = p;
  island = c;
  seen = g;
  highest = k;
  flag = f;
  proposal = v;
  carried = x;
  best = y;
  steps = s;
  met = m;
}

-- where the counts stand among its bytes
abbrev pub met_at : ℕ
met_at = 6

abbrev pub steps_at : ℕ
steps_at = 20

-- "A record: byte 0 phase; 1 next position to read; 2 island c; 3 seen; 4 best island; 5 flag to write; 6–7 zero; 8–11
-- proposal; 12–15 carried figure; 16–19 best figure"; 02: "bytes 20–21 hold the station's own accepted steps since its
-- proposal", "record byte 6 counts" the filled registers met; of 01's "6–7 zero" the byte 7 is left, of its "20–23
-- zero" the bytes 22–23
unfoldable pub read_record : List ℕ → Record
read_record r =
    as_record (byte r 0) (byte r 1) (byte r 2) (byte r 3) (byte r 4) (byte r 5)
    (figure (part 8 4 r)) (figure (part 12 4 r)) (figure (part 16 4 r)) (number (part steps_at 2 r)) (byte r met_at)

-- the bytes without a field: where they begin and how many they are, 7 and 22–23
abbrev pub gap_at : ℕ
gap_at = 7

abbrev pub gap : ℕ
gap = 1

abbrev pub tail_at : ℕ
tail_at = 22

abbrev pub tail : ℕ
tail = 2

-- and the bytes of such fields
unfoldable pub lay_record : Record → List ℕ
lay_record f =
    (f.phase ∷ f.position ∷ f.island ∷ f.seen ∷ f.highest ∷ f.flag ∷ f.met ∷ 0 ∷ [])
    ++ figure_bytes f.proposal ++ figure_bytes f.carried ++ figure_bytes f.best
    ++ digits 2 f.steps ++ replicate tail 0

-- One field of a record with the value that it comes to have.
pub data Change : Type 0 where
  phase_is position_is island_is seen_is highest_is flag_is : ℕ → Change
  proposal_is carried_is best_is : Figure → Change
  steps_is met_is : ℕ → Change

-- Where it stands among the record's bytes, as laid above: a byte, a figure's four bytes, or a number's two, at an
-- offset.
pub data Stored : Type 0 where
  byte_at : (offset value : ℕ) → Stored
  figure_at : (offset : ℕ) → Figure → Stored
  pair_at : (offset value : ℕ) → Stored

abbrev pub stored : Change → Stored
stored (phase_is h) = byte_at 0 h
stored (position_is p) = byte_at 1 p
stored (island_is c) = byte_at 2 c
stored (seen_is g) = byte_at 3 g
stored (highest_is k) = byte_at 4 k
stored (flag_is f) = byte_at 5 f
stored (proposal_is v) = figure_at 8 v
stored (carried_is x) = figure_at 12 x
stored (best_is y) = figure_at 16 y
stored (steps_is k) = pair_at steps_at k
stored (met_is k) = byte_at met_at k

-- what the field at an offset holds afterwards, which held x before
abbrev pub byte_after : Stored → (offset x : ℕ) → ℕ
byte_after (byte_at k y) at x = cond (eqb k at) y x
byte_after (figure_at k y) at x = x
byte_after (pair_at k y) at x = x

abbrev pub figure_after : Stored → (offset : ℕ) (x : Figure) → Figure
figure_after (byte_at k y) at x = x
figure_after (figure_at k y) at x = cond (eqb k at) y x
figure_after (pair_at k y) at x = x

abbrev pub pair_after : Stored → (offset x : ℕ) → ℕ
pair_after (byte_at k y) at x = x
pair_after (figure_at k y) at x = x
pair_after (pair_at k y) at x = cond (eqb k at) y x

-- A record with some of its fields changed, one change after another; every other field is as it was.
abbrev pub change : Stored → Record → Record
change s f =
    as_record (byte_after s 0 f.phase) (byte_after s 1 f.position) (byte_after s 2 f.island)
    (byte_after s 3 f.seen) (byte_after s 4 f.highest) (byte_after s 5 f.flag)
    (figure_after s 8 f.proposal) (figure_after s 12 f.carried) (figure_after s 16 f.best)
    (pair_after s steps_at f.steps) (byte_after s met_at f.met)

unfoldable pub changed : List Change → Record → Record
changed [] f = f
changed (c ∷ cs) f = changed cs (change (stored c) f)

-- and its bytes, at offset `at` of the bytes b: those of the changed fields are put in, every other byte stays
abbrev pub store : Stored → (at : ℕ) → List ℕ → List ℕ
store (byte_at k x) at b = splice (at + k) (x ∷ []) b
store (figure_at k v) at b = splice (at + k) (figure_bytes v) b
store (pair_at k x) at b = splice (at + k) (digits 2 x) b

unfoldable pub put_changes : List Change → (at : ℕ) → List ℕ → List ℕ
put_changes [] at b = b
put_changes (c ∷ cs) at b = put_changes cs at (store (stored c) at b)

-- The record f once its station stands so: phase, position p, island c, what was seen a, flag, proposal v and carried
-- figure x. A field that tells nothing of how it stands is as it was.
unfoldable pub fields : (phase p c : ℕ) → Seen Figure → (flag : ℕ) (v x : Figure) → Record → Record
fields phase p c a flag v x f =
    changed
    (phase_is phase ∷ position_is p ∷ island_is c ∷ seen_is (seen_number a) ∷ highest_is (best_island a) ∷ flag_is flag
    ∷ proposal_is v ∷ carried_is x ∷ best_is (best_figure a) ∷ [])
    f

-- the record f with this number of steps and of filled registers met
abbrev pub with_counts : (steps met : ℕ) → Record → Record
with_counts k m f = changed (steps_is k ∷ met_is m ∷ []) f

-- "Idle is all zero."
unfoldable pub record_fields : Station Figure → Record → Record
record_fields idle f = fields 0 0 0 nothing 0 (pos 0) (pos 0) f
record_fields (active v (writing t c x)) f = fields (write_phase t) 0 c nothing (flag_byte t) v x f
record_fields (active v (reading t c x p a)) f = fields (write_phase t + 1) p c a (flag_byte t) v x f
record_fields (active v (has_decided c x)) f = fields 7 0 c nothing 0 v x f
record_fields (active v (is_spent c x)) f = fields 8 0 c nothing 0 v x f

-- and back, by the phase
unfoldable pub writing_of : Turn → Record → Station Figure
writing_of t f = active f.proposal (writing t f.island f.carried)

unfoldable pub reading_of : Turn → Record → Station Figure
reading_of t f =
    active f.proposal (reading t f.island f.carried f.position (seen_of f.seen f.highest f.best))

unfoldable pub of_phase : ℕ → Record → Station Figure
of_phase zero f = idle
of_phase (suc zero) f = writing_of turn_m f
of_phase (suc (suc zero)) f = reading_of turn_m f
of_phase (suc (suc (suc zero))) f = writing_of turn_a f
of_phase (suc (suc (suc (suc zero)))) f = reading_of turn_a f
of_phase (suc (suc (suc (suc (suc zero))))) f = writing_of (turn_b (flag_of f.flag)) f
of_phase (suc (suc (suc (suc (suc (suc zero)))))) f = reading_of (turn_b (flag_of f.flag)) f
of_phase (suc (suc (suc (suc (suc (suc (suc zero))))))) f = active f.proposal (has_decided f.island f.carried)
of_phase (suc (suc (suc (suc (suc (suc (suc (suc h)))))))) f = active f.proposal (is_spent f.island f.carried)

unfoldable pub record_value : Record → Station Figure
record_value f = of_phase f.phase f

-- "n registers, one per station", "n station records": the one of station index j
unfoldable pub register_of : (n : ℕ) → Array → (j : ℕ) → List ℕ → Register Figure
register_of n a j b = register_value (read_register (part (register_at n a j) 8 b))

unfoldable pub record_of : (n K j : ℕ) → List ℕ → List ℕ
record_of n K j b = part (record_at n K j) 24 b

abbrev pub fields_of : (n K j : ℕ) → List ℕ → Record
fields_of n K j b = read_record (record_of n K j b)

unfoldable pub station_of : (n K j : ℕ) → List ℕ → Station Figure
station_of n K j b = record_value (fields_of n K j b)
