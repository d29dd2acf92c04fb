-- The bounds on a record's two counts as a table: for each phase a board on which they may say so many, and no more.
-- Relies on the calls; proofs/CountBounds.antt proves `CountBounds`.
use Rattle.std.specs.Prelude.{List, [], ◌∷◌, ℕ, ◌+◌, replicate, pos, ◌≡◌, map}
use Rattle.std.proofs.Math.Option.{Option, none, some}
use Rattle.model.specs.Bytes.{splice}
use Rattle.model.specs.Figure.{Figure}
use Rattle.model.specs.Listing.{commit, turn_m, turn_a, turn_b, first, second, nothing, seen, Register, Stage}
use Rattle.model.specs.Listing.{writing, reading, has_decided, is_spent, active, entry, place_array}
use Rattle.model.specs.Layout.{fresh_board, record_at, record_fields, with_counts, fields_of}
use Rattle.model.specs.Layout.{gap_at, tail_at}
use Rattle.model.specs.Calls.{Refusal, put_record, put_register, board_refusal}

-- the one figure of the table
abbrev pub five : Figure
five = pos 5

-- what a station that collects has written
unfoldable pub has_written : Stage Figure → Option (Register Figure)
has_written (writing t c x) = none
has_written (reading t c x p a) = some (entry t c x)
has_written (has_decided c x) = none
has_written (is_spent c x) = none

-- a board on which station 1 stands so, and counts so many steps and filled registers; nothing else is on it
unfoldable pub counting : (n K : ℕ) → Stage Figure → (steps met : ℕ) → List ℕ
counting n K s k m =
    let b = fresh_board n K in
    put_record n K 0 (record_fields (active five s) (with_counts k m (fields_of n K 0 b)))
    (put_register n (place_array s) 0 (has_written s) b)

pub record Row : Type 0 where
  pub n : ℕ
  pub K : ℕ
  pub stage : Stage Figure
  pub steps : ℕ
  pub met : ℕ

unfoldable pub row : (n K : ℕ) → Stage Figure → (steps met : ℕ) → Row
row n K s steps met = record { n = n; K = K; stage = s; steps = steps; met = met }

-- "3(n + 1) × c plus the steps of its present pass (a whole one, 3(n + 1), once decided or spent)", and "never above
-- the position, zero elsewhere"
unfoldable pub rows : List Row
rows =
    row 3 2 (writing turn_m 0 five) 0 0
    ∷ row 3 2 (reading turn_m 0 five 0 nothing) 1 0
    ∷ row 3 2 (reading turn_m 0 five 2 (seen first 0 five)) 3 2
    ∷ row 3 2 (writing turn_a 0 five) 4 0
    ∷ row 3 2 (reading turn_a 0 five 0 nothing) 5 0
    ∷ row 3 2 (reading turn_a 0 five 2 (seen first 0 five)) 7 2
    ∷ row 3 2 (writing (turn_b commit) 0 five) 8 0
    ∷ row 3 2 (reading (turn_b commit) 0 five 0 nothing) 9 0
    ∷ row 3 2 (reading (turn_b commit) 0 five 2 (seen second 0 five)) 11 2
    ∷ row 3 2 (has_decided 0 five) 12 0
    -- on the second island, and spent at its end
    ∷ row 3 2 (writing turn_m 1 five) 12 0
    ∷ row 3 2 (reading turn_a 1 five 1 (seen first 0 five)) 18 1
    ∷ row 3 2 (has_decided 1 five) 24 0
    ∷ row 3 2 (is_spent 1 five) 24 0
    -- a station alone, whose count fills the high byte
    ∷ row 1 44 (writing turn_a 42 five) 254 0
    ∷ row 1 44 (has_decided 43 five) 264 0
    ∷ []

-- what the test of a board says of a row with no step, at the bound, one above it, and with another high byte
unfoldable pub steps_tested : Row → List Refusal
steps_tested r =
    map (λ k. board_refusal (counting r.n r.K r.stage k 0) none)
    (0 ∷ r.steps ∷ (r.steps + 1) ∷ (r.steps + 256) ∷ [])

-- and with nothing met, at that bound and one above it: soundness asks no more of it, so that a collect which has seen
-- something may say that it met nothing
unfoldable pub met_tested : Row → List Refusal
met_tested r =
    map (λ m. board_refusal (counting r.n r.K r.stage 0 m) none) (0 ∷ r.met ∷ (r.met + 1) ∷ [])

-- of "6–7 zero" and "20–23 zero" the bytes that are left
unfoldable pub rest_set : (at : ℕ) → List ℕ
rest_set at = splice (record_at 3 2 0 + at) (1 ∷ []) (counting 3 2 (has_decided 0 five) 12 0)

unfoldable pub CountBounds : Type 0
CountBounds =
    (map steps_tested rows ≡ replicate 16 (none ∷ none ∷ some 11 ∷ some 11 ∷ []))
    × (map met_tested rows ≡ replicate 16 (none ∷ none ∷ some 11 ∷ []))
    × (map (λ at. board_refusal (rest_set at) none) (gap_at ∷ tail_at ∷ (tail_at + 1) ∷ []) ≡ replicate 3 (some 11))
