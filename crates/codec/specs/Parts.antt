-- The parts of a record that are put over the rest of it, which stands already: fields of the record r, in the order in
-- which they are stored. Relies on the model's layout; the contracts of the functions that put a part rely on it.
use Rattle.std.specs.Prelude.{List, [], ◌∷◌, ℕ}
use Rattle.model.specs.declared.Record.{Record}
use Rattle.model.specs.Bytes.{part}
use Rattle.model.specs.Layout.{read_record, Change, phase_is, position_is, island_is, seen_is, highest_is, flag_is}
use Rattle.model.specs.Layout.{carried_is, best_is, met_is, changed}

-- the counts of the record that stands at `at` of the bytes b
abbrev pub steps_read : (at : ℕ) → List ℕ → ℕ
steps_read at b = (read_record (part at 24 b)).steps

abbrev pub met_read : (at : ℕ) → List ℕ → ℕ
met_read at b = (read_record (part at 24 b)).met

-- the record f with k filled registers met
abbrev pub meeting : (k : ℕ) → Record → Record
meeting k f = changed (met_is k ∷ []) f

-- all that a write changes
unfoldable pub phase_part : Record → List Change
phase_part r = phase_is r.phase ∷ []

-- all that a read in the middle of a collect changes but what it met
unfoldable pub collected_part : Record → List Change
collected_part r = position_is r.position ∷ seen_is r.seen ∷ highest_is r.highest ∷ best_is r.best ∷ []

-- all that the end of a collect changes, which is every field but the proposal and the steps; nothing is met any more
unfoldable pub started_part : Record → List Change
started_part r =
    phase_is r.phase ∷ island_is r.island ∷ flag_is r.flag ∷ met_is 0 ∷ carried_is r.carried ∷ collected_part r
