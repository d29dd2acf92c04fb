-- The clauses of model/specs/Sound.antt in the groups in which the code tests them. No clause is stated anew here.
-- Relies on Sound; the contracts of fields and own rely on it.
use Rattle.std.specs.Prelude.{Bool, ◌&&◌, List, ℕ, ◌+◌}
use Rattle.model.specs.declared.Record.{Record}
use Rattle.model.specs.Figure.{Figure}
use Rattle.model.specs.Listing.{Station}
use Rattle.model.specs.Bytes.{number, part}
use Rattle.model.specs.Layout.{lay_record, met_at}
use Rattle.model.specs.Sound.{phase_known, position_inside, island_inside, best_inside, flag_known, rest_zero, idle_zero}
use Rattle.model.specs.Sound.{own_written, own_passed}

-- A clause of the bytes that a record's fields are laid as.
abbrev pub laid : (ℕ → List ℕ → Bool) → Record → Bool
laid clause f = clause f.phase (lay_record f)

abbrev pub bounds_kept : (n K : ℕ) → Record → Bool
bounds_kept n K f =
    laid phase_known f && position_inside f.phase (lay_record f) n && island_inside f.phase (lay_record f) K
    && best_inside f.phase (lay_record f) K

-- the clauses on what a record holds whether it collects or not
abbrev pub always_kept : (n K : ℕ) → Record → Bool
always_kept n K f = bounds_kept n K f && laid flag_known f && laid rest_zero f && laid idle_zero f

-- both clauses on the station's own register
abbrev pub own_kept : (n i : ℕ) → List ℕ → Station Figure → Bool
own_kept n i b s = own_written n i b s && own_passed i s

-- what was met and the byte behind it, of the record that stands at `at` of the bytes b, as one number
abbrev pub met_pair : (at : ℕ) → List ℕ → ℕ
met_pair at b = number (part (at + met_at) 2 b)
