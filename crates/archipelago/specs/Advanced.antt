-- What `advance` asks of a record and what its result says of the listing's move.
-- Relies on the model's listing and layout; the contracts of `advance`, of the reads and of the ends rely on it.
use Rattle.std.specs.Prelude.{◌≡◌, Bool, false, cond, [], ◌∷◌, ℕ, ◌+◌, ◌≤◌, ◌<◌, Some, None}
use Rattle.std.proofs.Math.Option.{Option, none, some}
use Rattle.model.specs.declared.Record.{Record}
use Rattle.model.specs.declared.Register as Fields
use Rattle.model.specs.declared.StepAnswer.{StepAnswer}
use Rattle.model.specs.declared.StepAnswer.TheVariants.{Wrote, Read, Marked}
use Rattle.model.specs.Figure.{Figure, figures}
use Rattle.model.specs.Listing.{Turn, Stage, nothing, reading, has_decided, active, decided, stay, ended, Register, Move, move}
use Rattle.model.specs.Layout.{record_fields, record_value, register_fields, register_value, fields, changed, phase_is}
use Rattle.model.specs.Layout.{position_is}
use Rattle.model.specs.Filled.{report}
use Rattle.model.specs.Told.{told}
use Rattle.archipelago.specs.declared.Moved.{Moved}
use Rattle.collect.specs.Collected.{collected}

-- A record as `advance` takes it: of a station that is going, whose fields hold what its phase has a use for and
-- nothing else. Every record of a sound board whose phase is 1 to 6 is ready (proofs/Laws/Ready.antt of stepping).
pub record Ready (n K : ℕ) (f : Record) : Type 0 where
  pub whole : record_fields (record_value f) f ≡ f
  pub begun : 1 ≤ f.phase
  pub going : f.phase ≤ 6
  pub position : f.position < n
  pub island : f.island < K

-- the same for the collect of one turn
pub record Reads (t : Turn) (n : ℕ) (f : Record) : Type 0 where
  pub whole : record_fields (active f.proposal (reading t f.island f.carried f.position (collected f))) f ≡ f
  pub position : f.position < n

-- what is written: nothing, or the fields of the register
unfoldable pub Written : Option (Register Figure) → Moved → Type 0
Written none r = r.written ≡ None
Written (some w) r = r.written ≡ Some (register_fields w)

-- The result r is the move m of the station with the record f. A move knows nothing of filled registers: it answers as
-- if it had met none, and the step puts in what was met.
pub record Advanced (f : Record) (m : Move Figure) (r : Moved) : Type 0 where
  pub station : r.station ≡ record_fields (active f.proposal m.stage) f
  pub written : Written m.written r
  pub answer : told r.answer ≡ report m.answer 0 0

-- What `advance` promises of its result r: it is the listing's move over the register g at the stage that the record f
-- stands for.
unfoldable pub Moves : (n K : ℕ) (f : Record) (g : Fields.Register) (r : Moved) → Type 0
Moves n K f g r =
    (v : Figure) (s : Stage Figure) → record_value f ≡ active v s → Advanced f (move figures n K s (register_value g)) r

-- The same for a record in the collect of turn t.
unfoldable pub MovesReading : (t : Turn) (n K : ℕ) (f : Record) (g : Fields.Register) (r : Moved) → Type 0
MovesReading t n K f g r =
    Advanced f
    (move figures n K (reading t f.island f.carried f.position (collected f)) (register_value g)) r

-- And for a record that has read its last register: the end of the collect of turn t.
unfoldable pub Finishes : (t : Turn) (K : ℕ) (f : Record) (r : Moved) → Type 0
Finishes t K f r = Advanced f (ended K t f.island f.carried (collected f)) r

-- the listing's move where a collect of B saw commits of one figure only
unfoldable pub decision : (c : ℕ) (x : Figure) → Move Figure
decision c x = stay (has_decided c x) (decided c x)

-- The three shapes of a result: nothing written, a read that is not the last, and a write.
unfoldable pub staying : Record → StepAnswer → Moved
staying f a = record { station = f; written = None; answer = a }

unfoldable pub passing : Record → Moved
passing f = staying (changed (position_is (f.position + 1) ∷ []) f) (Read false)

unfoldable pub writing : Record → (mark island : ℕ) → Moved
writing f mark island = record {
  station = changed (phase_is (f.phase + 1) ∷ []) f;
  written = Some (record { mark = mark; island = island; figure = f.carried });
  answer = Wrote;
}

-- a result that begins a phase and writes nothing
unfoldable pub begins : (phase island flag : ℕ) → Record → Figure → StepAnswer → Moved
begins phase island flag f y a = staying (fields phase 0 island nothing flag f.proposal y f) a

-- the one that follows a collect of A whose figures were all the same one, or not
unfoldable pub marks : Record → (same : Bool) → Moved
marks f same =
    let flag : ℕ = cond same 2 1 in begins 5 f.island flag f f.best (Marked flag 0 f.best)
