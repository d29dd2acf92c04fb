-- What a played line promises: what the model plays, handed back by value.
-- Relies on the model's sheet; the contracts of the player and of a sheet line by line rely on it.
use Rattle.std.specs.Prelude.{◌≡◌, List, ℕ, ◌<◌, length, min, Ok, Err}
use Rattle.std.specs.declared.result.Result.{Result}
use Rattle.model.specs.declared.refusal.Refusal.{Refusal}
use Rattle.model.specs.declared.refusal.Refusal.TheVariants.{NoBoardLaid}
use Rattle.model.specs.Proposals.{Proposal}
use Rattle.model.specs.Forms.{Form, Items, steps, rounds, proposals, reads, read_line}
use Rattle.model.specs.Sheet as model
use Rattle.model.specs.Sheet.{refused_text}
use Rattle.model.specs.Told.{number}
use Rattle.player.specs.declared.line.Played.{Played}

-- the line that is printed, or the refusal as a line
abbrev pub printed : Result (List ℕ) Refusal → List ℕ
printed (Ok line) = line
printed (Err r) = refused_text (number r)

pub record Plays (p : model.Played) (r : Played) (d : List ℕ) : Type 0 where
  pub line : r.line ≡ p.printed
  pub laid : r.laid ≡ p.laid
  pub memory : d ≡ p.memory
  pub short : length p.printed < 512

-- a line that lays no board
pub record Prints (p : model.Played) (laid : ℕ) (r : Result (List ℕ) Refusal) (d : List ℕ) : Type 0 where
  pub line : printed r ≡ p.printed
  pub stays : laid ≡ p.laid
  pub memory : d ≡ p.memory
  pub short : length p.printed < 512

-- the part of so long a memory that a call is lent, or "5. A form other than `board` comes before any accepted `board`."
abbrev pub PartOf : (laid len : ℕ) → Result ℕ Refusal → Type 0
PartOf laid len (Ok p) = (laid ≡ 0 → ⊥) × (p ≡ min laid len)
PartOf laid len (Err r) = (laid ≡ 0) × (r ≡ NoBoardLaid)

-- a form whose numbers tell all of it
unfoldable pub PlaysForm : Form → (laid : ℕ) (m : List ℕ) → Result (List ℕ) Refusal → List ℕ → Type 0
PlaysForm f laid m r d = Prints (model.play_form laid m f) laid r d

-- a line that was read as `steps`
unfoldable pub PlaysSteps : (line : List ℕ) (laid : ℕ) (m : List ℕ) → Result (List ℕ) Refusal → List ℕ → Type 0
PlaysSteps line laid m r d =
    (is : Items) → read_line line ≡ reads (steps is) → Prints (model.play_form laid m (steps is)) laid r d

-- and one that was read as `rounds`
unfoldable pub PlaysRounds : (line : List ℕ) (laid : ℕ) (m : List ℕ) → Result (List ℕ) Refusal → List ℕ → Type 0
PlaysRounds line laid m r d =
    (k : ℕ) (rs : List (List ℕ)) → read_line line ≡ reads (rounds k rs)
    → Prints (model.play_form laid m (rounds k rs)) laid r d

-- and one that was read as pairs
unfoldable pub PlaysProposals : (line : List ℕ) (laid : ℕ) (m : List ℕ) → Result (List ℕ) Refusal → List ℕ → Type 0
PlaysProposals line laid m r d =
    (ps : List Proposal) → read_line line ≡ reads (proposals ps)
    → Prints (model.play_form laid m (proposals ps)) laid r d
