-- What a played line leaves, without what it prints: the board in force and the memory.
-- Relies on the model's sheet; the contracts of the crate rely on it, and so does the tape of a line.
use Rattle.std.specs.Prelude.{◌≡◌, List, ℕ}
use Rattle.model.specs.Proposals.{Proposal}
use Rattle.model.specs.Forms.{proposals, reads, read_line}
use Rattle.model.specs.Sheet.{Played, play_form}

pub record Done (p : Played) (board : ℕ) (d : List ℕ) : Type 0 where
  pub laid : board ≡ p.laid
  pub memory : d ≡ p.memory

-- a line that was read as pairs
unfoldable pub PairsDone : (line : List ℕ) (laid : ℕ) (m d : List ℕ) → Type 0
PairsDone line laid m d =
    (ps : List Proposal) → read_line line ≡ reads (proposals ps) → Done (play_form laid m (proposals ps)) laid d
