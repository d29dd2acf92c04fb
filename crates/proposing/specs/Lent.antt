-- A station and its figure as a pair.
-- Relies on the model's pairs; the contracts that make or try one rely on it.
use Rattle.std.specs.Prelude.{ℕ}
use Rattle.model.specs.Figure.{Figure}
use Rattle.model.specs.Proposals.{Proposal}

abbrev pub pair_of : ℕ → Figure → Proposal
pair_of i v = record { station = i; figure = v }
