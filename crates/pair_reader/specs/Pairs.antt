-- A pair as the code reads it: the station and the figure, with the place after them; or the refusal.
-- Relies on the model's pairs and the lexer's places; the contracts of the readers of pairs rely on it.
use Rattle.std.specs.Prelude.{◌≡◌, List, ℕ, drop}
use Rattle.std.specs.declared.result.Result.{Result}
use Rattle.model.specs.declared.refusal.Refusal.{Refusal}
use Rattle.model.specs.Proposals.{Proposal}
use Rattle.model.specs.Forms.{pair_in, or_four}
use Rattle.lexer.specs.declared.At.{At}
use Rattle.lexer.specs.Placed.{placed_as, Inside}
use Rattle.pair_reader.specs.declared.Pair.{Pair}

abbrev pub proposal : Pair → Proposal
proposal p = record { station = p.station; figure = p.figure }

pub record PairIs (line : List ℕ) (at : ℕ) (r : Result (At Pair) Refusal) : Type 0 where
  pub reads : placed_as proposal line r ≡ or_four (pair_in (drop at line))
  pub inside : Inside line at r

-- pairs that are read ask nothing of a board yet
abbrev pub need_nothing : List Proposal → ℕ
need_nothing ps = 0
