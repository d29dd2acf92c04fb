-- A round as the code reads it: a list of stations in brackets. A line's rounds are a list of rounds.
-- Relies on lists as they are read and on what rounds ask of a board; the contracts of the readers of rounds rely on
-- it.
use Rattle.std.specs.Prelude.{◌≡◌, List, ℕ, drop}
use Rattle.std.specs.declared.result.Result.{Result}
use Rattle.model.specs.declared.refusal.Refusal.{Refusal}
use Rattle.model.specs.Forms.{round_in, or_four}
use Rattle.halts.specs.Needs.{round_needs}
use Rattle.lexer.specs.declared.At.{At}
use Rattle.lexer.specs.Placed.{placed, Inside}
use Rattle.list_laws.specs.declared.Listed.{Listed}
use Rattle.list_laws.specs.Lists.{read_as, summary}

-- a round that may name k stations
pub record RoundIs (line : List ℕ) (at k : ℕ) (r : Result (At Listed) Refusal) : Type 0 where
  pub reads : placed line r ≡ or_four (read_as (summary (round_needs k)) (round_in (drop at line)))
  pub inside : Inside line at r
