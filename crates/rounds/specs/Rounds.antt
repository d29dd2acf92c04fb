-- The board after one round by the set of its suspended stations, and after rounds.
-- Relies on the model's rounds and runs; the contracts of one round and of the lent rounds rely on it.
use Rattle.std.specs.Prelude.{Bool, List, ℕ, ◌+◌}
use Rattle.model.specs.Calls.{stations, step_on}
use Rattle.model.specs.Rounds.{in_turn, rounds_steps}
use Rattle.model.specs.Runs.{after}
use Rattle.rounds.specs.Suspended.{suspended}

-- each station that is not suspended took so many single steps, in station order
abbrev pub after_turns : (steps : ℕ) → List Bool → List ℕ → List ℕ
after_turns steps halted b = after step_on b (in_turn steps (stations b) (suspended halted))

abbrev pub after_round : List Bool → List ℕ → List ℕ
after_round halted b = after_turns (stations b + 1) halted b

abbrev pub after_rounds : List (List ℕ) → List ℕ → List ℕ
after_rounds rs b = after step_on b (rounds_steps (stations b) rs)
