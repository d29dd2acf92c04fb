-- Rounds as they stand in a line, taped.
-- Relies on the model's reader of rounds and on steps taped; the contracts of the crate rely on it.
use Rattle.std.specs.Prelude.{◌≡◌, Bool, List, ℕ, ◌+◌, drop}
use Rattle.model.specs.Calls.{stations}
use Rattle.model.specs.Forms.{found, rounds_in}
use Rattle.model.specs.Rounds.{in_turn, rounds_steps}
use Rattle.rounds.specs.Suspended.{suspended}
use Rattle.taping.specs.Taping.{Taping, taped_steps}

-- one round by the set of its suspended stations
abbrev pub turns_taped : List Bool → Taping → Taping
turns_taped halted s = taped_steps (in_turn (stations s.board + 1) (stations s.board) (suspended halted)) s

-- the single steps of the rounds that stand from `at` on bring the state s to the state t
unfoldable pub RoundsTape : (line : List ℕ) (at : ℕ) (s t : Taping) → Type 0
RoundsTape line at s t =
    (rs : List (List ℕ)) (rest : List ℕ) → rounds_in (drop at line) ≡ found rs rest
    → t ≡ taped_steps (rounds_steps (stations s.board) rs) s
