-- Rounds as they stand in a line.
-- Relies on the model's reader of rounds and on sets of suspended stations; the contracts of the crate rely on it.
use Rattle.std.specs.Prelude.{◌≡◌, Bool, List, ℕ, ◌≤◌, ◌<◌, length, drop}
use Rattle.model.specs.Calls.{stations, step_on}
use Rattle.std.specs.declared.result.Result.{Result}
use Rattle.model.specs.declared.refusal.Refusal.{Refusal}
use Rattle.model.specs.declared.RoundsPlayed.{RoundsPlayed}
use Rattle.model.specs.Forms as forms
use Rattle.model.specs.Forms.{found, round_in, rounds_in, word_place, reads, read_line}
use Rattle.model.specs.Rounds.{rounds_steps, rounds}
use Rattle.model.specs.Runs.{after}
use Rattle.model.specs.Told.{rounds_told}
use Rattle.lexer.specs.declared.At.{At}
use Rattle.sheet.specs.declared.form.LineForm.TheVariants.{Rounds}
use Rattle.sheet.specs.LineForms.{line_form}
use Rattle.rounds.specs.Suspended.{Suspends}

-- a round stands at `at`
pub record RoundStands (line : List ℕ) (at : ℕ) : Type 0 where
  pub round : List ℕ
  pub rest : List ℕ
  pub read : round_in (drop at line) ≡ found round rest

-- the stations that a round at `at` suspends, with the place where the rest of the line begins
pub record RoundRead (line : List ℕ) (at : ℕ) (round rest : List ℕ) (r : At (List Bool)) : Type 0 where
  pub set : Suspends r.value round
  pub follows : drop r.next line ≡ rest
  pub behind : at < r.next
  pub inside : r.next ≤ length line

unfoldable pub RoundIs : (line : List ℕ) (at : ℕ) → At (List Bool) → Type 0
RoundIs line at r = (round rest : List ℕ) → round_in (drop at line) ≡ found round rest → RoundRead line at round rest r

-- rounds stand from `at` on, each behind a space, up to the closing bracket
pub record RoundsStand (line : List ℕ) (at : ℕ) : Type 0 where
  pub rounds : List (List ℕ)
  pub rest : List ℕ
  pub read : rounds_in (drop at line) ≡ found rounds rest

-- and their single steps on the board b leave the board d
unfoldable pub RoundsPlay : (line : List ℕ) (at : ℕ) (b d : List ℕ) → Type 0
RoundsPlay line at b d =
    (rs : List (List ℕ)) (rest : List ℕ) → rounds_in (drop at line) ≡ found rs rest
    → d ≡ after step_on b (rounds_steps (stations b) rs)

-- the line was read as `rounds` with its number behind the space at `at`, so many rounds and what they need
unfoldable pub LineHas : (line : List ℕ) (at count needs : ℕ) → Type 0
LineHas line at count needs = line_form (word_place line) (read_line line) ≡ reads (Rounds at count needs)

-- and its rounds are played as the call `rounds` plays them
unfoldable pub PlaysLine : (line b : List ℕ) → Result RoundsPlayed Refusal → List ℕ → Type 0
PlaysLine line b r d =
    (k : ℕ) (rs : List (List ℕ)) → read_line line ≡ reads (forms.rounds k rs)
    → (rounds_told r ≡ (rounds k rs b).answer) × (d ≡ (rounds k rs b).bytes)
