-- What was read at a place of a line, as the model's reader has it: the thing, and the bytes from the next place on; or
-- the number of the refusal.
-- Relies on the model's forms and the refusals' numbers; the contracts of numbers, and of the readers above, rely on it.
use Rattle.std.specs.Prelude.{◌≡◌, cond, List, ℕ, ◌≤◌, ◌<◌, leb, length, drop, Ok, Err}
use Rattle.std.specs.declared.result.Result.{Result}
use Rattle.std.proofs.Math.Option.{Option, none}
use Rattle.model.specs.declared.refusal.Refusal.{Refusal}
use Rattle.model.specs.Told.{number}
use Rattle.model.specs.Figure.{Figure}
use Rattle.model.specs.Forms.{Read, found, spaced, digits_from, number_in, figure_in}
use Rattle.model.specs.Forms.{Reading, reads, unread, or_four}
use Rattle.lexer.specs.declared.At.{At}

-- a thing that was read, as f tells of it
unfoldable pub placed_as : {A B : Type 0} → (A → B) → List ℕ → Result (At A) Refusal → Reading (Read B)
placed_as f line (Ok a) = reads (record { value = f a.value; rest = drop a.next line })
placed_as f line (Err e) = unread (number e)

abbrev pub placed : {A : Type 0} → List ℕ → Result (At A) Refusal → Reading (Read A)
placed line r = placed_as (λ v. v) line r

-- the next place lies behind `at` and within the line
abbrev pub Inside : {A : Type 0} → List ℕ → (at : ℕ) → Result (At A) Refusal → Type 0
Inside line at (Ok a) = (at < a.next) × (a.next ≤ length line)
Inside line at (Err e) = Unit {0}

-- and the number in its range
abbrev pub NumberInside : List ℕ → (at low high : ℕ) → Result (At ℕ) Refusal → Type 0
NumberInside line at low high (Ok a) = (at < a.next) × (a.next ≤ length line) × (low ≤ a.value) × (a.value ≤ high)
NumberInside line at low high (Err e) = Unit {0}

-- a number that was read, if it is in its range
unfoldable pub up_to : (high : ℕ) → Read ℕ → Option (Read ℕ)
up_to high r = cond (leb r.value high) (found r.value r.rest) none

-- the digits from `at` on behind those of v; they may be none
pub record DigitsIs (line : List ℕ) (at v high : ℕ) (r : Result (At ℕ) Refusal) : Type 0 where
  pub reads : placed line r ≡ or_four (up_to high (digits_from v (drop at line)))
  pub inside : (from : ℕ) → from < at → NumberInside line from v high r

pub record NumberIs (line : List ℕ) (at low high : ℕ) (r : Result (At ℕ) Refusal) : Type 0 where
  pub reads : placed line r ≡ or_four (number_in low high (drop at line))
  pub inside : NumberInside line at low high r

pub record SpacedIs (line : List ℕ) (at : ℕ) (r : Result (At ℕ) Refusal) : Type 0 where
  pub reads : placed line r ≡ or_four (spaced (number_in 0 99) (drop at line))
  pub inside : NumberInside line at 0 99 r

pub record FigureIs (line : List ℕ) (at : ℕ) (r : Result (At Figure) Refusal) : Type 0 where
  pub reads : placed line r ≡ or_four (spaced figure_in (drop at line))
  pub inside : Inside line at r
