-- Items as the code reads them: how many steps they stand for, and the place after them; or the number of the refusal.
-- Relies on the model's items and on what a number's place says; the contracts of the readers of items rely on it.
use Rattle.std.specs.Prelude.{◌≡◌, List, ℕ, min, ◌<◌, length, drop}
use Rattle.std.specs.declared.result.Result.{Result}
use Rattle.std.proofs.Math.Option.{Option}
use Rattle.model.specs.declared.refusal.Refusal.{Refusal}
use Rattle.model.specs.Forms.{Read, expand_item, expand, times_in, item_in, items_in, or_four}
use Rattle.lexer.specs.declared.At.{At}
use Rattle.lexer.specs.Placed.{placed, NumberInside}
use Rattle.list_laws.specs.Lists.{read_as}

-- "The items expand to more than 65,536 steps.": any such number counts as 65,537
abbrev pub capped : ℕ → ℕ
capped x = min x 65537

-- the next place lies behind `at` and within the line, and the count is capped
abbrev pub CountedInside : List ℕ → (at : ℕ) → Result (At ℕ) Refusal → Type 0
CountedInside line at r = NumberInside line at 0 65537 r

-- what was read, by the steps that it expands to
abbrev pub sized : {A : Type 0} → (A → List ℕ) → Option (Read A) → Option (Read ℕ)
sized steps o = read_as (λ a. capped (length (steps a))) o

-- the number of "(times k ", with the place after it
pub record TimesIs (line : List ℕ) (at : ℕ) (r : Result (At ℕ) Refusal) : Type 0 where
  pub reads : placed line r ≡ or_four (times_in (drop at line))
  pub inside : NumberInside line at 1 99999 r

-- the model's reader agrees whatever its fuel, if that exceeds the bytes left
pub record ItemIs (line : List ℕ) (at : ℕ) (r : Result (At ℕ) Refusal) : Type 0 where
  pub reads : (fuel : ℕ) → length (drop at line) < fuel
      → placed line r ≡ or_four (sized expand_item (item_in fuel (drop at line)))
  pub inside : CountedInside line at r

pub record ItemsAre (line : List ℕ) (at : ℕ) (r : Result (At ℕ) Refusal) : Type 0 where
  pub reads : (fuel : ℕ) → length (drop at line) < fuel
      → placed line r ≡ or_four (sized expand (items_in fuel (drop at line)))
  pub inside : CountedInside line at r
