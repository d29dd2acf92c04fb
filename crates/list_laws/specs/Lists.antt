-- Lists as the code reads them: how many things a list has and a number that sums them up, with the place after it; or the
-- refusal.
-- Relies on the model's lists and the lexer's places; the contracts of the readers of rounds and pairs rely on it.
use Rattle.std.specs.Prelude.{◌≡◌, List, ◌++◌, ℕ, ◌<◌, length, drop}
use Rattle.std.specs.declared.result.Result.{Result}
use Rattle.std.proofs.Math.Option.{Option, none, some}
use Rattle.model.specs.declared.refusal.Refusal.{Refusal}
use Rattle.model.specs.Forms.{Read, found, list_in, or_four}
use Rattle.lexer.specs.declared.At.{At}
use Rattle.lexer.specs.Placed.{placed, Inside}
use Rattle.list_laws.specs.declared.Listed.{Listed}

-- what was read, as f tells of it
unfoldable pub read_as : {A B : Type 0} → (A → B) → Option (Read A) → Option (Read B)
read_as f none = none
read_as f (some r) = found (f r.value) r.rest

-- how many things a list has, and what they need together
unfoldable pub summary : {A : Type 0} → (List A → ℕ) → List A → Listed
summary f xs = record { count = length xs; needs = f xs }

-- The things ws and those that stand from `at` on up to the closing bracket, summed up by f; the model's reader agrees
-- whatever its fuel, if that exceeds the bytes left.
pub record ListIs {A : Type 0} (one : List ℕ → Option (Read A)) (f : List A → ℕ) (ws : List A) (line : List ℕ) (at : ℕ)
    (r : Result (At Listed) Refusal) : Type 0 where
  pub reads : (fuel : ℕ) → length (drop at line) < fuel
      → placed line r ≡ or_four (read_as (λ xs. summary f (ws ++ xs)) (list_in one fuel (drop at line)))
  pub inside : Inside line at r
