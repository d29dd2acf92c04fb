-- What the model's reader found, read back from an answer of the code.
-- Relies on the model's readings and on Placed; the laws of numbers here, and those of items and forms above, rely on it.
use Rattle.std.specs.Prelude.{Ok, Err}
use Rattle.std.specs.declared.result.Result.{Result}
use Rattle.model.proofs.Kit.{◌≡◌, refl, sym, ap, subst, ◌∙◌, List, none, some, Option, ℕ, ◌≤◌, ◌<◌, length, drop}
use Rattle.model.specs.declared.refusal.Refusal.{Refusal}
use Rattle.model.specs.Forms.{Read, found, Reading, reads, unread, or_four}
use Rattle.lexer.specs.declared.At.{At}
use Rattle.lexer.specs.Placed.{placed_as, Inside, NumberInside}

module _ {A : Type 0} where
  unfoldable pub back : Reading A → Option A
  back (reads a) = some a
  back (unread k) = none

  back_is : (o : Option A) → back (or_four o) ≡ o
  unfolding back or_four
  back_is none = refl
  back_is (some a) = refl

  -- an answer that was taken apart: r is the answer, x what it was found to be
  pub was_read : {X : Type 0} (answer : X → Reading A) (o : Option A) (r x : X) → answer r ≡ or_four o → r ≡ x
      → o ≡ back (answer x)
  was_read answer o r x h e = sym (ap back h ∙ back_is o) ∙ ap (λ y. back (answer y)) e

-- what the answer of a reader that was taken apart says, where f tells of what it read
module _ {A B : Type 0} (f : A → B) (line : List ℕ) (r : Result (At A) Refusal) (o : Option (Read B))
    (reads : placed_as f line r ≡ or_four o) where
  pub missed : (e : Refusal) → r ≡ Err e → o ≡ none
  unfolding placed_as back
  missed e is = was_read (placed_as f line) o r _ reads is

  pub there : (a : At A) → r ≡ Ok a → o ≡ found (f a.value) (drop a.next line)
  unfolding placed_as back found
  there a is = was_read (placed_as f line) o r _ reads is

module _ {A : Type 0} (line : List ℕ) (at : ℕ) (r : Result (At A) Refusal) where
  pub inside : Inside line at r → (a : At A) → r ≡ Ok a → (at < a.next) × (a.next ≤ length line)
  inside h a e = subst (Inside line at) e h

pub number_inside : (line : List ℕ) (at low high : ℕ) (r : Result (At ℕ) Refusal) → NumberInside line at low high r
    → (a : At ℕ) → r ≡ Ok a → (at < a.next) × (a.next ≤ length line) × (low ≤ a.value) × (a.value ≤ high)
number_inside line at low high r h a e = subst (NumberInside line at low high) e h
