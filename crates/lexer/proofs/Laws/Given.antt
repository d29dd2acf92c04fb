-- What a reader gave, taken apart: the readers that it was put together of gave something too.
-- Relies on the model's `found` and `and_then`; the laws of a known number here, and those of items above, rely on it.
use Rattle.model.proofs.Kit.{◌≡◌, refl, ap, Bool, true, false, cond, List, none, some, Option, ℕ}
use Rattle.model.specs.Forms.{Read, found, and_then}
use Rattle.model.proofs.Basics.Tests.{never}

pub found_one : {A : Type 0} (a b : A) (k l : List ℕ) → found a k ≡ found b l → (a ≡ b) × (k ≡ l)
unfolding found
found_one {A = A} a b k l e =
    let d : ◌≡◌ {A = Read A} (record { value = a; rest = k }) (record { value = b; rest = l }) = cc in
    (ap (λ (r : Read A). r.value) d, ap (λ (r : Read A). r.rest) d)

-- by a test that passed
pub passed : {A : Type 0} (t : Bool) (o : Option A) (a : A) → cond t o none ≡ some a → (t ≡ true) × (o ≡ some a)
passed true o a e = (refl, e)
passed false o a e = never a e

-- by a reader that goes on with what another gave
pub record Through {A B : Type 0} (o : Option (Read A)) (go : A → List ℕ → Option B) (b : B) : Type 0 where
  pub value : A
  pub rest : List ℕ
  pub read : o ≡ found value rest
  pub goes : go value rest ≡ some b

pub through : {A B : Type 0} (o : Option (Read A)) (go : A → List ℕ → Option B) (b : B) → and_then o go ≡ some b
    → Through o go b
unfolding and_then found
through none go b e = never b e
through (some r) go b e = record { value = r.value; rest = r.rest; read = refl; goes = e }
