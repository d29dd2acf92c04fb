-- What a reader gives, if it gives anything, and how that is known of readers put together.
-- Relies on the forms; that the readers take nothing but the written grammar relies on it.
use Rattle.model.proofs.Kit.{◌≡◌, Bool, true, cond, List, none, some, Option, ℕ}
use Rattle.model.specs.Forms.{Read, and_then}
use Rattle.model.proofs.Basics.Tests.{cond_case}

-- what is given, if anything is, has P
unfoldable pub Always : {A : Type 0} → (A → Type 0) → Option A → Type 0
Always P none = Unit {0}
Always P (some a) = P a

pub always_map : {A : Type 0} (P Q : A → Type 0) (o : Option A) → ((a : A) → P a → Q a) → Always P o → Always Q o
unfolding Always
always_map P Q none f h = tt
always_map P Q (some a) f h = f a h

pub always_then : {A B : Type 0} (Q : Read A → Type 0) (P : B → Type 0) (o : Option (Read A))
    (go : A → List ℕ → Option B)
    → Always Q o → ((r : Read A) → Q r → Always P (go r.value r.rest)) → Always P (and_then o go)
unfolding Always and_then
always_then Q P none go h f = tt
always_then Q P (some r) go h f = f r h

-- where the test fails nothing is given
pub always_if : {A : Type 0} (P : A → Type 0) (t : Bool) (o : Option A) → (t ≡ true → Always P o)
    → Always P (cond t o none)
unfolding Always
always_if P t o f = cond_case (Always P) t o none f (λ e. tt)
