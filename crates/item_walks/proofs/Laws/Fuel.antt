-- What the model's readers of items read does not depend on their fuel.
-- Relies on the model's items; the laws of items that stand in a line rely on it, whose reads have fuels of their own.
use Rattle.model.proofs.Kit.{◌≡◌, refl, subst, Bool, true, false, cond, List, none, some, Option, ℕ, zero, suc, ◌+◌}
use Rattle.model.proofs.Kit.{eqb, drop, arith}
use native.Mathlib.Nat.{add_comm}
use Rattle.model.proofs.Basics.Tests.{never}
use Rattle.model.specs.Bytes.{byte}
use Rattle.model.specs.Forms.{Items, Read, and_then, spaced, times_in, item_in, items_in}

-- whatever o gives, p gives too
abbrev Below : {A : Type 0} → Option A → Option A → Type 0
Below {A = A} o p = (a : A) → o ≡ some a → p ≡ some a

below_self : {A : Type 0} (o : Option A) → Below o o
below_self o a e = e

below_cond : {A : Type 0} (t : Bool) {x y v w : Option A} → Below x v → Below y w → Below (cond t x y) (cond t v w)
below_cond true h l = h
below_cond false h l = l

below_then : {A B : Type 0} (o p : Option (Read A)) (f g : A → List ℕ → Option B)
    → Below o p → ((a : A) (l : List ℕ) → Below (f a l) (g a l)) → Below (and_then o f) (and_then p g)
unfolding and_then
below_then none p f g h k b e = never b e
below_then (some r) p f g h k b e = rw (h r refl) (k r.value r.rest b e)

-- one more of fuel reads at least as much
pub record Grows (k : ℕ) : Type 0 where
  pub item : (l : List ℕ) → Below (item_in k l) (item_in (suc k) l)
  pub items : (l : List ℕ) → Below (items_in k l) (items_in (suc k) l)

item_grows : (k : ℕ) → Grows k → (l : List ℕ) → Below (item_in (suc k) l) (item_in (suc (suc k)) l)
unfolding item_in
item_grows k h l =
    below_cond (eqb (byte l 0) 40)
    (below_then (times_in l) (times_in l) _ _ (below_self (times_in l))
    (λ c inner. below_then (items_in k inner) (items_in (suc k) inner) _ _ (h.items inner) (λ is rest. below_self _)))
    (below_self _)

items_grow : (k : ℕ) → Grows k → (l : List ℕ) → Below (items_in (suc k) l) (items_in (suc (suc k)) l)
unfolding items_in spaced
items_grow k h l =
    below_cond (eqb (byte l 0) 41) (below_self _)
    (below_then _ _ _ _ (below_cond (eqb (byte l 0) 32) (h.item (drop 1 l)) (below_self none))
    (λ i more. below_then (items_in k more) (items_in (suc k) more) _ _ (h.items more) (λ is rest. below_self _)))

grows : (k : ℕ) → Grows k
unfolding item_in items_in
grows zero = record { item = λ l a e. never a e; items = λ l a e. never a e }
grows (suc k) = record { item = item_grows k (grows k); items = items_grow k (grows k) }

much_more : (d k : ℕ) (l : List ℕ) → Below (items_in k l) (items_in (d + k) l)
much_more zero k l a e = subst (λ (j : ℕ). items_in j l ≡ some a) (omega arith) e
much_more (suc d) k l a e =
    subst (λ (j : ℕ). items_in j l ≡ some a) (omega arith) ((grows (d + k)).items l a (much_more d k l a e))

-- two reads of the same items
pub agree : (j k : ℕ) (l : List ℕ) (r s : Read Items) → items_in j l ≡ some r → items_in k l ≡ some s → r ≡ s
agree j k l r s e f =
    let p : items_in (k + j) l ≡ some r = much_more k j l r e in
    let q : items_in (k + j) l ≡ some s = subst (λ (n : ℕ). items_in n l ≡ some s) (add_comm j k) (much_more j k l s f) in
    cc
