-- Tests joined by "and", "or" and "if": the value that a function returns where one of them is known.
-- Relies on nothing; every return of a function that answers with a bool relies on it.
use Rattle.model.proofs.Kit.{◌≡◌, refl, sym, ap, ◌∙◌, Bool, true, false, cond, ◌&&◌, ◌||◌, not, ℕ, arith}
use Rattle.model.specs.Bytes.{implies}

-- what a call answered and the code then negated
pub no : (r x : Bool) → r ≡ x → not r ≡ true → x ≡ false
no true x e h = absurd (let z : ◌≡◌ {A = ℕ} 0 1 = cc in omega arith)
no false x e h = sym e

pub yes : (r x : Bool) → r ≡ x → not r ≡ false → x ≡ true
yes true x e h = sym e
yes false x e h = absurd (let z : ◌≡◌ {A = ℕ} 0 1 = cc in omega arith)

-- what a call answered, and a chain of tests then had for its value
pub came : (r x v : Bool) → r ≡ x → v ≡ r → v ≡ true → x ≡ true
came r x v e q h = sym e ∙ sym q ∙ h

-- A chain of two, whose first test answered x, and its second r.
module _ (a b x : Bool) (e : x ≡ a) where
  pub and_then : x ≡ true → (r : Bool) → r ≡ b → r ≡ a && b
  and_then h r q = q ∙ sym (ap (λ (t : Bool). t && b) (sym e ∙ h))

  pub and_else : x ≡ false → x ≡ a && b
  and_else h = h ∙ sym (ap (λ (t : Bool). t && b) (sym e ∙ h))

-- A test, and then another where it passes, which together say x.
pub decided : (a b x : Bool) → (a ≡ false → false ≡ x) → (a ≡ true → b ≡ x) → a && b ≡ x
decided true b x f g = g refl
decided false b x f g = f refl

pub regrouped : (a b c d e : Bool) → a && b && c && d && e ≡ a && (b && (c && (d && e)))
regrouped false b c d e = refl
regrouped true false c d e = refl
regrouped true true false d e = refl
regrouped true true true d e = refl

module _ (a b : Bool) where
  pub implies_no : a ≡ false → true ≡ implies a b
  unfolding implies
  implies_no h = ap (λ (x : Bool). not x || b) (sym h)

  pub implies_yes : a ≡ true → b ≡ implies a b
  unfolding implies
  implies_yes h = ap (λ (x : Bool). not x || b) (sym h)

module _ {A : Type 0} (t : Bool) (x y : A) where
  pub cond_yes : t ≡ true → x ≡ cond t x y
  cond_yes h = ap (λ (s : Bool). cond s x y) (sym h)

  pub cond_no : t ≡ false → y ≡ cond t x y
  cond_no h = ap (λ (s : Bool). cond s x y) (sym h)
