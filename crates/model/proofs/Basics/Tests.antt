-- Tests that compute, turned into facts and back: conjunctions, "for each number below k", and lists of zeros.
-- Relies on the definitions of Bytes; all laws about soundness rely on it.
use Rattle.model.proofs.Kit.{◌≡◌, refl, sym, Bool, true, false, cond, ◌&&◌, ◌||◌, not, inl, inr, ⊎_elim, ◌⊎◌}
use Rattle.model.proofs.Kit.{List, [], ◌∷◌, ℕ, zero, suc, ◌<◌, eqb, T, eqb→eq, eqb_refl, length, replicate}
use Rattle.model.proofs.Kit.{none, some, eq-or-lt_of_le, arith}
use native.Mathlib.Nat.{le_of_suc-le-suc}
use Rattle.model.specs.Bytes.{every, zeros, implies}

pub and_l : (a b : Bool) → T (a && b) → T a
and_l true b t = tt
and_l false b t = t

pub and_r : (a b : Bool) → T (a && b) → T b
and_r true b t = t
and_r false b t = absurd t

pub and_i : (a b : Bool) → T a → T b → T (a && b)
and_i true b s t = t
and_i false b s t = s

pub and_false : (a : Bool) → a && false ≡ false
and_false true = refl
and_false false = refl

pub or_case : (a b : Bool) → T (a || b) → T a ⊎ T b
or_case true b t = inl tt
or_case false b t = inr t

pub or_l : (a b : Bool) → T a → T (a || b)
or_l true b t = tt
or_l false b t = absurd t

pub or_r : (a b : Bool) → T b → T (a || b)
or_r true b t = tt
or_r false b t = t

pub true-T : (a : Bool) → a ≡ true → T a
true-T a e = rw e tt

pub T_true : (a : Bool) → T a → a ≡ true
T_true true t = refl
T_true false t = absurd t

pub T_false : (a : Bool) → T (not a) → a ≡ false
T_false true t = absurd t
T_false false t = refl

pub no-T : (a : Bool) → (T a → ⊥) → a ≡ false
no-T true f = absurd (f tt)
no-T false f = refl

-- anything follows where `cc` finds two constructors equal
pub impossible : {X : Type 0} → ◌≡◌ {A = ℕ} 0 1 → X
impossible e = absurd (omega arith)

pub clash : {X : Type 0} → true ≡ false → X
clash e = impossible (cc)

-- nothing is not something
pub never : {A : Type 0} {X : Type 0} (a : A) → none ≡ some a → X
never a e = impossible (cc)

pub both_true : (a b : Bool) → a && b ≡ true → (a ≡ true) × (b ≡ true)
both_true true b e = (refl, e)
both_true false b e = clash (sym e)

-- two tests that hold together are equal
pub both : (a b : Bool) → (T a → T b) → (T b → T a) → a ≡ b
both true true f g = refl
both true false f g = absurd (f tt)
both false true f g = absurd (g tt)
both false false f g = refl

pub implies_use : (a b : Bool) → T (implies a b) → T a → T b
unfolding implies
implies_use true b t s = t
implies_use false b t s = absurd s

pub implies_make : (a b : Bool) → (T a → T b) → T (implies a b)
unfolding implies
implies_make true b f = f tt
implies_make false b f = tt

-- the test f passes at each number below k exactly when `every` says so
pub every_at : (k : ℕ) (f : ℕ → Bool) → T (every k f) → (j : ℕ) → j < k → T (f j)
unfolding every
every_at zero f t j h = absurd (omega arith)
every_at (suc k) f t j h =
    ⊎_elim (λ e. rw e (and_r (every k f) (f k) t)) (λ l. every_at k f (and_l (every k f) (f k) t) j l)
    (eq-or-lt_of_le (le_of_suc-le-suc h))

pub every_all : (k : ℕ) (f : ℕ → Bool) → ((j : ℕ) → j < k → T (f j)) → T (every k f)
unfolding every
every_all zero f h = tt
every_all (suc k) f h = and_i (every k f) (f k) (every_all k f (λ j l. h j (omega arith))) (h k (omega arith))

-- a list that passes the test is the list of zeros of its length
pub zeros_replicate : (k : ℕ) → T (zeros (replicate k 0))
unfolding zeros
zeros_replicate zero = tt
zeros_replicate (suc k) = zeros_replicate k

pub zeros_is : (l : List ℕ) → T (zeros l) → l ≡ replicate (length l) 0
unfolding zeros
zeros_is [] t = refl
zeros_is (x ∷ xs) t =
    cc (eqb→eq x 0 (and_l (eqb x 0) (zeros xs) t), zeros_is xs (and_r (eqb x 0) (zeros xs) t))

pub eq-T : (a b : ℕ) → a ≡ b → T (eqb a b)
eq-T a b e = rw e (eqb_refl b)

-- a property of both branches of a choice, each under what the test then says
pub cond_case : {A : Type 0} (P : A → Type 0) (t : Bool) (x y : A) → (t ≡ true → P x) → (t ≡ false → P y)
    → P (cond t x y)
cond_case P true x y f g = f refl
cond_case P false x y f g = g refl

-- the same where the choice is not named
pub by_test : {X : Type 0} (t : Bool) → (t ≡ true → X) → (t ≡ false → X) → X
by_test true f g = f refl
by_test false f g = g refl
