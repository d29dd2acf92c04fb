-- A station's cell: its record and its own registers. A call rewrites one cell; every clause of the invariant speaks of
-- one cell or of two. Relies on the state; the invariant and its moves rely on it.
use Rattle.model.proofs.Kit.{◌≡◌, refl, sym, ap, subst, ◌∙◌, Bool, true, false, cond, ◌&&◌, none, some, Option}
use Rattle.model.proofs.Kit.{ℕ, eq-eqb, ne_eqb, eqb, ℕ_discrete}
use mathlib.Core.Path.{fun_ext}
use Rattle.model.specs.Listing.{Register, Station, Array}
use Rattle.model.proofs.Agreement.State.{State, put, put_same, put_other, same_array, put_written}

pub record Cell (F : Type 0) : Type 0 where
  pub station : Station F
  pub register : Array → Register F

-- the cell with s for its record
abbrev pub standing : {F : Type 0} → Station F → Cell F → Cell F
standing s C = record { station = s; register = C.register }

module _ {A : Type 0} (i : ℕ) (a : A) (f : ℕ → A) where
  -- What holds of a at i, and of f elsewhere, holds of f with a at i.
  pub on_put : (P : ℕ → A → Type 0) → P i a → ((j : ℕ) → (i ≡ j → ⊥) → P j (f j)) → (j : ℕ) → P j (put i a f j)
  on_put P h k j = go (ℕ_discrete i j)
    where
      go : Dec (i ≡ j) → P j (put i a f j)
      go (yes e) = subst (λ (x : ℕ). P x (put i a f x)) e (rw put_same h)
      go (no e) = subst (λ (x : A). P j x) (sym (put_other i a f j e)) (k j e)

  -- The same for two places.
  pub on_put₂ : (P : ℕ → A → ℕ → A → Type 0) → P i a i a
      → ((j : ℕ) → (i ≡ j → ⊥) → P i a j (f j)) → ((j : ℕ) → (i ≡ j → ⊥) → P j (f j) i a)
      → ((j k : ℕ) → P j (f j) k (f k)) → (j k : ℕ) → P j (put i a f j) k (put i a f k)
  on_put₂ P both left right neither = on_put (λ (j : ℕ) (x : A). (k : ℕ) → P j x k (put i a f k))
      (on_put (λ (k : ℕ) (y : A). P i a k y) both left)
      (λ j e. on_put (λ (k : ℕ) (y : A). P j (f j) k y) (right j e) (λ k d. neither j k))

-- of two updates at one place the later counts
pub put_put : {A : Type 0} (i : ℕ) (a b : A) (f : ℕ → A) → put i a (put i b f) ≡ put i a f
put_put {A} i a b f = fun_ext (on_put i a f (λ (j : ℕ) (x : A). put i a (put i b f) j ≡ x) (put_same i a (put i b f))
    (λ j e. put_other i a (put i b f) j e ∙ put_other i b f j e))

module _ {F : Type 0} where
  unfoldable pub cells : State F → ℕ → Cell F
  cells st i = record { station = st.station i; register = λ a. st.register a i }

  -- a cell's registers with the one of array a as written, if it was
  unfoldable pub written : Array → Option (Register F) → (Array → Register F) → Array → Register F
  written a none R b = R b
  written a (some r) R b = cond (same_array a b) r (R b)

  written_here : (a : Array) (i : ℕ) (w : Option (Register F)) (f : Array → ℕ → Register F) (b : Array)
      → put_written a i w f b i ≡ written a w (λ (c : Array). f c i) b
  unfolding put_written written
  written_here a i none f b = refl
  written_here a i (some r) f b = go (same_array a b)
    where
      go : (t : Bool) → cond (t && eqb i i) r (f b i) ≡ cond t r (f b i)
      go true = ap (λ (t : Bool). cond t r (f b i)) (eq-eqb i i refl)
      go false = refl

  pub written_elsewhere : (a : Array) (i : ℕ) (w : Option (Register F)) (f : Array → ℕ → Register F) (b : Array) (j : ℕ)
      → (i ≡ j → ⊥) → put_written a i w f b j ≡ f b j
  unfolding put_written
  written_elsewhere a i none f b j d = refl
  written_elsewhere a i (some r) f b j d = go (same_array a b)
    where
      go : (t : Bool) → cond (t && eqb i j) r (f b j) ≡ f b j
      go true = ap (λ (t : Bool). cond t r (f b j)) (ne_eqb i j d)
      go false = refl

  -- The state in which station i has the record S and wrote w, if anything, to its register of array a.
  unfoldable pub rewritten : (i : ℕ) → Station F → Array → Option (Register F) → State F → State F
  rewritten i S a w st = record { station = put i S st.station; register = put_written a i w st.register }

  pub cells_rewritten : (i : ℕ) (S : Station F) (a : Array) (w : Option (Register F)) (st : State F)
      → cells (rewritten i S a w st)
      ≡ put i (record { station = S; register = written a w (λ (b : Array). st.register b i) }) (cells st)
  unfolding cells rewritten
  cells_rewritten i S a w st = fun_ext (on_put i _ (cells st)
      (λ (j : ℕ) (D : Cell F). cells (rewritten i S a w st) j ≡ D)
      (λ k. record { station = put_same i S st.station k; register = λ b. written_here a i w st.register b k })
      (λ j d k. record {
        station = put_other i S st.station j d k;
        register = λ b. written_elsewhere a i w st.register b j d k;
      }))
