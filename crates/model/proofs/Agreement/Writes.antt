-- What a write does to a station's own registers, whatever the turn. Relies on the words for registers and on the own
-- clauses; the moves that write rely on it, for each invariant.
use Rattle.model.proofs.Kit.{◌≡◌, refl, sym, subst, subst₂, inl, inr, ◌⊎◌, some, ℕ, suc, ◌<◌, arith}
use Rattle.model.specs.Listing.{adopt, commit, Register, Turn, turn_m, turn_a, turn_b, writing, active, Array, in_m}
use Rattle.model.specs.Listing.{in_a, in_b, array, entry}
use Rattle.model.proofs.Basics.Tests.{cond_case}
use Rattle.model.proofs.Agreement.State.{put, same_array, array_is, put_same}
use Rattle.model.proofs.Agreement.Cells.{written, on_put}
use Rattle.model.proofs.Listing.Collect.{Filled}
use Rattle.model.proofs.Agreement.Registers.{Says, Marked, Figure, Left, marked_filled, adopt≢commit}
use Rattle.model.proofs.Agreement.Reads.{left_entry}
use Rattle.model.proofs.Agreement.Own.{Later, after, Mine}

module _ {F : Type 0} where
  -- the registers after the write of turn t
  unfoldable pub wrote : Turn → ℕ → F → (Array → Register F) → Array → Register F
  wrote t c x R = written (array t c) (some (entry t c x)) R

  -- B is filled on islands below c only, so what the write replaces in B was empty
  abbrev pub Early : ℕ → (Array → Register F) → Type 0
  Early c R = (k : ℕ) → Filled (R (in_b k)) → k < c

  module _ (c : ℕ) (x : F) (R : Array → Register F) where
    pub wrote_same : (t : Turn) → Early c R → (k : ℕ) → Filled (R (in_b k)) → wrote t c x R (in_b k) ≡ R (in_b k)
    unfolding wrote written same_array array put
    wrote_same turn_m e k d = refl
    wrote_same turn_a e k d = refl
    wrote_same (turn_b f) e k d = on_put c (entry (turn_b f) c x) (λ (b : ℕ). R (in_b b))
        (λ (b : ℕ) (r : Register F). Filled (R (in_b b)) → r ≡ R (in_b b))
        (λ w. absurd (omega (arith, e c w))) (λ b z w. refl) k d

    pub wrote_fills : (t : Turn) → (Later t c → Filled (R in_m)) → Filled (wrote t c x R in_m)
    unfolding wrote written same_array array entry
    wrote_fills turn_m h = tt
    wrote_fills turn_a h = h tt
    wrote_fills (turn_b f) h = h tt

    pub wrote_stays : (t : Turn) → Filled (R in_m) → Filled (wrote t c x R in_m)
    wrote_stays t h = wrote_fills t (λ _. h)

    pub wrote_early : (t : Turn) → Early c R → Early (after t c) (wrote t c x R)
    unfolding wrote written same_array array put
    wrote_early turn_m e k d = e k d
    wrote_early turn_a e k d = e k d
    wrote_early (turn_b f) e k d = on_put c (entry (turn_b f) c x) (λ (b : ℕ). R (in_b b))
        (λ (b : ℕ) (r : Register F). Filled r → b < suc c) (λ w. omega arith) (λ b z w. omega (arith, e b w)) k d

    pub wrote_left : (t : Turn) → Left t c x (wrote t c x R (array t c))
    unfolding wrote written same_array array put
    wrote_left turn_m = left_entry turn_m c x
    wrote_left turn_a = subst (λ (r : Register F). Left turn_a c x r)
        (sym (put_same c (entry turn_a c x) (λ (b : ℕ). R (in_a b)))) (left_entry turn_a c x)
    wrote_left (turn_b f) = subst (λ (r : Register F). Left (turn_b f) c x r)
        (sym (put_same c (entry (turn_b f) c x) (λ (b : ℕ). R (in_b b)))) (left_entry (turn_b f) c x)

    -- A commit after the write was there before, over the same figure of A, or it is the one just written.
    pub wrote_commits : (t : Turn) → Early c R → (k : ℕ) (y : F)
        → Marked commit (wrote t c x R (in_b k)) → Says (wrote t c x R (in_a k)) y
        → Says (R (in_a k)) y × (Marked commit (R (in_b k)) ⊎ ((t ≡ turn_b commit) × (c ≡ k)))
    unfolding wrote written same_array array put entry
    wrote_commits turn_m e k y m s = (s, inl m)
    wrote_commits turn_a e k y m s = on_put c (entry turn_a c x) (λ (b : ℕ). R (in_a b))
        (λ (b : ℕ) (r : Register F). Marked commit (R (in_b b)) → Says r y
        → Says (R (in_a b)) y × (Marked commit (R (in_b b)) ⊎ ((turn_a ≡ turn_b commit) × (c ≡ b))))
        (λ m s. absurd (omega (arith, e c (marked_filled commit (R (in_b c)) m)))) (λ b z m s. (s, inl m)) k m s
    wrote_commits (turn_b f) e k y m s = on_put c (entry (turn_b f) c x) (λ (b : ℕ). R (in_b b))
        (λ (b : ℕ) (r : Register F). Marked commit r → Says (R (in_a b)) y
        → Says (R (in_a b)) y × (Marked commit (R (in_b b)) ⊎ ((turn_b f ≡ turn_b commit) × (c ≡ b))))
        (λ m s. (s, inr (cc, refl))) (λ b z m s. (s, inl m)) k m s

    pub wrote_over : (i : ℕ) (v : F) (t : Turn) → Early c R → Mine i (active v (writing t c x)) R
        → ((k : ℕ) (y : F) → Marked commit (R (in_b k)) → Says (R (in_b k)) y → Says (R (in_a k)) y)
        → (k : ℕ) (y : F) → Marked commit (wrote t c x R (in_b k)) → Says (wrote t c x R (in_b k)) y
        → Says (wrote t c x R (in_a k)) y
    unfolding wrote written same_array array put entry
    wrote_over i v turn_m e m h k y = h k y
    wrote_over i v turn_a e m h k y = on_put c (entry turn_a c x) (λ (b : ℕ). R (in_a b))
        (λ (b : ℕ) (r : Register F). Marked commit (R (in_b b)) → Says (R (in_b b)) y → Says r y)
        (λ w s. absurd (omega (arith, e c (marked_filled commit (R (in_b c)) w)))) (λ b z. h b y) k
    wrote_over i v (turn_b adopt) e m h k y = on_put c (entry (turn_b adopt) c x) (λ (b : ℕ). R (in_b b))
        (λ (b : ℕ) (r : Register F). Marked commit r → Says r y → Says (R (in_a b)) y)
        (λ w s. absurd (adopt≢commit w)) (λ b z. h b y) k
    wrote_over i v (turn_b commit) e m h k y = on_put c (entry (turn_b commit) c x) (λ (b : ℕ). R (in_b b))
        (λ (b : ℕ) (r : Register F). Marked commit r → Says r y → Says (R (in_a b)) y)
        (λ w s. subst (λ (z : F). Says (R (in_a c)) z) s m) (λ b z. h b y) k

    -- what holds of the entry, and of every register before, holds of every register after the write
    pub wrote_each : (P : Array → Register F → Type 0) (t : Turn) → P (array t c) (entry t c x)
        → ((a : Array) → P a (R a)) → (a : Array) → P a (wrote t c x R a)
    unfolding wrote written
    wrote_each P t e h a = cond_case (P a) (same_array (array t c) a) _ _
        (λ q. subst (λ (b : Array). P b (entry t c x)) (array_is (array t c) a q) e) (λ q. h a)

    entry_stored : (P : ℕ → F → Type 0) → P c x → (t : Turn) (k : ℕ) (y : F)
        → Figure (array t c) (entry t c x) k y → P k y
    unfolding array entry
    entry_stored P b turn_m k y p = subst₂ P p.0 p.1 b
    entry_stored P b turn_a k y p = subst₂ P p.0 p.1 b
    entry_stored P b (turn_b f) k y p = subst₂ P p.0 p.1 b

    -- and so of the figures: what holds of x at c, and of every figure before
    pub wrote_stored : (P : ℕ → F → Type 0) → P c x → ((a : Array) (k : ℕ) (y : F) → Figure a (R a) k y → P k y)
        → (t : Turn) (a : Array) (k : ℕ) (y : F) → Figure a (wrote t c x R a) k y → P k y
    wrote_stored P b h t =
        wrote_each (λ a r. (k : ℕ) (y : F) → Figure a r k y → P k y) t (entry_stored P b t) h
