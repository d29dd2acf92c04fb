-- What a collect has seen once it has read the registers of an array in order, for any kind of register: how a property
-- of that is had from the single reads, and the facts about one read carried over the whole collect.
-- Relies on the listing and on those facts; what the collects of m, A and B end with, and the station alone, rely on
-- it.
use Rattle.model.proofs.Kit.{◌≡◌, subst, true, ⊎_elim, ◌⊎◌, ℕ, zero, suc, ◌<◌, ℕ_discrete, arith}
use Rattle.model.specs.Listing.{Order, Flag, commit, Register, Turn, turn_b, Seen, nothing, array, see}
use Rattle.model.proofs.Agreement.Registers.{Says, Marked, Figure, Best, Met, Left, Brought, Clean, Harmless}
use Rattle.model.proofs.Agreement.Reads.{located, met, clean, stays_clean}
use Rattle.model.proofs.Agreement.Reads.{kept as read_keeps, brought as read-brings}

module _ {F : Type 0} (o : Order F) (t : Turn) (r : ℕ → Register F) where
  -- after the registers 0 to p - 1
  unfoldable pub collected : ℕ → Seen F
  collected zero = nothing
  collected (suc p) = see o t (collected p) (r p)

  -- A property that each read keeps holds at the end.
  kept : (P : Seen F → Type 0) → P nothing → (n : ℕ)
      → ((p : ℕ) → p < n → (a : Seen F) → P a → P (see o t a (r p)))
      → P (collected n)
  unfolding collected
  kept P start zero keep = start
  kept P start (suc n) keep = keep n (omega arith) (collected n) (kept P start n (λ p l. keep p (omega arith)))

  -- A property that one read brings, whatever was seen before it, and each read keeps, holds at the end.
  brought : (P : Seen F → Type 0) (n j : ℕ) → j < n
      → ((a : Seen F) → P (see o t a (r j)))
      → ((p : ℕ) (a : Seen F) → P a → P (see o t a (r p)))
      → P (collected n)
  unfolding collected
  brought P zero j l bring keep = absurd (omega arith)
  brought P (suc n) j l bring keep = by (ℕ_discrete j n) (λ b. brought P n j b bring keep)
    where
      by : Dec (j ≡ n) → (j < n → P (collected n)) → P (see o t (collected n) (r n))
      by (yes e) before = subst (λ (k : ℕ). P (see o t (collected n) (r k))) e (bring (collected n))
      by (no ne) before = keep n (collected n) (before (omega arith))

  -- A property that nothing seen does not have, and that a read brings only from a register with S: one had S.
  from : (P : Seen F → Type 0) (S : Register F → Type 0) → (P nothing → ⊥)
      → ((a : Seen F) (z : Register F) → P (see o t a z) → P a ⊎ S z)
      → (n : ℕ) → P (collected n) → (j : ℕ) × (j < n) × S (r j)
  from P S none one n =
      kept (λ (a : Seen F). P a → (j : ℕ) × (j < n) × S (r j)) (λ h. absurd (none h)) n
      (λ p l a before h. ⊎_elim before (λ (s : S (r p)). (p, l, s)) (one a (r p) h))

  module _ (n : ℕ) where
    -- Every figure stood in a register.
    pub best_from : (c k : ℕ) (y : F) → Best (array t c) (collected n) k y
        → (j : ℕ) × (j < n) × Figure (array t c) (r j) k y
    best_from c k y =
        from (λ (a : Seen F). Best (array t c) a k y) (λ (z : Register F). Figure (array t c) z k y) (λ h. h)
        (λ a z. located o t c a z k y) n

    -- Where all registers are harmless, the collect ends clean.
    pub all_clean : ((x : F) → o.same x x ≡ true) → (x : F) → ((j : ℕ) → j < n → Harmless t x (r j))
        → Clean t x (collected n)
    all_clean sameRefl x all =
        kept (Clean t x) tt n (λ p l a h. stays_clean o sameRefl t x a (r p) h (all p l))

    module _ (sameIs : (x y : F) → o.same x y ≡ true → x ≡ y) (j : ℕ) (below : j < n) (c : ℕ) (x : F) where
      -- What stands in a register that was passed is shown.
      pub shown : Left t c x (r j) → Brought t c x (collected n)
      shown left =
          brought (Brought t c x) n j below
          (λ a. read-brings o sameIs t c x a (r j) left) (λ p a. read_keeps o sameIs t c x a (r p))

      -- One register that is not harmless, and the collect is not clean.
      pub spoilt : (Harmless t x (r j) → ⊥) → Clean t x (collected n) → ⊥
      spoilt bad =
          brought (λ (a : Seen F). Clean t x a → ⊥) n j below
          (λ a h. bad (clean o sameIs t x a (r j) h).1) (λ p a ne h. ne (clean o sameIs t x a (r p) h).0)

module _ {F : Type 0} (o : Order F) (e : Flag) (r : ℕ → Register F) (n : ℕ) where
  -- The commit that a collect of B keeps stood in a register.
  pub met_from : (y : F) → Met (collected o (turn_b e) r n) y → (j : ℕ) × (j < n) × (Marked commit (r j) × Says (r j) y)
  met_from y =
      from o (turn_b e) r (λ (a : Seen F). Met a y) (λ (z : Register F). Marked commit z × Says z y) (λ h. h)
      (λ a z. met o e a z y) n
