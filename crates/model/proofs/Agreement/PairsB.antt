-- Who may decide past whom in B: the word for the clause on pairs of stations that keeps a decision apart from an adopt
-- that met no commit.
-- Relies on Passed; the licences and the invariant rely on it.
use Rattle.model.proofs.Kit.{◌≡◌, sym, subst, ◌∙◌, ℕ}
use Rattle.model.specs.Listing.{adopt, commit, Register, Turn, turn_m, turn_a, turn_b, writing, reading, has_decided}
use Rattle.model.specs.Listing.{is_spent, Station, idle, active, Array, in_b}
use Rattle.model.proofs.Agreement.Registers.{Marked}
use Rattle.model.proofs.Agreement.Own.{Awake, Mine}
use Rattle.model.proofs.Agreement.Passed.{Passed, Decided, passed_marked, passed_awake}

-- the turn that writes a commit, told from the others
abbrev Committing : Turn → Type 0
Committing turn_m = ⊥
Committing turn_a = ⊥
Committing (turn_b adopt) = ⊥
Committing (turn_b commit) = Unit {0}

pub committing : (t : Turn) → t ≡ turn_b commit → Committing t
committing t e = subst Committing (sym e) tt

module _ {F : Type 0} where
  -- The station may decide past j on island k: it met nothing but commits past j, or it decided.
  pub data MayPass (k j : ℕ) (s : Station F) : Type 0 where
    passing : Passed (turn_b commit) k j s → MayPass k j s
    past : Decided k s → MayPass k j s

  decided_marked : (i k : ℕ) (s : Station F) (R : Array → Register F) → Mine i s R → Decided k s
      → Marked commit (R (in_b k))
  decided_marked i k idle R m p = absurd p
  decided_marked i k (active v (writing u c x)) R m p = absurd p
  decided_marked i k (active v (reading u c x q a)) R m p = absurd p
  decided_marked i k (active v (has_decided c x)) R m p = subst (λ (d : ℕ). Marked commit (R (in_b d))) p m.0
  decided_marked i k (active v (is_spent c x)) R m p = absurd p

  pub may_marked : (i k j : ℕ) (s : Station F) (R : Array → Register F) → Mine i s R → MayPass k j s
      → Marked commit (R (in_b k))
  may_marked i k j s R m (passing p) = passed_marked i commit k j s R m p
  may_marked i k j s R m (past p) = decided_marked i k s R m p

  decided_awake : (k : ℕ) (s : Station F) → Decided k s → Awake s
  decided_awake k idle p = p
  decided_awake k (active v s) p = tt

  pub may_awake : (k j : ℕ) (s : Station F) → MayPass k j s → Awake s
  may_awake k j s (passing p) = passed_awake (turn_b commit) k j s p
  may_awake k j s (past p) = decided_awake k s p

  -- one station does not do both: its flag is one of the two
  pub not_itself : (k i j : ℕ) (s : Station F) → MayPass k i s → Passed (turn_b adopt) k j s → ⊥
  not_itself k i j idle h p = p
  not_itself k i j (active v (writing u c x)) h p = p
  not_itself k i j (active v (reading u c x q a)) (passing h) p = committing (turn_b adopt) (sym p.0 ∙ h.0)
  not_itself k i j (active v (reading u c x q a)) (past h) p = h
  not_itself k i j (active v (has_decided c x)) h p = p
  not_itself k i j (active v (is_spent c x)) h p = p

  pub writing_may_not : {k j : ℕ} {v : F} {t : Turn} {c : ℕ} {x : F} → MayPass k j (active v (writing t c x)) → ⊥
  writing_may_not (passing p) = p
  writing_may_not (past p) = p

  pub spent_may_not : {k j : ℕ} {v : F} {c : ℕ} {x : F} → MayPass k j (active v (is_spent c x)) → ⊥
  spent_may_not (passing p) = p
  spent_may_not (past p) = p
