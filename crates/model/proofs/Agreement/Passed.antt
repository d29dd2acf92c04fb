-- A station that collects and has passed another's register with what it met still clean: the word that both clauses on
-- pairs of stations are made of, and what the own clauses say of such a station.
-- Relies on the own clauses; the pairs on A and on B rely on it.
use Rattle.model.proofs.Kit.{◌≡◌, subst₂, ℕ, ◌<◌}
use Rattle.model.specs.Listing.{Flag, Register, Turn, turn_b, writing, reading, has_decided, is_spent, Station}
use Rattle.model.specs.Listing.{idle, active, Array, in_b, array}
use Rattle.model.proofs.Agreement.Registers.{Marked, Left, Clean}
use Rattle.model.proofs.Agreement.Own.{Awake, Mine}

module _ {F : Type 0} where
  -- the station collects turn t on island k, has passed j, and what it met is clean
  abbrev pub Passed : Turn → ℕ → ℕ → Station F → Type 0
  Passed t k j idle = ⊥
  Passed t k j (active v (writing u c x)) = ⊥
  Passed t k j (active v (reading u c x p a)) = (u ≡ t) × (c ≡ k) × (j < p) × Clean u x a
  Passed t k j (active v (has_decided c x)) = ⊥
  Passed t k j (active v (is_spent c x)) = ⊥

  -- the station is about to write turn t on island k
  abbrev pub About : Turn → ℕ → Station F → Type 0
  About t k idle = ⊥
  About t k (active v (writing u c x)) = (u ≡ t) × (c ≡ k)
  About t k (active v (reading u c x p a)) = ⊥
  About t k (active v (has_decided c x)) = ⊥
  About t k (active v (is_spent c x)) = ⊥

  abbrev pub Decided : ℕ → Station F → Type 0
  Decided k idle = ⊥
  Decided k (active v (writing u c x)) = ⊥
  Decided k (active v (reading u c x p a)) = ⊥
  Decided k (active v (has_decided c x)) = c ≡ k
  Decided k (active v (is_spent c x)) = ⊥

  passed_left : (i : ℕ) (t : Turn) (k j : ℕ) (s : Station F) (R : Array → Register F)
      → Mine i s R → Passed t k j s → (x : F) × Left t k x (R (array t k))
  passed_left i t k j idle R m p = absurd p
  passed_left i t k j (active v (writing u c x)) R m p = absurd p
  passed_left i t k j (active v (reading u c x q a)) R m p =
      (x, subst₂ (λ (w : Turn) (d : ℕ). Left w d x (R (array w d))) p.0 p.1 m.0)
  passed_left i t k j (active v (has_decided c x)) R m p = absurd p
  passed_left i t k j (active v (is_spent c x)) R m p = absurd p

  -- whoever collects B with a flag has that flag in its own register
  pub passed_marked : (i : ℕ) (f : Flag) (k j : ℕ) (s : Station F) (R : Array → Register F)
      → Mine i s R → Passed (turn_b f) k j s → Marked f (R (in_b k))
  unfolding array
  passed_marked i f k j s R m p = (passed_left i (turn_b f) k j s R m p).1.0

  pub passed_awake : (t : Turn) (k j : ℕ) (s : Station F) → Passed t k j s → Awake s
  passed_awake t k j idle p = p
  passed_awake t k j (active v s) p = tt
