-- Licences: why a figure may stand on an island. Once given, a licence stays, whoever moves. Relies on the own clauses
-- and on the words for pairs; the invariant, the moves and the theorems rely on it.
use Rattle.model.proofs.Kit.{◌≡◌, sym, subst, inl, inr, ◌⊎◌, ℕ, ◌<◌}
use Rattle.model.specs.Listing.{Flag, adopt, commit, Register, turn_m, turn_a, turn_b, writing, reading, has_decided}
use Rattle.model.specs.Listing.{is_spent, Station, idle, active, in_m, in_b, array}
use Rattle.model.proofs.Agreement.State.{put}
use Rattle.model.proofs.Agreement.Cells.{Cell, on_put}
use Rattle.model.proofs.Listing.Collect.{Filled}
use Rattle.model.proofs.Agreement.Registers.{Says, Marked, Best, Met, marked_filled}
use Rattle.model.proofs.Agreement.Own.{Later, Proposes}
use Rattle.model.proofs.Agreement.PairsB.{MayPass}

module _ {F : Type 0} where
  -- the station carries the figure y at island k, or has it for the best of a collect under way; a proposal before the
  -- first step is not counted
  abbrev pub Holds : Station F → ℕ → F → Type 0
  Holds idle k y = ⊥
  Holds (active v (writing t c x)) k y = Later t c × (c ≡ k) × (x ≡ y)
  Holds (active v (reading t c x p a)) k y = Best (array t c) a k y
  Holds (active v (has_decided c x)) k y = (c ≡ k) × (x ≡ y)
  Holds (active v (is_spent c x)) k y = (c ≡ k) × (x ≡ y)

  -- the station's collect of B on island k met a commit of y
  abbrev pub Sighted : Station F → ℕ → F → Type 0
  Sighted idle k y = ⊥
  Sighted (active v (writing t c x)) k y = ⊥
  Sighted (active v (reading turn_m c x p a)) k y = ⊥
  Sighted (active v (reading turn_a c x p a)) k y = ⊥
  Sighted (active v (reading (turn_b f) c x p a)) k y = (c ≡ k) × Met a y
  Sighted (active v (has_decided c x)) k y = ⊥
  Sighted (active v (is_spent c x)) k y = ⊥

  -- some station that took a step proposed x
  abbrev pub Valid : ℕ → (ℕ → Cell F) → F → Type 0
  Valid n f x = (j : ℕ) × (j < n) × Proposes (f j).station x × Filled ((f j).register in_m)

  abbrev pub Committed : (ℕ → Cell F) → ℕ → F → Type 0
  Committed f k x = (j : ℕ) × Marked commit ((f j).register (in_b k)) × Says ((f j).register (in_b k)) x

  -- some station wrote an adopt that nobody may decide past
  abbrev pub Spoilt : (ℕ → Cell F) → ℕ → Type 0
  Spoilt f k = (j : ℕ) × Marked adopt ((f j).register (in_b k)) × ((i : ℕ) → MayPass k j (f i).station → ⊥)

  -- a figure that may leave island k
  abbrev pub Out : (ℕ → Cell F) → ℕ → F → Type 0
  Out f k x = Committed f k x ⊎ Spoilt f k

  pub record Licensed (n : ℕ) (f : ℕ → Cell F) (k : ℕ) (x : F) : Type 0 where
    pub valid : Valid n f x
    pub out : (c : ℕ) → c < k → Out f c x

  -- What is asked of the new cell C of station i, so that every licence stays.
  pub record Steady (f : ℕ → Cell F) (i : ℕ) (C : Cell F) : Type 0 where
    pub same : (k : ℕ) → Filled ((f i).register (in_b k)) → C.register (in_b k) ≡ (f i).register (in_b k)
    pub proposes : (x : F) → Proposes (f i).station x → Proposes C.station x
    pub fills : Filled ((f i).register in_m) → Filled (C.register in_m)
    -- the station may decide past an adopt only if it could before
    pub over_adopts : (j k : ℕ) → Marked adopt ((f j).register (in_b k)) → MayPass k j C.station
        → MayPass k j (f i).station

  module _ {f : ℕ → Cell F} {i : ℕ} {C : Cell F} (h : Steady f i C) where
    -- what is said of a filled register of B stays
    filled_stays : (P : Register F → Type 0) (j k : ℕ) → Filled ((f j).register (in_b k))
        → P ((f j).register (in_b k)) → P ((put i C f j).register (in_b k))
    filled_stays P j k =
        on_put i C f (λ (j : ℕ) (D : Cell F). Filled ((f j).register (in_b k)) → P ((f j).register (in_b k))
        → P (D.register (in_b k)))
        (λ d p. subst P (sym (h.same k d)) p) (λ j e d p. p) j

    marked_stays : (g : Flag) (j k : ℕ) → Marked g ((f j).register (in_b k)) → Marked g ((put i C f j).register (in_b k))
    marked_stays g j k m = filled_stays (λ (r : Register F). Marked g r) j k
        (marked_filled g ((f j).register (in_b k)) m) m

    pub committed_stays : (k : ℕ) (x : F) → Committed f k x → Committed (put i C f) k x
    committed_stays k x c = (
      c.0,
      marked_stays commit c.0 k c.1,
      filled_stays (λ (r : Register F). Says r x) c.0 k (marked_filled commit ((f c.0).register (in_b k)) c.1)
          c.2,
    )

    spoilt_stays : (k : ℕ) → Spoilt f k → Spoilt (put i C f) k
    spoilt_stays k s = (s.0, marked_stays adopt s.0 k s.1, λ j m. s.2 j (before j m))
      where
        before : (j : ℕ) → MayPass k s.0 (put i C f j).station → MayPass k s.0 (f j).station
        before = on_put i C f (λ (j : ℕ) (D : Cell F). MayPass k s.0 D.station → MayPass k s.0 (f j).station)
            (h.over_adopts s.0 k s.1) (λ j e m. m)

    out_stays : (k : ℕ) (x : F) → Out f k x → Out (put i C f) k x
    out_stays k x (inl c) = inl (committed_stays k x c)
    out_stays k x (inr s) = inr (spoilt_stays k s)

    valid_stays : (n : ℕ) (x : F) → Valid n f x → Valid n (put i C f) x
    valid_stays n x w = (
      w.0,
      w.1,
      on_put i C f (λ (j : ℕ) (D : Cell F). Proposes (f j).station x → Proposes D.station x)
          (h.proposes x) (λ j e p. p) w.0 w.2,
      on_put i C f (λ (j : ℕ) (D : Cell F). Filled ((f j).register in_m) → Filled (D.register in_m))
          h.fills (λ j e p. p) w.0 w.3,
    )

    pub licensed_stays : (n k : ℕ) (x : F) → Licensed n f k x → Licensed n (put i C f) k x
    licensed_stays n k x l =
        record { valid = valid_stays n x l.valid; out = λ c d. out_stays c x (l.out c d) }
