-- The own clauses of the invariant: what a station's record says of its own registers. Relies on cells and on the words
-- for registers; the clauses on pairs, the licences and the moves rely on it.
use Rattle.model.proofs.Kit.{◌≡◌, ℕ, suc, ◌<◌, arith}
use Rattle.model.specs.Listing.{adopt, commit, Register, Turn, turn_m, turn_a, turn_b, writing, reading, has_decided}
use Rattle.model.specs.Listing.{is_spent, Station, idle, active, Array, in_m, in_a, in_b, array}
use Rattle.model.proofs.Agreement.Cells.{Cell}
use Rattle.model.proofs.Listing.Collect.{Filled}
use Rattle.model.proofs.Agreement.Registers.{Says, Marked, Left, Brought}

-- a turn on island c that is not the station's first
abbrev pub Later : Turn → ℕ → Type 0
Later turn_m c = 0 < c
Later turn_a c = Unit {0}
Later (turn_b f) c = Unit {0}

-- the islands below which B is filled once the turn on island c has written
abbrev pub after : Turn → ℕ → ℕ
after turn_m c = c
after turn_a c = c
after (turn_b f) c = suc c

module _ {F : Type 0} where
  abbrev pub Awake : Station F → Type 0
  Awake idle = ⊥
  Awake (active v s) = Unit {0}

  abbrev pub Proposes : Station F → F → Type 0
  Proposes idle x = ⊥
  Proposes (active v s) x = v ≡ x

  -- the station took a step: only before the first it is about to write m on island 0
  abbrev pub Begun : Station F → Type 0
  Begun idle = ⊥
  Begun (active v (writing t c x)) = Later t c
  Begun (active v (reading t c x p a)) = Unit {0}
  Begun (active v (has_decided c x)) = Unit {0}
  Begun (active v (is_spent c x)) = Unit {0}

  -- the station's registers of B are filled below this island only
  abbrev pub reach : Station F → ℕ
  reach idle = 0
  reach (active v (writing t c x)) = c
  reach (active v (reading t c x p a)) = after t c
  reach (active v (has_decided c x)) = suc c
  reach (active v (is_spent c x)) = suc c

  -- What the stage of station i says of its registers R. In a collect the own register holds what the turn wrote, and
  -- once the collect has passed it, shows it.
  abbrev pub Mine : ℕ → Station F → (Array → Register F) → Type 0
  Mine i idle R = Unit {0}
  Mine i (active v (writing turn_m c x)) R = c ≡ 0 → v ≡ x
  Mine i (active v (writing turn_a c x)) R = Unit {0}
  Mine i (active v (writing (turn_b adopt) c x)) R = Unit {0}
  Mine i (active v (writing (turn_b commit) c x)) R = Says (R (in_a c)) x
  Mine i (active v (reading t c x p a)) R = Left t c x (R (array t c)) × (i < p → Brought t c x a)
  Mine i (active v (has_decided c x)) R = Left (turn_b commit) c x (R (in_b c))
  Mine i (active v (is_spent c x)) R = Unit {0}

  pub record Own (n i : ℕ) (C : Cell F) : Type 0 where
    -- only the n stations propose
    pub near : Awake C.station → i < n
    -- the island of a station never falls, and its B is written once on each
    pub early : (k : ℕ) → Filled (C.register (in_b k)) → k < reach C.station
    -- a step fills m, and m stays filled
    pub begun : Begun C.station → Filled (C.register in_m)
    pub mine : Mine i C.station C.register
    -- a commit was written over the figure that stands in A
    pub over : (k : ℕ) (x : F) → Marked commit (C.register (in_b k)) → Says (C.register (in_b k)) x
        → Says (C.register (in_a k)) x

  reach_awake : (k : ℕ) (s : Station F) → k < reach s → Awake s
  reach_awake k idle b = omega arith
  reach_awake k (active v s) b = tt

  -- whoever wrote to B stands among the n stations
  pub filled_near : {n i : ℕ} {C : Cell F} → Own n i C → (k : ℕ) → Filled (C.register (in_b k)) → i < n
  filled_near {n} {i} {C} o k d = o.near (reach_awake k C.station (o.early k d))
