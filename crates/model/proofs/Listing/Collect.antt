-- One read of a collect, for any kind of register, any type of figures and any order on them: its figure is one that it
-- had or met, once something is seen it stays so, and so the last read always leaves something seen.
-- Relies on the listing; that the calls keep a board sound, and the agreement's facts about one read, rely on it.
use Rattle.model.proofs.Kit.{◌≡◌, ℕ, ◌+◌, ◌≤◌, ◌<◌, arith}
use Rattle.model.specs.Listing.{Order, Flag, adopt, commit, Turn, turn_m, turn_a, turn_b, first, second, third}
use Rattle.model.specs.Listing.{Register, empty, filled, Seen, nothing, seen, entry, larger, pair_above, add, see}
use Rattle.model.proofs.Basics.Tests.{cond_case}
use Rattle.model.proofs.Board.Places.{Compared, lower, equal, higher, compared}

module _ {F : Type 0} where
  -- something was seen, and its figure has P
  abbrev pub Shows : (F → Type 0) → Seen F → Type 0
  Shows P nothing = ⊥
  Shows P (seen g k y) = P y

  abbrev pub Something : Seen F → Type 0
  Something a = Shows (λ (y : F). Unit {0}) a

  abbrev pub Filled : Register F → Type 0
  Filled empty = ⊥
  Filled (filled f k y) = Unit {0}

  -- whatever a station writes fills its register
  pub entry_fills : (t : Turn) (c : ℕ) (x : F) → Filled (entry t c x)
  unfolding entry
  entry_fills turn_m c x = tt
  entry_fills turn_a c x = tt
  entry_fills (turn_b f) c x = tt

  module _ (o : Order F) where
    -- the larger of two figures is one of them
    pub larger_is : (P : F → Type 0) (x y : F) → P x → P y → P (larger o x y)
    unfolding larger
    larger_is P x y h l = cond_case P (o.above y x) y x (λ e. l) (λ e. h)

    -- What holds of the figure seen before, if any, and of the figure read holds of the figure seen after.
    pub add_shows : (P : F → Type 0) (t : Turn) (a : Seen F) (f : Flag) (k : ℕ) (y : F)
        → (Something a → Shows P a) → P y → Shows P (add o t a f k y)
    unfolding add
    add_shows P turn_m nothing f k y h l = l
    add_shows P turn_m (seen g j x) f k y h l =
        cond_case (Shows P) (pair_above o k y j x) (seen g k y) (seen g j x) (λ e. l) (λ e. h tt)
    add_shows P turn_a nothing f k y h l = l
    add_shows P turn_a (seen first j x) f k y h l = larger_is P x y (h tt) l
    add_shows P turn_a (seen second j x) f k y h l = larger_is P x y (h tt) l
    add_shows P turn_a (seen third j x) f k y h l = larger_is P x y (h tt) l
    add_shows P (turn_b e) nothing adopt k y h l = l
    add_shows P (turn_b e) nothing commit k y h l = l
    add_shows P (turn_b e) (seen first j x) adopt k y h l = larger_is P x y (h tt) l
    add_shows P (turn_b e) (seen first j x) commit k y h l = l
    add_shows P (turn_b e) (seen second j x) adopt k y h l = h tt
    add_shows P (turn_b e) (seen second j x) commit k y h l = h tt
    add_shows P (turn_b e) (seen third j x) f k y h l = h tt

    pub add_sees : (t : Turn) (a : Seen F) (f : Flag) (k : ℕ) (y : F) → Something (add o t a f k y)
    add_sees t a f k y = add_shows (λ (z : F). Unit {0}) t a f k y (λ s. s) tt

    pub filled_sees : (t : Turn) (a : Seen F) (r : Register F) → Filled r → Something (see o t a r)
    unfolding see
    filled_sees t a empty h = absurd h
    filled_sees t a (filled f k y) h = add_sees t a f k y

    pub seen_stays : (t : Turn) (a : Seen F) (r : Register F) → Something a → Something (see o t a r)
    unfolding see
    seen_stays t a empty h = h
    seen_stays t a (filled f k y) h = add_sees t a f k y

    -- A station with index i below n reads the last position: it has passed its own register before, or meets it now.
    pub last_read_sees : (n p i : ℕ) → i < n → n ≤ p + 1 → (t : Turn) (a : Seen F) (r : Register F)
        → (i < p → Something a) → (i ≡ p → Filled r) → Something (see o t a r)
    last_read_sees n p i h l t a r passed own = go (compared i p)
      where
        go : Compared i p → Something (see o t a r)
        go (lower k) = seen_stays t a r (passed k)
        go (equal e) = filled_sees t a r (own e)
        go (higher k) = absurd (omega arith)
