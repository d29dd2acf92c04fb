-- A station alone from the middle of its pass: the rest of a collect from any position, with anything seen, and the
-- turns of A and B to their ends. How many steps are enough is said for every fuel from a number on.
-- Relies on the steps of a station alone; the passes that lead to a decision rely on it.
use Rattle.model.proofs.Kit.{◌≡◌, refl, ℕ, zero, suc, ◌+◌, ◌-◌, ◌*◌, ◌≤◌, ◌<◌, arith}
use Rattle.model.specs.Listing.{Order, Flag, flag_number, Turn, turn_m, turn_a, turn_b, first, second, third, Seen}
use Rattle.model.specs.Listing.{nothing, seen, Stage, writing, reading, has_decided, Station, decided, marked}
use Rattle.model.specs.Listing.{adopted, adopt, commit, Move, outcome, array, entry, stay, finish, ended, see}
use Rattle.model.specs.AnyList.{ends}
use Rattle.model.proofs.Sequential.Turns.{Ended, go_on}
use Rattle.model.proofs.Sequential.Registers.{Registers, write}
use Rattle.model.proofs.Sequential.Alone.{settle, step_write, step_read, step_last}
use Rattle.model.proofs.Sequential.Pass.{run, goes_on}

-- the steps of three passes, which are enough for a station that is left alone with room above it
abbrev pub alone_steps : (n : ℕ) → ℕ
alone_steps n = 9 * (n + 1)

module _ {F : Type 0} where
  -- the run ended with a decision
  abbrev pub Decides : Ended F → Type 0
  Decides e = (k : ℕ) × (y : F) × (e.answer ≡ decided k y)

  module _ (K c : ℕ) (x : F) (P : Move F → Type 0) where
    -- a collect of A marks, with one flag or the other
    marks : ((f : Flag) (y : F) → P (stay (writing (turn_b f) c y) (marked (flag_number f) y))) → (a : Seen F)
        → P (ended K turn_a c x a)
    unfolding ended finish
    marks h nothing = h adopt x
    marks h (seen first k y) = h commit y
    marks h (seen second k y) = h adopt y
    marks h (seen third k y) = h adopt y

    -- a collect of B below the last island decides or adopts
    decides_or_adopts : c + 1 < K → ((y : F) → P (stay (has_decided c y) (decided c y)))
        → ((y : F) → P (stay (writing turn_m (c + 1) y) (adopted (c + 1) y)))
        → (f : Flag) (a : Seen F) → P (ended K (turn_b f) c x a)
    unfolding ended finish
    decides_or_adopts l d h f nothing = rw (goes_on K c x l) (h x)
    decides_or_adopts l d h f (seen first k y) = rw (goes_on K c y l) (h y)
    decides_or_adopts l d h f (seen second k y) = d y
    decides_or_adopts l d h f (seen third k y) = rw (goes_on K c y l) (h y)

  module _ (o : Order F) (n K i : ℕ) (below : i < n) (w : F) (others : ℕ → Station F) where
    -- so many steps are enough for a decision, from the stage s and the registers f
    abbrev pub Within : (steps : ℕ) → Stage F → Registers F → Type 0
    Within steps s f = (fuel : ℕ) → steps ≤ fuel → Decides (run o n K i below w others fuel s f)

    -- and from a move that left the registers so
    abbrev pub Settles : (steps : ℕ) → Move F → Registers F → Type 0
    Settles steps m f = (fuel : ℕ) → steps ≤ fuel → Decides (settle o n K i w others fuel m f)

    pub write_first : (b : ℕ) (t : Turn) (c : ℕ) (x : F) (f : Registers F)
        → Within b (reading t c x 0 nothing) (write (array t c) i (entry t c x) f) → Within (suc b) (writing t c x) f
    write_first b t c x f h fuel enough =
        let e : fuel ≡ suc (fuel - 1) = omega arith in
        rw (e, step_write o n K i w others (fuel - 1) t c x f) (h (fuel - 1) (omega arith))

    -- What holds of the collect's position and of what it has seen, and is kept by a read, holds at its end.
    module _ (t : Turn) (c : ℕ) (x : F) (f : Registers F) (P : ℕ → Seen F → Type 0)
        (keep : (p : ℕ) (a : Seen F) → p < n → P p a → P (suc p) (see o t a (f (array t c) p)))
        (b : ℕ) (end : (a : Seen F) → P n a → Settles b (ended K t c x a) f) where
      rest_from : (k p : ℕ) → p + suc k ≡ n → (a : Seen F) → P p a → Within (suc k + b) (reading t c x p a) f
      rest_from zero p e a h fuel enough =
          let s : fuel ≡ suc (fuel - 1) = omega arith in
          let last : suc p ≡ n = omega arith in
          rw (s, step_last o n K i w others t c x f (fuel - 1) p a last)
          (end _ (rw last at (keep p a (omega arith) h)) (fuel - 1) (omega arith))
      rest_from (suc k) p e a h fuel enough =
          let s : fuel ≡ suc (fuel - 1) = omega arith in
          rw (s, step_read o n K i w others t c x f (fuel - 1) p a (omega arith))
          (rest_from k (suc p) (omega arith) _ (keep p a (omega arith) h) (fuel - 1) (omega arith))

      pub rest : (p : ℕ) → p < n → (a : Seen F) → P p a → Within (n - p + b) (reading t c x p a) f
      rest p l a h fuel enough = rest_from (n - p - 1) p (omega arith) a h fuel (omega arith)

    -- ---- the turns of B and A, from any position, whatever was seen

    abbrev Any : ℕ → Seen F → Type 0
    Any p a = Unit {0}

    module _ (b c : ℕ) (room : c + 1 < K) where
      pub rest_b : (e : Flag) (x : F) (p : ℕ) → p < n → (a : Seen F) (f : Registers F)
          → ((y : F) → Within b (writing turn_m (c + 1) y) f) → Within (n - p + b) (reading (turn_b e) c x p a) f
      unfolding settle go_on ends outcome stay
      rest_b e x p l a f next = rest (turn_b e) c x f Any (λ p a l h. tt) b
          (λ a h. decides_or_adopts K c x (λ (m : Move F). Settles b m f) room
          (λ y fuel enough. (c, y, refl)) next e a) p l a tt

      pub turn_b_lem : (e : Flag) (x : F) (f : Registers F)
          → ((y : F) → Within b (writing turn_m (c + 1) y) (write (array (turn_b e) c) i (entry (turn_b e) c x) f))
          → Within (n + 1 + b) (writing (turn_b e) c x) f
      turn_b_lem e x f next fuel enough =
          write_first (n - 0 + b) (turn_b e) c x f (rest_b e x 0 (omega arith) nothing _ next) fuel (omega arith)

      -- what the rest of the pass needs of the registers at its end, once the turn of B has written
      abbrev pub AfterB : Registers F → Type 0
      AfterB f =
          (e : Flag) (x y : F)
          → Within b (writing turn_m (c + 1) y) (write (array (turn_b e) c) i (entry (turn_b e) c x) f)

      pub rest_a : (x : F) (p : ℕ) → p < n → (a : Seen F) (f : Registers F) → AfterB f
          → Within (n - p + (n + 1 + b)) (reading turn_a c x p a) f
      unfolding settle go_on ends outcome stay
      rest_a x p l a f next = rest turn_a c x f Any (λ p a l h. tt) (n + 1 + b)
          (λ a h. marks K c x (λ (m : Move F). Settles (n + 1 + b) m f)
          (λ e y. turn_b_lem e y f (next e y)) a) p l a tt

      pub turn_a_lem : (x : F) (f : Registers F) → AfterB (write (array turn_a c) i (entry turn_a c x) f)
          → Within (n + 1 + (n + 1 + b)) (writing turn_a c x) f
      turn_a_lem x f next fuel enough =
          write_first (n - 0 + (n + 1 + b)) turn_a c x f (rest_a x 0 (omega arith) nothing _ next) fuel (omega arith)
