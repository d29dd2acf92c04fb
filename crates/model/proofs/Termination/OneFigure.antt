-- An invariant of all cells where every proposal is of one figure v, over any type of figures: all registers say v, on
-- island 0 and in B as commits, no station leaves island 0, and every collect ends as if the station were alone.
-- Relies on the invariant of agreement, by which a collect shows its own register; a station's own steps rely on it.
use Rattle.model.proofs.Kit.{◌≡◌, refl, subst, true, ℕ, ◌+◌, ◌≤◌, ◌<◌, arith}
use Rattle.model.specs.Listing.{Order, adopt, commit, flag_number, Register, empty, filled, Turn, turn_m, turn_a}
use Rattle.model.specs.Listing.{turn_b, first, second, third, Seen, nothing, seen, Stage, writing, reading}
use Rattle.model.specs.Listing.{has_decided, is_spent, Station, idle, active, went, marked, decided, Move, Array}
use Rattle.model.specs.Listing.{in_m, in_a, in_b, array, entry, proposed, stay, finish, ended, pair_above, add, see}
use Rattle.model.proofs.Basics.Tests.{cond_case}
use Rattle.model.proofs.Agreement.State.{put}
use Rattle.model.proofs.Agreement.Cells.{Cell, on_put}
use Rattle.model.proofs.Agreement.Registers.{Brought, Clean}
use Rattle.model.proofs.Agreement.Reads.{stays_clean}
use Rattle.model.proofs.Agreement.Writes.{wrote_each}
use Rattle.model.proofs.Agreement.Invariant.{Kept, own_at}
use Rattle.model.proofs.Agreement.Read.{shows}
use Rattle.model.proofs.Agreement.Inductive.{Inductive}
use Rattle.model.proofs.Agreement.StateCalls.{Any, inductive}

-- no station comes to mark adopt
abbrev pub AlikeTurn : Turn → Type 0
AlikeTurn turn_m = Unit {0}
AlikeTurn turn_a = Unit {0}
AlikeTurn (turn_b adopt) = ⊥
AlikeTurn (turn_b commit) = Unit {0}

module _ {F : Type 0} (v : F) where
  -- a register of array a is empty or says v: in m at island 0, in A and B on island 0, and in B as a commit
  abbrev pub AlikeRegister : Array → Register F → Type 0
  AlikeRegister a empty = Unit {0}
  AlikeRegister in_m (filled f k y) = (k ≡ 0) × (y ≡ v)
  AlikeRegister (in_a c) (filled f k y) = (c ≡ 0) × (y ≡ v)
  AlikeRegister (in_b c) (filled f k y) = (c ≡ 0) × (f ≡ commit) × (y ≡ v)

  -- what a collect has seen of such registers
  abbrev pub AlikeSeen : Turn → Seen F → Type 0
  AlikeSeen turn_m nothing = Unit {0}
  AlikeSeen turn_m (seen g k y) = (k ≡ 0) × (y ≡ v)
  AlikeSeen turn_a a = Clean turn_a v a
  AlikeSeen (turn_b f) a = Clean (turn_b f) v a

  abbrev pub AlikeStage : Stage F → Type 0
  AlikeStage (writing t c x) = AlikeTurn t × (c ≡ 0) × (x ≡ v)
  AlikeStage (reading t c x p a) = AlikeTurn t × (c ≡ 0) × (x ≡ v) × AlikeSeen t a
  AlikeStage (has_decided c x) = (c ≡ 0) × (x ≡ v)
  AlikeStage (is_spent c x) = ⊥

  abbrev pub AlikeStation : Station F → Type 0
  AlikeStation idle = Unit {0}
  AlikeStation (active w s) = AlikeStage s

  pub record Alike (C : Cell F) : Type 0 where
    pub station : AlikeStation C.station
    pub register : (a : Array) → AlikeRegister a (C.register a)

  -- what a station writes
  entry_alike : (t : Turn) (c : ℕ) (x : F) → AlikeTurn t → c ≡ 0 → x ≡ v → AlikeRegister (array t c) (entry t c x)
  unfolding array entry
  entry_alike turn_m c x u p q = (p, q)
  entry_alike turn_a c x u p q = (p, q)
  entry_alike (turn_b adopt) c x u p q = absurd u
  entry_alike (turn_b commit) c x u p q = (p, refl, q)

  -- The end of a collect that shows the station's own register and nothing against v.
  abbrev pub next : Turn → Move F
  next turn_m = stay (writing turn_a 0 v) (went 0 v)
  next turn_a = stay (writing (turn_b commit) 0 v) (marked (flag_number commit) v)
  next (turn_b f) = stay (has_decided 0 v) (decided 0 v)

  pub ended_alike : (K : ℕ) (t : Turn) (c : ℕ) (x : F) (a : Seen F) → AlikeTurn t → c ≡ 0 → AlikeSeen t a
      → Brought t c x a → ended K t c x a ≡ next t
  unfolding ended finish
  ended_alike K t c x nothing u e s b = absurd b
  ended_alike K turn_m c x (seen g k y) u e s b = rw (s.0, s.1)
  ended_alike K turn_a c x (seen first k y) u e s b = rw (e, s)
  ended_alike K turn_a c x (seen second k y) u e s b = absurd s
  ended_alike K turn_a c x (seen third k y) u e s b = absurd s
  ended_alike K (turn_b adopt) c x (seen g k y) u e s b = absurd u
  ended_alike K (turn_b commit) c x (seen first k y) u e s b = absurd s
  ended_alike K (turn_b commit) c x (seen second k y) u e s b = rw (e, s)
  ended_alike K (turn_b commit) c x (seen third k y) u e s b = absurd s

  nothing_alike : (t : Turn) → AlikeSeen t nothing
  nothing_alike turn_m = tt
  nothing_alike turn_a = tt
  nothing_alike (turn_b f) = tt

  next_alike : (t : Turn) → AlikeStage (next t).stage
  unfolding stay
  next_alike turn_m = (tt, refl, refl)
  next_alike turn_a = (tt, refl, refl)
  next_alike (turn_b f) = (refl, refl)

  module _ (o : Order F) (sameRefl : (x : F) → o.same x x ≡ true) where
    see_alike : (t : Turn) (c : ℕ) (a : Seen F) (r : Register F) → AlikeTurn t → AlikeSeen t a
        → AlikeRegister (array t c) r → AlikeSeen t (see o t a r)
    unfolding see add array
    see_alike t c a empty u h q = h
    see_alike turn_m c nothing (filled f k y) u h q = q
    see_alike turn_m c (seen g j x) (filled f k y) u h q =
        cond_case (AlikeSeen turn_m) (pair_above o k y j x) _ _ (λ e. q) (λ e. h)
    see_alike turn_a c a (filled f k y) u h q = stays_clean o sameRefl turn_a v a (filled f k y) h q.1
    see_alike (turn_b adopt) c a (filled f k y) u h q = absurd u
    see_alike (turn_b commit) c a (filled f k y) u h q =
        stays_clean o sameRefl (turn_b commit) v a (filled f k y) h (q.1, q.2)

    module _ (sameIs : (x y : F) → o.same x y ≡ true → x ≡ y) (n K : ℕ) where
      -- the invariant, with the one that it leans on
      abbrev pub AllAlike : (ℕ → Cell F) → Type 0
      AllAlike f = Kept n f × ((i : ℕ) → Alike (f i))

      agrees : Inductive o n K Any (Kept n)
      agrees = inductive o sameIs n K

      -- what the invariant says of a station whose record is known
      pub alike_at : {f : ℕ → Cell F} {z : Station F} (i : ℕ) → AllAlike f → (f i).station ≡ z → AlikeStation z
      alike_at i h is = subst AlikeStation is (h.1 i).station

      -- station i moved to the cell C
      moved : {f : ℕ → Cell F} (i : ℕ) (C : Cell F) → AllAlike f → Kept n (put i C f) → AlikeStation C.station
          → ((a : Array) → AlikeRegister a (C.register a)) → AllAlike (put i C f)
      moved {f} i C h k s r =
          (k, on_put i C f (λ j D. Alike D) (record { station = s; register = r }) (λ j d. h.1 j))

      pub alike_inductive : Inductive o n K (λ w. w ≡ v) AllAlike
      unfolding proposed
      alike_inductive = record {
        proposes = λ {f} i w near is q h.
            moved i _ h (agrees.proposes i w near is tt h.0) (tt, refl, q) (h.1 i).register;
        writes = λ {f} i w t c x near is h.
            let (u, e, q) = alike_at i h is in
            moved i _ h (agrees.writes i w t c x near is h.0) (u, e, q, nothing_alike t)
            (wrote_each c x (f i).register AlikeRegister t (entry_alike t c x u e q) (h.1 i).register);
        reads = λ {f} i w t c x p a near is h.
            let (u, e, q, s) = alike_at i h is in
            moved i _ h (agrees.reads i w t c x p a near is h.0)
            (u, e, q, see_alike t c a _ u s ((h.1 p).register (array t c))) (h.1 i).register;
        settles = λ {f} i w t c x p a near is end h.
            let (u, e, q, s) = alike_at i h is in
            let shown = (own_at h.0 is).mine.1 (omega arith) in
            moved i _ h (agrees.settles i w t c x p a near is end h.0)
            (rw (ended_alike K t c x a u e s shown) (next_alike t)) (h.1 i).register;
      }

      -- the last read of a collect
      pub last_alike : {f : ℕ → Cell F} (i : ℕ) (w : F) (t : Turn) (c : ℕ) (x : F) (p : ℕ) (a : Seen F) → i < n
          → (f i).station ≡ active w (reading t c x p a) → n ≤ p + 1 → AllAlike f
          → ended K t c x (see o t a ((f p).register (array t c))) ≡ next t
      last_alike {f} i w t c x p a near is last h =
          let (u, e, q, s) = alike_at i h is in
          ended_alike K t c x _ u e (see_alike t c a _ u s ((h.1 p).register (array t c)))
          (shows o sameIs n i w t c x p a is h.0 (omega arith))
