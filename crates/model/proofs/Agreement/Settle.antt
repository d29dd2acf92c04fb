-- The end of a collect keeps the invariant: where the next position is n, the station goes on by what it has seen.
-- Relies on moves that write nothing; the calls rely on it.
use Rattle.model.proofs.Kit.{◌≡◌, refl, sym, subst, subst₂, inl, inr, ℕ, suc, ◌+◌, ◌≤◌, ◌<◌, ℕ_discrete, arith}
use Rattle.model.specs.Listing.{Flag, adopt, commit, Turn, turn_m, turn_a, turn_b, Grade, first, second, third, Seen}
use Rattle.model.specs.Listing.{nothing, seen, writing, reading, has_decided, is_spent, Station, active, Move}
use Rattle.model.specs.Listing.{in_a, in_b}
use Rattle.model.specs.Listing.{array, stay, onward, finish, ended}
use Rattle.model.proofs.Listing.Cases.{onward_case}
use Rattle.model.proofs.Agreement.State.{put}
use Rattle.model.proofs.Agreement.Cells.{Cell, standing}
use Rattle.model.proofs.Agreement.Registers.{Says, Marked, Brought, marked_filled}
use Rattle.model.proofs.Agreement.Own.{after, Mine, filled_near}
use Rattle.model.proofs.Agreement.Passed.{Passed}
use Rattle.model.proofs.Agreement.PairsB.{MayPass, passing, past, may_awake, committing, spent_may_not}
use Rattle.model.proofs.Agreement.Licences.{Out, Licensed}
use Rattle.model.proofs.Agreement.Invariant.{Kept, own_at, held_at, sighted_at}
use Rattle.model.proofs.Agreement.Restage.{Restaged, restages, to_writing}

module _ {F : Type 0} (n : ℕ) {f : ℕ → Cell F} (i : ℕ) (v : F) (near : i < n) (h : Kept n f) where
  module _ (t : Turn) (c : ℕ) (x : F) (p : ℕ) (a : Seen F) (is : (f i).station ≡ active v (reading t c x p a))
      (end : n ≤ p) where
    -- the record before
    abbrev before : Station F
    before = active v (reading t c x p a)

    -- the collect has passed the station's own register
    shows : Brought t c x a
    shows = (own_at h is).mine.1 (omega arith)

    to_next : (u : Turn) (d : ℕ) (y : F) → after t c ≤ d → Mine i (active v (writing u d y)) (f i).register
        → ((j k : ℕ) → j < n → (u ≡ turn_b commit) × (d ≡ k) → Passed turn_a k j before) → Licensed n f d y
        → Restaged n f i before (active v (writing u d y))
    to_next u d y up mine commits l = to_writing n v u d y up (λ _. tt) mine (λ z q. q) commits (λ _. l)

    to_spent : (y : F) → after t c ≤ suc c → Licensed n f c y → Restaged n f i before (active v (is_spent c y))
    to_spent y up l = record {
      reaches = up;
      begins = λ b. tt;
      mine = tt;
      proposes = λ z q. q;
      over_adopts = λ j k m q. absurd (spent_may_not q);
      misses = λ j k y z q r w. absurd q;
      to_commit = λ j k b q. absurd q;
      met_none = λ j k m q. absurd q;
      held = λ k z q. subst₂ (λ (e : ℕ) (w : F). Licensed n f e w) q.0 q.1 l;
      sighted = λ k z q. absurd q;
    }

    -- a figure that may leave its island goes on to the next
    goes_on : (K : ℕ) (y : F) → after t c ≤ suc c → Licensed n f c y → Out f c y
        → Restaged n f i before (active v (onward K c y).stage)
    unfolding stay
    goes_on K y up l out = onward_case K (λ (m : Move F). Restaged n f i before (active v m.stage)) c y
        (λ _. to_next turn_m (c + 1) y (omega arith) (λ e. absurd (omega arith))
        (λ j k b q. absurd (committing turn_m q.0)) next)
        (to_spent y up l)
      where
        next : Licensed n f (c + 1) y
        next = record { valid = l.valid; out = λ k b. there k b (ℕ_discrete c k) }
          where
            there : (k : ℕ) → k < c + 1 → Dec (c ≡ k) → Out f k y
            there k b (yes e) = subst (λ (d : ℕ). Out f d y) e out
            there k b (no e) = l.out k (omega arith)

  -- different figures in A: the station is to adopt
  to_adopt : (c : ℕ) (x : F) (p : ℕ) (g : Grade) (k : ℕ) (y : F)
      → (f i).station ≡ active v (reading turn_a c x p (seen g k y))
      → n ≤ p → Restaged n f i (active v (reading turn_a c x p (seen g k y))) (active v (writing (turn_b adopt) c y))
  unfolding array
  to_adopt c x p g k y is e = to_next turn_a c x p (seen g k y) is e (turn_b adopt) c y (omega arith) tt
      (λ j k b q. absurd (committing (turn_b adopt) q.0)) (held_at h is c y (refl, refl))

  -- one figure in A, and so its own: the station is to commit
  to_mark : (c : ℕ) (x : F) (p k : ℕ) (y : F) → (f i).station ≡ active v (reading turn_a c x p (seen first k y))
      → n ≤ p → Restaged n f i (active v (reading turn_a c x p (seen first k y))) (active v (writing (turn_b commit) c y))
  unfolding array
  to_mark c x p k y is e =
      let s : y ≡ x = shows turn_a c x p (seen first k y) is e in
      to_next turn_a c x p (seen first k y) is e (turn_b commit) c y (omega arith)
      (subst (λ (w : F). Says ((f i).register (in_a c)) w) (sym s) (own_at h is).mine.0)
      (λ j k b q. (refl, q.1, omega arith, s)) (held_at h is c y (refl, refl))

  to_decided : (c : ℕ) (x : F) (p k : ℕ) (y : F)
      → (f i).station ≡ active v (reading (turn_b commit) c x p (seen second k y)) → n ≤ p
      → Restaged n f i (active v (reading (turn_b commit) c x p (seen second k y))) (active v (has_decided c y))
  unfolding array
  to_decided c x p k y is end = record {
    reaches = omega arith;
    begins = λ b. tt;
    mine = (own.0, subst (λ (w : F). Says ((f i).register (in_b c)) w) (sym shown) own.1);
    proposes = λ z q. q;
    over_adopts = passes;
    misses = λ j k y z q r w. absurd q;
    to_commit = λ j k b q. absurd q;
    met_none = λ j k m q. absurd q;
    held = held_at h is;
    sighted = λ k z q. absurd q;
  }
    where
      own : Marked commit ((f i).register (in_b c)) × Says ((f i).register (in_b c)) x
      own = (own_at h is).mine.0

      shown : y ≡ x
      shown = shows (turn_b commit) c x p (seen second k y) is end

      passes : (j d : ℕ) → Marked adopt ((f j).register (in_b d)) → MayPass d j (active v (has_decided c y))
          → MayPass d j (active v (reading (turn_b commit) c x p (seen second k y)))
      passes j d m (passing q) = absurd q
      passes j d m (past q) =
          let b : j < n = filled_near (h.own j) d (marked_filled adopt ((f j).register (in_b d)) m) in
          passing (refl, q, omega arith, shown)

  -- A station that met adopts only spoils its island: it met no commit up to anyone, so nobody may decide past it.
  spoils : (c : ℕ) (x : F) (p k : ℕ) (y : F) → (f i).station ≡ active v (reading (turn_b adopt) c x p (seen first k y))
      → n ≤ p → Out f c y
  unfolding array
  spoils c x p k y is end = inr (i, (own_at h is).mine.0.0, nobody)
    where
      nobody : (j : ℕ) → MayPass c i (f j).station → ⊥
      nobody j m =
          let b : j < n = (h.own j).near (may_awake c i (f j).station m) in
          h.not_both j i c m (subst (λ (s : Station F). Passed (turn_b adopt) c j s) (sym is)
          (refl, refl, omega arith, tt))

  -- A station that met a commit beside something else goes on with the figure of that commit.
  mixes : (K : ℕ) (g : Flag) (c : ℕ) (x : F) (p k : ℕ) (y : F)
      → (f i).station ≡ active v (reading (turn_b g) c x p (seen third k y)) → n ≤ p
      → Restaged n f i (active v (reading (turn_b g) c x p (seen third k y))) (active v (onward K c y).stage)
  unfolding array
  mixes K g c x p k y is e = goes_on (turn_b g) c x p (seen third k y) is e K y (omega arith)
      (held_at h is c y (refl, refl))
      (inl (sighted_at h is c y (refl, refl)))

  ends : (K : ℕ) (t : Turn) (c : ℕ) (x : F) (p : ℕ) (a : Seen F) → (f i).station ≡ active v (reading t c x p a) → n ≤ p
      → Restaged n f i (active v (reading t c x p a)) (active v (ended K t c x a).stage)
  unfolding ended finish stay array
  ends K t c x p nothing is e = absurd (shows t c x p nothing is e)
  ends K turn_m c x p (seen g k y) is e =
      to_next turn_m c x p (seen g k y) is e turn_a k y (shows turn_m c x p (seen g k y) is e) tt
      (λ j k b q. absurd (committing turn_a q.0)) (held_at h is k y (refl, refl))
  ends K turn_a c x p (seen first k y) is e = to_mark c x p k y is e
  ends K turn_a c x p (seen second k y) is e = to_adopt c x p second k y is e
  ends K turn_a c x p (seen third k y) is e = to_adopt c x p third k y is e
  ends K (turn_b adopt) c x p (seen first k y) is e =
      goes_on (turn_b adopt) c x p (seen first k y) is e K y (omega arith) (held_at h is c y (refl, refl))
      (spoils c x p k y is e)
  ends K (turn_b adopt) c x p (seen second k y) is e = absurd (shows (turn_b adopt) c x p (seen second k y) is e)
  ends K (turn_b adopt) c x p (seen third k y) is e = mixes K adopt c x p k y is e
  ends K (turn_b commit) c x p (seen first k y) is e = absurd (shows (turn_b commit) c x p (seen first k y) is e)
  ends K (turn_b commit) c x p (seen second k y) is e = to_decided c x p k y is e
  ends K (turn_b commit) c x p (seen third k y) is e = mixes K commit c x p k y is e

  pub settle_kept : (K : ℕ) (t : Turn) (c : ℕ) (x : F) (p : ℕ) (a : Seen F)
      → (f i).station ≡ active v (reading t c x p a)
      → n ≤ p → Kept n (put i (standing (active v (ended K t c x a).stage) (f i)) f)
  settle_kept K t c x p a is end = restages n near is h (ends K t c x p a is end)
