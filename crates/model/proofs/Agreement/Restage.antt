-- A move that writes nothing, as a proposal, a read and the end of a collect: what it owes is said of the station's
-- record before and after alone. Relies on the invariant; the three kinds of such moves rely on it.
use Rattle.model.proofs.Kit.{◌≡◌, refl, sym, subst, subst₂, inl, inr, ◌⊎◌, ℕ, ◌≤◌, ◌<◌, arith}
use Rattle.model.specs.Listing.{adopt, commit, Turn, turn_m, turn_a, turn_b, Station, idle, active, writing, in_a}
use Rattle.model.specs.Listing.{in_b, proposed}
use Rattle.model.proofs.Agreement.State.{put}
use Rattle.model.proofs.Agreement.Cells.{Cell, standing}
use Rattle.model.proofs.Agreement.Registers.{Says, Marked}
use Rattle.model.proofs.Agreement.Own.{Proposes, Later, Begun, reach, Mine}
use Rattle.model.proofs.Agreement.Passed.{Passed, About}
use Rattle.model.proofs.Agreement.PairsA.{CanMiss, unmet, to_commit, committed}
use Rattle.model.proofs.Agreement.PairsB.{MayPass, committing, writing_may_not}
use Rattle.model.proofs.Agreement.Licences.{Holds, Sighted, Committed, Licensed, Steady, licensed_stays}
use Rattle.model.proofs.Agreement.Invariant.{Kept, keeps, own_at}

module _ {F : Type 0} (n : ℕ) where
  pub record Restaged (f : ℕ → Cell F) (i : ℕ) (from to : Station F) : Type 0 where
    pub reaches : reach from ≤ reach to
    pub begins : Begun to → Begun from
    pub mine : Mine i to (f i).register
    pub proposes : (x : F) → Proposes from x → Proposes to x
    pub over_adopts : (j k : ℕ) → Marked adopt ((f j).register (in_b k)) → MayPass k j to → MayPass k j from
    pub misses : (j k : ℕ) (x y : F) → Passed turn_a k j to → Says ((f i).register (in_a k)) x
        → Says ((f j).register (in_a k)) y
        → Passed turn_a k j from ⊎ (x ≡ y)
    pub to_commit : (j k : ℕ) → j < n → About (turn_b commit) k to → Passed turn_a k j from
    pub met_none : (j k : ℕ) → Marked commit ((f j).register (in_b k)) → Passed (turn_b adopt) k j to
        → Passed (turn_b adopt) k j from
    pub held : (k : ℕ) (y : F) → Holds to k y → Licensed n f k y
    pub sighted : (k : ℕ) (y : F) → Sighted to k y → Committed f k y

  module _ {f : ℕ → Cell F} {i : ℕ} {from to : Station F} (near : i < n) (is : (f i).station ≡ from) (h : Kept n f)
      (d : Restaged f i from to) where
    -- the station's cell after the move
    abbrev new : Cell F
    new = standing to (f i)

    steady : Steady f i new
    steady = record {
      same = λ k e. refl;
      proposes = λ x p. d.proposes x (subst (λ (s : Station F). Proposes s x) is p);
      fills = λ e. e;
      over_adopts = λ j k a m. subst (λ (s : Station F). MayPass k j s) (sym is) (d.over_adopts j k a m);
    }

    missed : (j k : ℕ) (x y : F) → j < n → CanMiss k j new → Says ((f i).register (in_a k)) x
        → Says ((f j).register (in_a k)) y
        → (CanMiss k j (f i) × Says ((f i).register (in_a k)) x) ⊎ (x ≡ y)
    missed j k x y b (unmet p) q r = go (d.misses j k x y p q r)
      where
        go : Passed turn_a k j from ⊎ (x ≡ y) → (CanMiss k j (f i) × Says ((f i).register (in_a k)) x) ⊎ (x ≡ y)
        go (inl m) = inl (unmet (subst (λ (s : Station F). Passed turn_a k j s) (sym is) m), q)
        go (inr e) = inr e
    missed j k x y b (to_commit p) q r =
        inl (unmet (subst (λ (s : Station F). Passed turn_a k j s) (sym is) (d.to_commit j k b p)), q)
    missed j k x y b (committed p) q r = inl (committed p, q)

    pub restages : Kept n (put i (standing to (f i)) f)
    restages = keeps n near h (record {
      steady = steady;
      own = record {
        near = λ _. near;
        early = λ k e. omega (arith, d.reaches, (own_at h is).early k e);
        begun = λ b. (own_at h is).begun (d.begins b);
        mine = d.mine;
        over = (h.own i).over;
      };
      misses = missed;
      met_none = λ j k m p. subst (λ (s : Station F). Passed (turn_b adopt) k j s) (sym is) (d.met_none j k m p);
      held = λ k y p. licensed_stays steady n k y (d.held k y p);
      stored = λ a k y p. licensed_stays steady n k y (h.stored i a k y p);
      sighted = d.sighted;
    })

  -- The station is to write next, after a collect or a proposal.
  pub to_writing : {f : ℕ → Cell F} {i : ℕ} {from : Station F} (v : F) (t : Turn) (c : ℕ) (x : F) → reach from ≤ c
      → (Later t c → Begun from) → Mine i (active v (writing t c x)) (f i).register
      → ((y : F) → Proposes from y → v ≡ y)
      → ((j k : ℕ) → j < n → (t ≡ turn_b commit) × (c ≡ k) → Passed turn_a k j from)
      → (Later t c → Licensed n f c x) → Restaged f i from (active v (writing t c x))
  to_writing {f} v t c x up later mine whose commits l = record {
    reaches = up;
    begins = later;
    mine = mine;
    proposes = whose;
    over_adopts = λ j k m q. absurd (writing_may_not q);
    misses = λ j k y z q r w. absurd q;
    to_commit = commits;
    met_none = λ j k m q. absurd q;
    held = λ k y q. subst₂ (λ (d : ℕ) (z : F). Licensed n f d z) q.1 q.2 (l q.0);
    sighted = λ k y q. absurd q;
  }

  pub proposes_kept : {f : ℕ → Cell F} (i : ℕ) (v : F) → i < n → (f i).station ≡ idle → Kept n f
      → Kept n (put i (standing (proposed v) (f i)) f)
  unfolding proposed
  proposes_kept i v near is h = restages near is h
      (to_writing v turn_m 0 v (omega arith) (λ (b : 0 < 0). omega arith) (λ e. refl) (λ y p. absurd p)
      (λ j k b p. absurd (committing turn_m p.0)) (λ (b : 0 < 0). absurd (omega arith)))
