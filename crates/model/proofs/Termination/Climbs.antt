-- No station is on an island that m does not show: the invariant that a station left alone rests on. Island k is
-- reached if some register of m has an island of k or more.
-- Relies on the invariant of demand 3, which it leaves as it is, and on the parts of a move; what stands above the
-- highest island of m relies on it.
use Rattle.model.proofs.Kit.{◌≡◌, refl, sym, subst, true, inl, inr, ◌⊎◌, ℕ, suc, ◌≤◌, ◌<◌, arith}
use Rattle.model.specs.Listing.{Order, Flag, Register, empty, filled, Turn, turn_m, turn_a, turn_b, first, second}
use Rattle.model.specs.Listing.{third, Seen, nothing, seen, writing, reading, has_decided, is_spent, Station}
use Rattle.model.specs.Listing.{idle, active, Array, in_m, in_a, array, entry, Move, proposed, stay, onward, ended}
use Rattle.model.specs.Listing.{finish}
use Rattle.model.proofs.Listing.Cases.{onward_case}
use Rattle.model.proofs.Listing.Collect.{Filled}
use Rattle.model.proofs.Agreement.State.{initial, put, put_same, same_array}
use Rattle.model.proofs.Agreement.Cells.{Cell, standing, cells, written, on_put}
use Rattle.model.proofs.Agreement.Registers.{AtLeast, Figure, Best, Holds}
use Rattle.model.proofs.Agreement.Reads.{located}
use Rattle.model.proofs.Agreement.Writes.{wrote}
use Rattle.model.proofs.Agreement.Inductive.{Inductive, looked, begun}
use Rattle.model.proofs.Agreement.Invariant.{Kept, own_at}
use Rattle.model.proofs.Agreement.StateCalls.{Any, inductive}

module _ {F : Type 0} where
  -- the island of a station
  abbrev pub island_at : Station F → ℕ
  island_at idle = 0
  island_at (active v (writing t c x)) = c
  island_at (active v (reading t c x p a)) = c
  island_at (active v (has_decided c x)) = c
  island_at (active v (is_spent c x)) = c

  -- the station's registers of A are filled below this island only
  abbrev pub reach_a : Station F → ℕ
  reach_a idle = 0
  reach_a (active v (writing turn_m c x)) = c
  reach_a (active v (writing turn_a c x)) = c
  reach_a (active v (writing (turn_b f) c x)) = suc c
  reach_a (active v (reading turn_m c x p a)) = c
  reach_a (active v (reading turn_a c x p a)) = suc c
  reach_a (active v (reading (turn_b f) c x p a)) = suc c
  reach_a (active v (has_decided c x)) = suc c
  reach_a (active v (is_spent c x)) = suc c

  -- the islands below this one are reached: only before its write to m a station may be one above
  abbrev pub climbed : Station F → ℕ
  climbed idle = 0
  climbed (active v (writing turn_m c x)) = c
  climbed (active v (writing turn_a c x)) = suc c
  climbed (active v (writing (turn_b f) c x)) = suc c
  climbed (active v (reading t c x p a)) = suc c
  climbed (active v (has_decided c x)) = suc c
  climbed (active v (is_spent c x)) = suc c

  -- the best pair of a collect of m that is under way
  abbrev pub Sights : Station F → ℕ → F → Type 0
  Sights idle k y = ⊥
  Sights (active v (writing t c x)) k y = ⊥
  Sights (active v (reading turn_m c x p a)) k y = Best in_m a k y
  Sights (active v (reading turn_a c x p a)) k y = ⊥
  Sights (active v (reading (turn_b f) c x p a)) k y = ⊥
  Sights (active v (has_decided c x)) k y = ⊥
  Sights (active v (is_spent c x)) k y = ⊥

  abbrev pub Reached : (ℕ → Cell F) → ℕ → Type 0
  Reached f k = (j : ℕ) × AtLeast k ((f j).register in_m)

  -- what a station's record says of its own A and m
  pub record Behind (s : Station F) (R : Array → Register F) : Type 0 where
    pub early : (k : ℕ) → Filled (R (in_a k)) → k < reach_a s
    pub low : Holds (λ f k y. k ≤ island_at s) (R in_m)

  pub record Climbs (f : ℕ → Cell F) : Type 0 where
    pub behind : (i : ℕ) → Behind (f i).station (f i).register
    pub below : (i k : ℕ) → k < climbed (f i).station → Reached f k
    pub sights : (i k : ℕ) (y : F) → Sights (f i).station k y → Reached f k

  at_least : (k j : ℕ) (r : Register F) → j ≤ k → AtLeast k r → AtLeast j r
  at_least k j empty l h = absurd h
  at_least k j (filled f i y) l h = omega arith

  pub reached_below : (f : ℕ → Cell F) (k j : ℕ) → j ≤ k → Reached f k → Reached f j
  reached_below f k j l h = (h.0, at_least k j ((f h.0).register in_m) l h.1)

  -- ---- one station's cell becomes C, and its m does not fall

  module _ (f : ℕ → Cell F) (i : ℕ) (C : Cell F)
      (lifts : (k : ℕ) → AtLeast k ((f i).register in_m) → AtLeast k (C.register in_m)) where
    still : (k : ℕ) → Reached f k → Reached (put i C f) k
    still k h = (
      h.0,
      on_put i C f (λ (j : ℕ) (D : Cell F). AtLeast k ((f j).register in_m) → AtLeast k (D.register in_m))
          (lifts k) (λ j e q. q) h.0 h.1,
    )

    keeps : Behind C.station C.register → ((k : ℕ) → k < climbed C.station → Reached (put i C f) k)
        → ((k : ℕ) (y : F) → Sights C.station k y → Reached (put i C f) k) → Climbs f → Climbs (put i C f)
    keeps own low best h = record {
      behind = on_put i C f (λ (j : ℕ) (D : Cell F). Behind D.station D.register) own (λ j e. h.behind j);
      below = on_put i C f (λ (j : ℕ) (D : Cell F). (k : ℕ) → k < climbed D.station → Reached (put i C f) k) low
          (λ j e k l. still k (h.below j k l));
      sights = on_put i C f
          (λ (j : ℕ) (D : Cell F). (k : ℕ) (y : F) → Sights D.station k y → Reached (put i C f) k) best
          (λ j e k y q. still k (h.sights j k y q));
    }

  -- what the invariant says of a station whose record is known
  module _ {f : ℕ → Cell F} (h : Climbs f) {i : ℕ} {s : Station F} (is : (f i).station ≡ s) where
    pub behind_at : Behind s (f i).register
    behind_at = subst (λ (z : Station F). Behind z (f i).register) is (h.behind i)

    pub below_at : (k : ℕ) → k < climbed s → Reached f k
    below_at k l = h.below i k (subst (λ (z : Station F). k < climbed z) (sym is) l)

    pub sights_at : (k : ℕ) (y : F) → Sights s k y → Reached f k
    sights_at k y q = h.sights i k y (subst (λ (z : Station F). Sights z k y) (sym is) q)

    -- another record, and nothing is written
    pub restages : (to : Station F) → reach_a s ≤ reach_a to → island_at s ≤ island_at to
        → ((k : ℕ) → k < climbed to → Reached f k) → ((k : ℕ) (y : F) → Sights to k y → Reached f k)
        → Climbs (put i (standing to (f i)) f)
    restages to up over low best =
        keeps f i _ lifts
        (record {
          early = λ k d. omega (arith, behind_at.early k d, up);
          low = higher ((f i).register in_m) behind_at.low;
        })
        (λ k l. still f i _ lifts k (low k l)) (λ k y q. still f i _ lifts k (best k y q)) h
      where
        lifts : (k : ℕ) → AtLeast k ((f i).register in_m) → AtLeast k ((f i).register in_m)
        lifts k q = q

        higher : (r : Register F) → Holds (λ g k y. k ≤ island_at s) r → Holds (λ g k y. k ≤ island_at to) r
        higher empty q = tt
        higher (filled g k y) q = omega (arith, over)

  -- ---- a write

  module _ {f : ℕ → Cell F} (h : Climbs f) (i : ℕ) (v : F) where
    -- of another array than m: what is below the station's island is as before
    pub wrote_up : (t : Turn) (c : ℕ) (x : F) → (f i).station ≡ active v (writing t c x)
        → wrote t c x (f i).register in_m ≡ (f i).register in_m → suc c ≤ climbed (active v (writing t c x))
        → ((k : ℕ) → Filled (wrote t c x (f i).register (in_a k)) → k < reach_a (active v (reading t c x 0 nothing)))
        → ((k : ℕ) (y : F) → Sights (active v (reading t c x 0 nothing)) k y → ⊥)
        → Climbs (put i (begun v t c x (f i).register) f)
    wrote_up t c x is same up early none =
        keeps f i _ lifts
        (record {
          early = early;
          low = subst (Holds (λ g k y. k ≤ c)) (sym same) (behind_at h is).low;
        })
        (λ k l. still f i _ lifts k (below_at h is k (omega (arith, up)))) (λ k y q. absurd (none k y q)) h
      where
        lifts : (k : ℕ) → AtLeast k ((f i).register in_m) → AtLeast k (wrote t c x (f i).register in_m)
        lifts k q = subst (AtLeast k) (sym same) q

    writes : (t : Turn) (c : ℕ) (x : F) → (f i).station ≡ active v (writing t c x)
        → Climbs (put i (begun v t c x (f i).register) f)
    unfolding wrote written same_array array entry put
    writes turn_m c x is =
        keeps f i _ (λ k q. lift k ((f i).register in_m) (behind_at h is).low q)
        (record { early = (behind_at h is).early; low = omega arith })
        (λ k l. (i, subst (λ (D : Cell F). AtLeast k (D.register in_m)) (sym (put_same i _ f)) (omega arith)))
        (λ k y q. absurd q) h
      where
        lift : (k : ℕ) (r : Register F) → Holds (λ g l y. l ≤ c) r → AtLeast k r → k ≤ c
        lift k empty w q = absurd q
        lift k (filled g l y) w q = omega arith
    writes turn_a c x is =
        wrote_up turn_a c x is refl (omega arith)
        (on_put c (entry turn_a c x) (λ (b : ℕ). (f i).register (in_a b))
        (λ (b : ℕ) (r : Register F). Filled r → b < suc c) (λ w. omega arith)
        (λ b z w. omega (arith, (behind_at h is).early b w)))
        (λ k y q. q)
    writes (turn_b e) c x is = wrote_up (turn_b e) c x is refl (omega arith) (behind_at h is).early (λ k y q. q)

  -- ---- a proposal, a read and the end of a collect

  pub proposes : {f : ℕ → Cell F} → Climbs f → (i : ℕ) (v : F) → (f i).station ≡ idle
      → Climbs (put i (standing (proposed v) (f i)) f)
  unfolding proposed
  proposes h i v is =
      restages h is (active v (writing turn_m 0 v)) (omega arith) (omega arith)
      (λ k (l : k < 0). absurd (omega arith)) (λ k y q. absurd q)

  module _ (o : Order F) {f : ℕ → Cell F} (h : Climbs f) (i : ℕ) (v : F) where
    -- the best pair of a collect of m was the best before, or stands in the register that is read
    reads : (t : Turn) (c : ℕ) (x : F) (p : ℕ) (a : Seen F) → (f i).station ≡ active v (reading t c x p a)
        → Climbs (put i (standing (looked o v t c x p a ((f p).register (array t c))) (f i)) f)
    unfolding array
    reads turn_m c x p a is =
        restages h is _ (omega arith) (omega arith) (below_at h is) (λ k y q. go k y (located o turn_m c a _ k y q))
      where
        there : (k : ℕ) (y : F) (r : Register F) → Figure in_m r k y → AtLeast k r
        there k y empty q = q
        there k y (filled g j z) q = omega (arith, q.0)

        go : (k : ℕ) (y : F) → Best in_m a k y ⊎ Figure in_m ((f p).register in_m) k y → Reached f k
        go k y (inl q) = sights_at h is k y q
        go k y (inr q) = (p, there k y ((f p).register in_m) q)
    reads turn_a c x p a is = restages h is _ (omega arith) (omega arith) (below_at h is) (λ k y q. absurd q)
    reads (turn_b e) c x p a is = restages h is _ (omega arith) (omega arith) (below_at h is) (λ k y q. absurd q)

  module _ (n K : ℕ) {f : ℕ → Cell F} (kept : Kept n f) (h : Climbs f) (i : ℕ) (v : F) (near : i < n) where
    -- the station goes on upwards, or ends, on the island whose B it has collected
    climbs_on : (e : Flag) (c : ℕ) (x : F) (p : ℕ) (a : Seen F) (y : F)
        → (f i).station ≡ active v (reading (turn_b e) c x p a)
        → Climbs (put i (standing (active v (onward K c y).stage) (f i)) f)
    unfolding stay
    climbs_on e c x p a y is =
        onward_case K (λ (m : Move F). Climbs (put i (standing (active v m.stage) (f i)) f)) c y
        (λ l. restages h is _ (omega arith) (omega arith) (λ k b. below_at h is k (omega arith)) (λ k z q. absurd q))
        (restages h is _ (omega arith) (omega arith) (below_at h is) (λ k z q. absurd q))

    settles : (t : Turn) (c : ℕ) (x : F) (p : ℕ) (a : Seen F) → (f i).station ≡ active v (reading t c x p a) → n ≤ p
        → Climbs (put i (standing (active v (ended K t c x a).stage) (f i)) f)
    unfolding ended finish stay
    settles t c x p nothing is end = absurd ((own_at kept is).mine.1 (omega arith))
    settles turn_m c x p (seen g k y) is end =
        let up : c ≤ k = (own_at kept is).mine.1 (omega arith) in
        restages h is _ up up (λ j l. reached_below f k j (omega arith) (sights_at h is k y (refl, refl)))
        (λ j z q. absurd q)
    settles turn_a c x p (seen first k y) is end =
        restages h is _ (omega arith) (omega arith) (below_at h is) (λ j z q. absurd q)
    settles turn_a c x p (seen second k y) is end =
        restages h is _ (omega arith) (omega arith) (below_at h is) (λ j z q. absurd q)
    settles turn_a c x p (seen third k y) is end =
        restages h is _ (omega arith) (omega arith) (below_at h is) (λ j z q. absurd q)
    settles (turn_b e) c x p (seen first k y) is end = climbs_on e c x p (seen first k y) y is
    settles (turn_b e) c x p (seen second k y) is end =
        restages h is _ (omega arith) (omega arith) (below_at h is) (λ j z q. absurd q)
    settles (turn_b e) c x p (seen third k y) is end = climbs_on e c x p (seen third k y) y is

  -- ---- beside the invariant of demand 3

  abbrev pub Safe : ℕ → (ℕ → Cell F) → Type 0
  Safe n f = Kept n f × Climbs f

  pub climbs_inductive : (o : Order F) → ((x y : F) → o.same x y ≡ true → x ≡ y) → (n K : ℕ)
      → Inductive o n K Any (Safe n)
  climbs_inductive o sameIs n K =
      let k = inductive o sameIs n K in
      record {
        proposes = λ i v near is q h. (k.proposes i v near is q h.0, proposes h.1 i v is);
        writes = λ i v t c x near is h. (k.writes i v t c x near is h.0, writes h.1 i v t c x is);
        reads = λ i v t c x p a near is h.
            (k.reads i v t c x p a near is h.0, reads o h.1 i v t c x p a is);
        settles = λ i v t c x p a near is end h.
            (k.settles i v t c x p a near is end h.0, settles n K h.0 h.1 i v near t c x p a is end);
      }

  pub climbs_initial : Climbs (cells initial)
  unfolding initial cells
  climbs_initial = record {
    behind = λ i. record { early = λ k d. absurd d; low = tt };
    below = λ i k (l : k < 0). absurd (omega arith);
    sights = λ i k y q. absurd q;
  }
