-- The three passes of a station that is left alone: the rest of the one it is in, one on the highest island of m or
-- above it, and one alone on the island above. With top the first island that m does not show, a pass that begins on
-- top decides there; one that begins lower leads to top, or a pass nearer to it; and 9(n + 1) steps are enough.
-- Relies on the rest of a pass and on the collects of a station alone; left alone on a state relies on it.
use Rattle.model.proofs.Kit.{◌≡◌, refl, sym, subst, true, false, inl, inr, ◌⊎◌, ℕ, suc, ◌+◌, ◌-◌, ◌*◌, ◌≤◌, ◌<◌}
use Rattle.model.proofs.Kit.{ne_eqb, ℕ_discrete, some, arith}
use Rattle.model.specs.Listing.{Order, Flag, adopt, Register, empty, filled, Turn, turn_m, turn_a, turn_b, Seen}
use Rattle.model.specs.Listing.{nothing, seen, Stage, writing, reading, Station, Array, in_m, in_a, in_b, decided}
use Rattle.model.specs.Listing.{outcome, array, entry, stay, ended, finish, see}
use Rattle.model.specs.AnyList.{ends}
use Rattle.model.proofs.Agreement.State.{put, put_same, put_other, same_array, put_written}
use Rattle.model.proofs.Agreement.Cells.{on_put, written_elsewhere}
use Rattle.model.proofs.Agreement.Registers.{Figure as Stands}
use Rattle.model.proofs.Agreement.Registers.{Best, Left, Brought, Holds}
use Rattle.model.proofs.Agreement.Reads.{located, kept, brought}
use Rattle.model.proofs.Sequential.Turns.{go_on}
use Rattle.model.proofs.Sequential.Registers.{Registers, All, Figure, Commit, all_map, write}
use Rattle.model.proofs.Sequential.Alone.{loops, settle}
use Rattle.model.proofs.Sequential.Pass.{run, Sent, pass_m, pass_agreed}
use Rattle.model.proofs.Termination.Rest.{Within, Settles, rest, turn_a_lem, AfterB}

module _ {F : Type 0} where
  -- a register's island is below top, and it is the one before top or above
  abbrev pub Below : (top : ℕ) → Flag → ℕ → F → Type 0
  Below top e k y = k < top

  abbrev pub Near : (top : ℕ) → Register F → Type 0
  Near top empty = ⊥
  Near top (filled e k y) = top ≤ k + 1

  -- The registers while station i alone takes steps: in m the others are below top, and island top is empty.
  pub record Clear (n i top : ℕ) (f : Registers F) : Type 0 where
    pub others : (j : ℕ) → j < n → (i ≡ j → ⊥) → Holds (Below top) (f in_m j)
    pub empty_a : All n (λ e k y. ⊥) (f (in_a top))
    pub empty_b : All n (λ e k y. ⊥) (f (in_b top))

  -- top is right above the station's own island, or above another station's in m
  abbrev pub Peak : (n i top c : ℕ) → Registers F → Type 0
  Peak n i top c f = (top ≤ c + 1) ⊎ ((j : ℕ) × (j < n) × (i ≡ j → ⊥) × Near top (f in_m j))

  other_array : (a b : Array) (i : ℕ) (r : Register F) (f : Registers F) (j : ℕ) → same_array a b ≡ false
      → write a i r f b j ≡ f b j
  unfolding put_written
  other_array a b i r f j e = rw e

  module _ (n i top : ℕ) where
    pub clear_write : (a : Array) (r : Register F) (f : Registers F) → same_array a (in_a top) ≡ false
        → same_array a (in_b top) ≡ false → Clear n i top f → Clear n i top (write a i r f)
    clear_write a r f p q h = record {
      others = λ j l ne. subst (Holds (Below top)) (sym (written_elsewhere a i (some r) f in_m j ne)) (h.others j l ne);
      empty_a = λ j l. subst (Holds (λ e k y. ⊥)) (sym (other_array a (in_a top) i r f j p)) (h.empty_a j l);
      empty_b = λ j l. subst (Holds (λ e k y. ⊥)) (sym (other_array a (in_b top) i r f j q)) (h.empty_b j l);
    }

    -- the writes of a turn below top
    pub clear_turn : (t : Turn) (c : ℕ) → c < top → (r : Register F) (f : Registers F) → Clear n i top f
        → Clear n i top (write (array t c) i r f)
    unfolding array same_array
    clear_turn turn_m c l r f h = clear_write in_m r f refl refl h
    clear_turn turn_a c l r f h = clear_write (in_a c) r f (ne_eqb c top (λ e. omega arith)) refl h
    clear_turn (turn_b e) c l r f h = clear_write (in_b c) r f refl (ne_eqb c top (λ d. omega arith)) h

    pub peak_write : (c : ℕ) (a : Array) (r : Register F) (f : Registers F) → Peak n i top c f
        → Peak n i top c (write a i r f)
    peak_write c a r f (inl l) = inl l
    peak_write c a r f (inr (j, l, ne, q)) =
        inr (j, l, ne, subst (Near top) (sym (written_elsewhere a i (some r) f in_m j ne)) q)

    pub peak_up : (c d : ℕ) (f : Registers F) → c ≤ d → Peak n i top c f → Peak n i top d f
    peak_up c d f up (inl l) = inl (omega arith)
    peak_up c d f up (inr q) = inr q

  -- what the collect of m meets of island top - 1, once the station has written its own pair (c, x)
  record Met (n top : ℕ) (r : ℕ → Register F) : Type 0 where
    at : ℕ
    near : at < n
    flag : Flag
    island : ℕ
    figure : F
    is : r at ≡ filled flag island figure
    high : top ≤ island + 1

  met : (n i top c : ℕ) → i < n → (x : F) (f : Registers F) → Peak n i top c f
      → Met n top (put i (filled adopt c x) (f in_m))
  met n i top c below x f (inl l) = record {
    at = i;
    near = below;
    flag = adopt;
    island = c;
    figure = x;
    is = put_same i (filled adopt c x) (f in_m);
    high = l;
  }
  met n i top c below x f (inr (j, l, ne, q)) = by (f in_m j) refl q
    where
      by : (r : Register F) → f in_m j ≡ r → Near top r → Met n top (put i (filled adopt c x) (f in_m))
      by empty e q = absurd q
      by (filled g k y) e q = record {
        at = j;
        near = l;
        flag = g;
        island = k;
        figure = y;
        is = rw (put_other i (filled adopt c x) (f in_m) j ne) e;
        high = q;
      }

module _ {F : Type 0} (o : Order F) (sameIs : (x y : F) → o.same x y ≡ true → x ≡ y)
    (sameRefl : (x : F) → o.same x x ≡ true) (n K i : ℕ) (below : i < n) (w : F) (others : ℕ → Station F)
    (top : ℕ) (room : top < K) where
  abbrev Runs : ℕ → Stage F → Registers F → Type 0
  Runs b s f = Within o n K i below w others b s f

  -- ---- alone on top: no other register says anything there

  pub decides_on_top : (x : F) (f : Registers F) → Clear n i top f → (fuel : ℕ) → 3 * (n + 1) ≤ fuel
      → (run o n K i below w others fuel (writing turn_m top x) f).answer ≡ decided top x
  unfolding put_written same_array
  decides_on_top x f h fuel enough =
      let rest : ℕ = fuel - 3 * (n + 1) in
      let e : fuel ≡ loops n 3 rest = omega arith in
      let Q : ℕ → F → Type 0 = λ k y. (k < top) ⊎ ((k ≡ top) × (y ≡ x)) in
      let all : All n (λ g. Q) (put i (filled adopt top x) (f in_m)) =
      on_put i (filled adopt top x) (f in_m) (λ (j : ℕ) (r : Register F). j < n → Holds (λ g. Q) r)
      (λ l. inr (refl, refl)) (λ j ne l. lower (f in_m j) (h.others j l ne)) in
      let s : Sent o n K i below w others Q top (loops n 2 rest) top x f =
      pass_m o n K i below w others sameIs Q (loops n 2 rest) top x f all i below adopt top x (put_same i _ (f in_m)) in
      let (land, same) = there s.island s.figure s.least s.fact in
      rw (
        e,
        s.goes,
        land,
        same,
        pass_agreed o n K i below w others sameIs sameRefl x rest top
            (write in_m i (filled adopt top x) f)
            (all_map n (λ g k y. ⊥) (Figure x) (λ g k y q. absurd q) (f (in_a top)) h.empty_a)
            (all_map n (λ g k y. ⊥) (Commit x) (λ g k y q. absurd q) (f (in_b top)) h.empty_b),
      )
    where
      lower : (r : Register F) → Holds (Below top) r
          → Holds (λ g k y. (k < top) ⊎ ((k ≡ top) × (y ≡ x))) r
      lower empty q = tt
      lower (filled g k y) q = inl q

      there : (k : ℕ) (y : F) → top ≤ k → (k < top) ⊎ ((k ≡ top) × (y ≡ x)) → (k ≡ top) × (y ≡ x)
      there k y l (inl q) = absurd (omega arith)
      there k y l (inr q) = q

  on_top : (x : F) (f : Registers F) → Clear n i top f → Runs (3 * (n + 1)) (writing turn_m top x) f
  on_top x f h fuel enough = (top, x, decides_on_top x f h fuel enough)

  -- ---- a pass from its turn of A on, below top

  module _ (b : ℕ) (next : (c : ℕ) → c < top → (y : F) (f : Registers F) → Clear n i top f → Peak n i top c f
      → Runs b (writing turn_m (c + 1) y) f) where
    pub after_b : (c : ℕ) (l : c < top) (f : Registers F) → Clear n i top f → Peak n i top c f
        → AfterB o n K i below w others b c (omega arith) f
    after_b c l f h p e x y =
        next c l y _ (clear_turn n i top (turn_b e) c l _ f h) (peak_write n i top c (array (turn_b e) c) _ f p)

    pub from_a : (c : ℕ) (l : c < top) (x : F) (f : Registers F) → Clear n i top f → Peak n i top c f
        → Runs (n + 1 + (n + 1 + b)) (writing turn_a c x) f
    from_a c l x f h p =
        turn_a_lem o n K i below w others b c (omega arith) x f
        (after_b c l _ (clear_turn n i top turn_a c l _ f h) (peak_write n i top c (array turn_a c) _ f p))

  -- ---- a pass that begins at or below top

  pub to_top : (c : ℕ) → c ≤ top → (x : F) (f : Registers F) → Clear n i top f → Peak n i top c f
      → Runs (6 * (n + 1)) (writing turn_m c x) f
  unfolding array
  to_top c l x f h p = by (ℕ_discrete c top)
    where
      -- from the island below top the next pass is on top
      next : (d : ℕ) (z : F) (l : d < top) → top ≤ d + 1 → (g : Registers F) → Clear n i top g
          → AfterB o n K i below w others (3 * (n + 1)) d (omega arith) (write (array turn_a d) i (entry turn_a d z) g)
      next d z l k g q e u y =
          let at : d + 1 ≡ top = omega arith in
          rw at (on_top y _ (clear_turn n i top (turn_b e) d l _ _ (clear_turn n i top turn_a d l _ g q)))

      by : Dec (c ≡ top) → Runs (6 * (n + 1)) (writing turn_m c x) f
      by (yes e) fuel enough = rw e (on_top x f h fuel (omega arith))
      by (no ne) fuel enough =
          let under : c < top = omega arith in
          let m : Met n top (put i (filled adopt c x) (f in_m)) = met n i top c below x f p in
          let rest : ℕ = fuel - (n + 1) in
          let e : fuel ≡ loops n 1 rest = omega arith in
          let all : All n (Below top) (put i (filled adopt c x) (f in_m)) =
          on_put i (filled adopt c x) (f in_m) (λ (j : ℕ) (r : Register F). j < n → Holds (Below top) r)
          (λ l. under) (λ j ne l. h.others j l ne) in
          let s : Sent o n K i below w others (λ k y. k < top) m.island rest c x f =
          pass_m o n K i below w others sameIs (λ k y. k < top) rest c x f all m.at m.near m.flag m.island
          m.figure m.is in
          let high : top ≤ s.island + 1 = omega (arith, s.least, m.high) in
          let after = write in_m i (filled adopt c x) f in
          rw (e, s.goes)
          (turn_a_lem o n K i below w others (3 * (n + 1)) s.island (omega (arith, s.fact)) s.figure after
          (next s.island s.figure s.fact high after (clear_turn n i top turn_m c under _ f h))
          rest (omega arith))

  -- ---- the rest of the pass that the station is in, and then to top

  pub next_pass : (c : ℕ) → c < top → (y : F) (f : Registers F) → Clear n i top f → Peak n i top c f
      → Runs (6 * (n + 1)) (writing turn_m (c + 1) y) f
  next_pass c l y f h p = to_top (c + 1) (omega arith) y f h (peak_up n i top c (c + 1) f (omega arith) p)

  -- what a collect of m under way has seen is below top
  abbrev pub Lower : Seen F → Type 0
  Lower a = (k : ℕ) (y : F) → Best in_m a k y → k < top

  module _ (c : ℕ) (x : F) (f : Registers F) (all : All n (Below top) (f in_m)) (own : Left turn_m c x (f in_m i)) where
    -- the collect of m ends at an island from c on, below top
    abbrev Sees : ℕ → Seen F → Type 0
    Sees p a = (i < p → Brought turn_m c x a) × Lower a

    sees_on : (p : ℕ) (a : Seen F) → p < n → Sees p a → Sees (suc p) (see o turn_m a (f in_m p))
    unfolding array
    sees_on p a l h = (λ b. shows (ℕ_discrete i p) b, λ k y q. lower k y (located o turn_m c a (f in_m p) k y q))
      where
        shows : Dec (i ≡ p) → i < suc p → Brought turn_m c x (see o turn_m a (f in_m p))
        shows (yes e) b = brought o sameIs turn_m c x a (f in_m p) (subst (λ (j : ℕ). Left turn_m c x (f in_m j)) e own)
        shows (no e) b = kept o sameIs turn_m c x a (f in_m p) (h.0 (omega arith))

        stands : (r : Register F) (k : ℕ) (y : F) → Holds (Below top) r → Stands in_m r k y → k < top
        stands empty k y q z = absurd z
        stands (filled e j v) k y q z = omega (arith, z.0)

        lower : (k : ℕ) (y : F) → Best in_m a k y ⊎ Stands in_m (f in_m p) k y → k < top
        lower k y (inl q) = h.1 k y q
        lower k y (inr q) = stands (f in_m p) k y (all p l) q

    pub rest_m : (p : ℕ) → p < n → (a : Seen F) → (i < p → Brought turn_m c x a) → Lower a → Clear n i top f
        → Peak n i top c f → Runs (n - p + (n + 1 + (n + 1 + 6 * (n + 1)))) (reading turn_m c x p a) f
    unfolding settle go_on ends outcome stay ended finish array
    rest_m p l a shown low h q =
        rest o n K i below w others turn_m c x f Sees sees_on (n + 1 + (n + 1 + 6 * (n + 1))) end p l a (shown, low)
      where
        end : (a : Seen F) → Sees n a
            → Settles o n K i below w others (n + 1 + (n + 1 + 6 * (n + 1))) (ended K turn_m c x a) f
        end nothing s = absurd (s.0 below)
        end (seen g k y) s =
            let up : c ≤ k = s.0 below in
            from_a (6 * (n + 1)) next_pass k (s.1 k y (refl, refl)) y f h (peak_up n i top c k f up q)
