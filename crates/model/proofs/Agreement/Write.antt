-- A write keeps the invariant: the station fills its own register of the turn's array and starts a collect. Relies on
-- what a write does to registers and on the invariant's theorem on moves; the calls rely on it.
use Rattle.model.proofs.Kit.{◌≡◌, refl, sym, subst, inl, inr, ◌⊎◌, ℕ, ◌<◌, ℕ_discrete, arith}
use Rattle.model.specs.Listing.{adopt, commit, Register, Turn, turn_m, turn_a, turn_b, nothing, writing, reading}
use Rattle.model.specs.Listing.{Station, active, Array, in_m, in_a, in_b}
use Rattle.model.proofs.Agreement.State.{put, put_same}
use Rattle.model.proofs.Agreement.Cells.{Cell}
use Rattle.model.proofs.Listing.Collect.{Filled}
use Rattle.model.proofs.Agreement.Registers.{Says, Marked}
use Rattle.model.proofs.Agreement.Own.{Proposes, Later, Mine}
use Rattle.model.proofs.Agreement.Passed.{Passed, About}
use Rattle.model.proofs.Agreement.PairsA.{CanMiss, unmet, to_commit, committed}
use Rattle.model.proofs.Agreement.PairsB.{passing, MayPass, past}
use Rattle.model.proofs.Agreement.Licences.{Sighted, Committed, Licensed, Steady, licensed_stays}
use Rattle.model.proofs.Agreement.Invariant.{Kept, keeps, own_at, held_at}
use Rattle.model.proofs.Agreement.Writes.{wrote, Early, wrote_same, wrote_fills, wrote_stays, wrote_early}
use Rattle.model.proofs.Agreement.Writes.{wrote_left, wrote_commits, wrote_over, wrote_stored}

module _ {F : Type 0} (n : ℕ) {f : ℕ → Cell F} (i : ℕ) (v : F) (t : Turn) (c : ℕ) (x : F) (near : i < n)
    (is : (f i).station ≡ active v (writing t c x)) (h : Kept n f) where
  -- the station's registers before, and its cell after the write
  abbrev R : Array → Register F
  R = (f i).register

  abbrev pub new : Cell F
  new = record { station = active v (reading t c x 0 nothing); register = wrote t c x R }

  early_before : Early c R
  early_before = (own_at h is).early

  mine_before : Mine i (active v (writing t c x)) R
  mine_before = (own_at h is).mine

  fills_now : Filled (wrote t c x R in_m)
  fills_now = wrote_fills c x R t (own_at h is).begun

  none_passed : {A : Type 0} (u : Turn) (k j : ℕ) → Passed u k j new.station → A
  none_passed u k j q = let b : j < 0 = q.2 in absurd (omega arith)

  steady : Steady f i new
  steady = record {
    same = wrote_same c x R t early_before;
    proposes = λ y p. subst (λ (s : Station F). Proposes s y) is p;
    fills = wrote_stays c x R t;
    over_adopts = λ j k m. passes j k;
  }
    where
      passes : (j k : ℕ) → MayPass k j new.station → MayPass k j (f i).station
      passes j k (passing q) = none_passed (turn_b commit) k j q
      passes j k (past q) = absurd q

  -- the figure is licensed at its island, or it is the station's proposal and this its first step
  later_or_first : (u : Turn) → Mine i (active v (writing u c x)) R → Later u c ⊎ ((c ≡ 0) × (v ≡ x))
  later_or_first turn_m m = go (ℕ_discrete c 0)
    where
      go : Dec (c ≡ 0) → (0 < c) ⊎ ((c ≡ 0) × (v ≡ x))
      go (yes e) = inr (e, m e)
      go (no e) = inl (omega arith)
  later_or_first turn_a m = inl tt
  later_or_first (turn_b g) m = inl tt

  carried : Licensed n (put i new f) c x
  carried = go (later_or_first t mine_before)
    where
      itself : v ≡ x → Proposes (put i new f i).station x × Filled ((put i new f i).register in_m)
      itself e = subst (λ (D : Cell F). Proposes D.station x × Filled (D.register in_m)) (sym (put_same i new f))
          (e, fills_now)

      go : Later t c ⊎ ((c ≡ 0) × (v ≡ x)) → Licensed n (put i new f) c x
      go (inl l) = licensed_stays steady n c x (held_at h is c x (l, refl, refl))
      go (inr e) = record {
        valid = (i, near, (itself e.1).0, (itself e.1).1);
        out = λ k b. let z : c ≡ 0 = e.0 in absurd (omega arith);
      }

  missed : (j k : ℕ) (y z : F) → j < n → CanMiss k j new → Says (wrote t c x R (in_a k)) y
      → Says ((f j).register (in_a k)) z
      → (CanMiss k j (f i) × Says (R (in_a k)) y) ⊎ (y ≡ z)
  missed j k y z b (unmet q) s r = none_passed turn_a k j q
  missed j k y z b (to_commit q) s r = absurd q
  missed j k y z b (committed m) s r = go (wrote_commits c x R t early_before k y m s)
    where
      go : Says (R (in_a k)) y × (Marked commit (R (in_b k)) ⊎ ((t ≡ turn_b commit) × (c ≡ k)))
          → (CanMiss k j (f i) × Says (R (in_a k)) y) ⊎ (y ≡ z)
      go (s, w) = inl (
        elim w [
          | inl m ↦ committed m
          | inr q ↦ to_commit (subst (λ (s : Station F). About (turn_b commit) k s) (sym is) q)
        ],
        s,
      )

  none_sighted : (u : Turn) (k : ℕ) (y : F) → Sighted (active v (reading u c x 0 nothing)) k y → Committed f k y
  none_sighted turn_m k y w = absurd w
  none_sighted turn_a k y w = absurd w
  none_sighted (turn_b g) k y w = absurd w.1

  pub write_kept : Kept n (put i new f)
  write_kept = keeps n near h (record {
    steady = steady;
    own = record {
      near = λ _. near;
      early = wrote_early c x R t early_before;
      begun = λ _. fills_now;
      mine = (wrote_left c x R t, λ (b : i < 0). absurd (omega arith));
      over = wrote_over c x R i v t early_before mine_before (h.own i).over;
    };
    misses = missed;
    met_none = λ j k m q. none_passed (turn_b adopt) k j q;
    held = λ k y q. absurd q;
    stored = wrote_stored c x R (λ (k : ℕ) (y : F). Licensed n (put i new f) k y) carried
        (λ a k y q. licensed_stays steady n k y (h.stored i a k y q)) t;
    sighted = none_sighted t;
  })
