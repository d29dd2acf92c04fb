-- What the registers hold between two turns of a sequential run: Low, and later perhaps High; and how the writes of a
-- turn keep them. Relies on the registers' predicates and on writes; the turn of one station relies on it.
use Rattle.model.proofs.Kit.{◌≡◌, refl, ◌∙◌, ◌⊎◌, ℕ, ◌≤◌, ◌<◌, arith}
use Rattle.model.specs.Listing.{adopt, commit, empty, filled, in_m, in_a, in_b}
use Rattle.model.proofs.Agreement.State.{put, put_same, put_other, same_array, put_written}
use Rattle.model.proofs.Sequential.Registers.{Registers, All, Figure, Commit, all_map, all_put, two_stations}
use Rattle.model.proofs.Sequential.Registers.{write}

module _ {F : Type 0} where
  -- of a pair in m: it is on island 0; it is on an island up to 1, and there it is v
  abbrev pub OnZero : ℕ → F → Type 0
  OnZero k y = k ≡ 0

  abbrev pub UpToOne : F → ℕ → F → Type 0
  UpToOne v k y = (k ≤ 1) × (k ≡ 1 → y ≡ v)

  -- Nothing is above island 0, and there A and B have only v.
  pub record OnlyLow (n : ℕ) (v : F) (f : Registers F) : Type 0 where
    pub m : All n (λ e. OnZero) (f in_m)
    pub a : All n (Figure v) (f (in_a 0))
    pub b : All n (Commit v) (f (in_b 0))
    pub empty_a : All n (λ e k y. ⊥) (f (in_a 1))
    pub empty_b : All n (λ e k y. ⊥) (f (in_b 1))

  -- So it is, and some station has v in A and the commit of v in B.
  pub record Low (n : ℕ) (v : F) (f : Registers F) : Type 0 where
    pub only : OnlyLow n v f
    pub who : ℕ
    pub below : who < n
    pub in_a0 : f (in_a 0) who ≡ filled adopt 0 v
    pub in_b0 : f (in_b 0) who ≡ filled commit 0 v

  -- m has islands up to 1, and on 1 only v; A and B of island 1 have only v; some station has v on island 1 in m.
  pub record High (n : ℕ) (v : F) (f : Registers F) : Type 0 where
    pub m : All n (λ e. UpToOne v) (f in_m)
    pub a : All n (Figure v) (f (in_a 1))
    pub b : All n (Commit v) (f (in_b 1))
    pub who : ℕ
    pub below : who < n
    pub in_m1 : f in_m who ≡ filled adopt 1 v

  abbrev pub Between : ℕ → F → Registers F → Type 0
  Between n v f = Low n v f ⊎ High n v f

  module _ (n : ℕ) (v : F) (i : ℕ) (f : Registers F) where
    -- station i writes its proposal w to m
    pub only_low_m : (w : F) → OnlyLow n v f → OnlyLow n v (write in_m i (filled adopt 0 w) f)
    unfolding put_written same_array put
    only_low_m w h = record {
      m = all_put n (λ e. OnZero) i adopt 0 w (f in_m) refl h.m;
      a = h.a;
      b = h.b;
      empty_a = h.empty_a;
      empty_b = h.empty_b;
    }

    pub low_m : (w : F) → Low n v f → Low n v (write in_m i (filled adopt 0 w) f)
    unfolding put_written same_array
    low_m w h = record {
      only = only_low_m w h.only;
      who = h.who;
      below = h.below;
      in_a0 = h.in_a0;
      in_b0 = h.in_b0;
    }

    pub high_m : (w : F) → f in_m i ≡ empty → High n v f → High n v (write in_m i (filled adopt 0 w) f)
    unfolding put_written same_array put
    high_m w e h = record {
      m = all_put n (λ e. UpToOne v) i adopt 0 w (f in_m) (omega arith, λ z. absurd (omega arith)) h.m;
      a = h.a;
      b = h.b;
      who = h.who;
      below = h.below;
      in_m1 =
          put_other i (filled adopt 0 w) (f in_m) h.who (two_stations (f in_m) i h.who adopt 1 v e h.in_m1)
          ∙ h.in_m1;
    }

    -- it decided v on island 0
    pub low_after : i < n → OnlyLow n v f
        → Low n v (write (in_b 0) i (filled commit 0 v) (write (in_a 0) i (filled adopt 0 v) f))
    unfolding put_written same_array put
    low_after l h = record {
      only = record {
        m = h.m;
        a = all_put n (Figure v) i adopt 0 v (f (in_a 0)) refl h.a;
        b = all_put n (Commit v) i commit 0 v (f (in_b 0)) (refl, refl) h.b;
        empty_a = h.empty_a;
        empty_b = h.empty_b;
      };
      who = i;
      below = l;
      in_a0 = put_same i (filled adopt 0 v) (f (in_a 0));
      in_b0 = put_same i (filled commit 0 v) (f (in_b 0));
    }

    -- it met another figure than its own y on island 0, and goes to island 1 with v
    pub high_first : i < n → (y z : F) → OnlyLow n v f
        → High n v
        (write in_m i (filled adopt 1 v) (write (in_b 0) i (filled adopt 0 z) (write (in_a 0) i (filled adopt 0 y) f)))
    unfolding put_written same_array put
    high_first l y z h =
        let lower : All n (λ e. UpToOne v) (f in_m) =
        all_map n (λ e. OnZero) (λ e. UpToOne v) (λ e k x s. (omega arith, λ u. absurd (omega arith))) (f in_m) h.m in
        record {
          m = all_put n (λ e. UpToOne v) i adopt 1 v (f in_m) (omega arith, λ s. refl) lower;
          a = all_map n (λ e k x. ⊥) (Figure v) (λ e k x s. absurd s) (f (in_a 1)) h.empty_a;
          b = all_map n (λ e k x. ⊥) (Commit v) (λ e k x s. absurd s) (f (in_b 1)) h.empty_b;
          who = i;
          below = l;
          in_m1 = put_same i (filled adopt 1 v) (f in_m);
        }

    -- it decided v on island 1
    pub high_after : High n v f
        → High n v (write (in_b 1) i (filled commit 0 v) (write (in_a 1) i (filled adopt 0 v) f))
    unfolding put_written same_array put
    high_after h = record {
      m = h.m;
      a = all_put n (Figure v) i adopt 0 v (f (in_a 1)) refl h.a;
      b = all_put n (Commit v) i commit 0 v (f (in_b 1)) (refl, refl) h.b;
      who = h.who;
      below = h.below;
      in_m1 = h.in_m1;
    }
