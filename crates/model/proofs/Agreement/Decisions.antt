-- The theorems: all decisions are one figure, and that figure was proposed by a station that took a step. Relies on the
-- invariant; every run and the board's theorems rely on it.
use Rattle.model.proofs.Kit.{◌≡◌, refl, sym, subst, inl, inr, ℕ, ◌<◌, arith}
use native.Mathlib.Decide.{dec_lt}
use Rattle.model.specs.Listing.{commit, Stage, has_decided, Station, idle, active, in_m, in_b}
use Rattle.model.proofs.Agreement.State.{State}
use Rattle.model.proofs.Agreement.Cells.{Cell, cells}
use Rattle.model.proofs.Listing.Collect.{Filled}
use Rattle.model.proofs.Agreement.Registers.{Says, Marked, marked_filled}
use Rattle.model.proofs.Agreement.Own.{Proposes, filled_near}
use Rattle.model.proofs.Agreement.PairsA.{committed}
use Rattle.model.proofs.Agreement.PairsB.{MayPass, past}
use Rattle.model.proofs.Agreement.Licences.{Out, Licensed}
use Rattle.model.proofs.Agreement.Invariant.{Kept, own_at, held_at}
use Rattle.model.proofs.Agreement.StateCalls.{Inv}

module _ {F : Type 0} {n : ℕ} {f : ℕ → Cell F} (h : Kept n f) where
  -- two commits on one island are of one figure
  one_commit : (i j k : ℕ) (x y : F) → Marked commit ((f i).register (in_b k)) → Says ((f i).register (in_b k)) x
      → Marked commit ((f j).register (in_b k)) → Says ((f j).register (in_b k)) y → x ≡ y
  one_commit i j k x y m p l q = h.one_figure i j k x y
      (filled_near (h.own i) k (marked_filled commit ((f i).register (in_b k)) m))
      (filled_near (h.own j) k (marked_filled commit ((f j).register (in_b k)) l))
      (committed m) (committed l) ((h.own i).over k x m p) ((h.own j).over k y l q)

  module _ (i : ℕ) (v : F) (c : ℕ) (x : F) (is : (f i).station ≡ active v (has_decided c x)) where
    -- whoever decided has committed
    has_committed : Marked commit ((f i).register (in_b c)) × Says ((f i).register (in_b c)) x
    has_committed = (own_at h is).mine

    licensed : Licensed n f c x
    licensed = held_at h is c x (refl, refl)

    -- a figure that left the island of a decision is the one decided
    out_decided : (y : F) → Out f c y → x ≡ y
    out_decided y (inl w) = one_commit i w.0 c x y has_committed.0 has_committed.1 w.1 w.2
    out_decided y (inr w) = absurd (w.2 i (subst (λ (s : Station F). MayPass c w.0 s) (sym is) (past refl)))

  decided_one : (i j : ℕ) (v w : F) (c d : ℕ) (x y : F) → (f i).station ≡ active v (has_decided c x)
      → (f j).station ≡ active w (has_decided d y) → x ≡ y
  decided_one i j v w c d x y p q = go (dec_lt c d) (dec_lt d c)
    where
      l : Licensed n f c x
      l = licensed i v c x p

      r : Licensed n f d y
      r = licensed j w d y q

      go : Dec (c < d) → Dec (d < c) → x ≡ y
      go (yes b) _ = out_decided i v c x p y (r.out c b)
      go (no _) (yes b) = sym (out_decided j w d y q x (l.out d b))
      go (no a) (no b) = one_commit i j d x y
          (subst (λ (k : ℕ). Marked commit ((f i).register (in_b k))) e (has_committed i v c x p).0)
          (subst (λ (k : ℕ). Says ((f i).register (in_b k)) x) e (has_committed i v c x p).1)
          (has_committed j w d y q).0 (has_committed j w d y q).1
        where
          e : c ≡ d
          e = omega arith

module _ {F : Type 0} where
  proposal : (s : Station F) (x : F) → Proposes s x → (g : Stage F) × (s ≡ active x g)
  proposal idle x e = absurd e
  proposal (active v g) x e = (g, cc)

  module _ {n : ℕ} {st : State F} where
    pub agreement : (i j : ℕ) {v w : F} {c d : ℕ} {x y : F} → Inv n st → st.station i ≡ active v (has_decided c x)
        → st.station j ≡ active w (has_decided d y) → x ≡ y
    unfolding cells
    agreement i j {v} {w} {c} {d} {x} {y} h p q = decided_one h.clauses i j v w c d x y p q

    -- the figure is the proposal of a station that took a step: its register of m is filled
    pub validity : (i : ℕ) {v : F} {c : ℕ} {x : F} → Inv n st → st.station i ≡ active v (has_decided c x)
        → (j : ℕ) × (s : Stage F) × (j < n) × (st.station j ≡ active x s) × Filled (st.register in_m j)
    unfolding cells
    validity i {v} {c} {x} h p =
        let (j, near, e, d) = (licensed h.clauses i v c x p).valid in
        let (s, is) = proposal (st.station j) x e in
        (j, s, near, is, d)
