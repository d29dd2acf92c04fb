-- What the collects of a station alone end with: in m the best pair that was passed; in A one figure or different ones;
-- in B commits of one figure only, or a commit beside an adopt.
-- Relies on what any collect shows; the passes rely on it.
use Rattle.model.proofs.Kit.{◌≡◌, refl, sym, ap, subst₂, true, ℕ, ◌≤◌, ◌<◌, arith}
use Rattle.model.specs.Listing.{Order, Flag, adopt, commit, Register, empty, filled, turn_m, turn_a, turn_b, Grade}
use Rattle.model.specs.Listing.{first, second, third, Seen, nothing, seen, in_m, array}
use Rattle.model.proofs.Agreement.Registers.{Says, Marked, Best, Met, Brought, Clean, Holds, adopt≢commit}
use Rattle.model.proofs.Agreement.Registers.{Figure as Stands}
use Rattle.model.proofs.Sequential.Registers.{All, Figure, Commit, IfCommit}
use Rattle.model.proofs.Sequential.Collected.{collected, best_from, met_from, all_clean, shown, spoilt}

-- different figures were met
unfoldable pub Different : Grade → Type 0
Different first = ⊥
Different second = Unit
Different third = Unit

module _ {F : Type 0} where
  -- what was seen, taken apart
  pub record Found (Q : Grade → ℕ → F → Type 0) (a : Seen F) : Type 0 where
    pub grade : Grade
    pub island : ℕ
    pub figure : F
    pub what : a ≡ seen grade island figure
    pub fact : Q grade island figure

  found : (Q : Grade → ℕ → F → Type 0) (g : Grade) (k : ℕ) (y : F) → Q g k y → Found Q (seen g k y)
  found Q g k y q = record { grade = g; island = k; figure = y; what = refl; fact = q }

  stands : (Q : ℕ → F → Type 0) (z : Register F) (k : ℕ) (y : F) → Holds (λ f. Q) z → Stands in_m z k y → Q k y
  stands Q empty k y q h = absurd h
  stands Q (filled f j x) k y q h = subst₂ Q h.0 h.1 q

  commits : (v : F) (z : Register F) (y : F) → Holds (IfCommit v) z → Marked commit z → Says z y → y ≡ v
  commits v empty y q m s = absurd m
  commits v (filled f k x) y q m s = cc (q m)

module _ {F : Type 0} (o : Order F) (sameIs : (x y : F) → o.same x y ≡ true → x ≡ y) (r : ℕ → Register F) (n : ℕ) where
  pub best : (Q : ℕ → F → Type 0) → All n (λ f. Q) r
      → (j : ℕ) → j < n → (f : Flag) (k : ℕ) (y : F) → r j ≡ filled f k y
      → Found (λ g l z. (k ≤ l) × Q l z) (collected o turn_m r n)
  unfolding array
  best Q all j below f k y at =
      by (collected o turn_m r n) (shown o turn_m r n sameIs j below k y (rw at (omega arith)))
      (λ l z h. (let w = best_from o turn_m r n 0 l z h in stands Q (r w.0) l z (all w.0 w.1) w.2))
    where
      by : (a : Seen F) → Brought turn_m k y a → ((l : ℕ) (z : F) → Best in_m a l z → Q l z)
          → Found (λ g l z. (k ≤ l) × Q l z) a
      by nothing h q = absurd h
      by (seen g l z) h q = found _ g l z (h, q l z (refl, refl))

  -- Station i has x and station j another figure y.
  pub two_figures : (x y : F) → (x ≡ y → ⊥)
      → (i : ℕ) → i < n → (e : Flag) (l : ℕ) → r i ≡ filled e l x
      → (j : ℕ) → j < n → (f : Flag) (k : ℕ) → r j ≡ filled f k y
      → Found (λ g k z. Different g) (collected o turn_a r n)
  unfolding Different
  two_figures x y ne i b e l is j d f k at =
      by (collected o turn_a r n) (shown o turn_a r n sameIs i b 0 x (rw is refl))
      (spoilt o turn_a r n sameIs j d 0 x (rw at (λ q. ne (sym q))))
    where
      by : (a : Seen F) → Brought turn_a 0 x a → (Clean turn_a x a → ⊥) → Found (λ g k z. Different g) a
      by nothing h ne = absurd h
      by (seen first k z) h ne = absurd (ne h)
      by (seen second k z) h ne = found _ second k z tt
      by (seen third k z) h ne = found _ third k z tt

  -- Station i has an adopt and station j a commit, where commits are of v only.
  pub beside_adopt_lem : (v : F) → All n (IfCommit v) r
      → (i : ℕ) → i < n → (k : ℕ) (x : F) → r i ≡ filled adopt k x
      → (j : ℕ) → j < n → (l : ℕ) (y : F) → r j ≡ filled commit l y
      → (k : ℕ) × (collected o (turn_b adopt) r n ≡ seen third k v)
  beside_adopt_lem v all i b k x is j d l y at =
      by (collected o (turn_b adopt) r n) (shown o (turn_b adopt) r n sameIs i b 0 x (rw is (refl, refl)))
      (spoilt o (turn_b adopt) r n sameIs j d 0 x (rw at (λ q. adopt≢commit (sym q))))
      (λ z h. (let w = met_from o adopt r n z h in commits v (r w.0) z (all w.0 w.1) w.2.0 w.2.1))
    where
      by : (a : Seen F) → Brought (turn_b adopt) 0 x a → (Clean (turn_b adopt) x a → ⊥) → ((z : F) → Met a z → z ≡ v)
          → (k : ℕ) × (a ≡ seen third k v)
      by nothing h ne m = absurd h
      by (seen first k z) h ne m = absurd (ne tt)
      by (seen second k z) h ne m = absurd h
      by (seen third k z) h ne m = (k, ap (λ (w : F). seen third k w) (m z refl))

  module _ (sameRefl : (x : F) → o.same x x ≡ true) (v : F) (j : ℕ) (below : j < n) where
    pub one_figure : All n (Figure v) r → Says (r j) v → (k : ℕ) × (collected o turn_a r n ≡ seen first k v)
    one_figure all own =
        by (collected o turn_a r n) (shown o turn_a r n sameIs j below 0 v own) (all_clean o turn_a r n sameRefl v all)
      where
        by : (a : Seen F) → Brought turn_a 0 v a → Clean turn_a v a → (k : ℕ) × (a ≡ seen first k v)
        by nothing h q = absurd h
        by (seen first k y) h q = (k, ap (λ (z : F). seen first k z) h)
        by (seen second k y) h q = absurd q
        by (seen third k y) h q = absurd q

    pub only_commits : All n (Commit v) r → Marked commit (r j) × Says (r j) v
        → (k : ℕ) × (collected o (turn_b commit) r n ≡ seen second k v)
    only_commits all own =
        by (collected o (turn_b commit) r n) (shown o (turn_b commit) r n sameIs j below 0 v own)
        (all_clean o (turn_b commit) r n sameRefl v all)
      where
        by : (a : Seen F) → Brought (turn_b commit) 0 v a → Clean (turn_b commit) v a
            → (k : ℕ) × (a ≡ seen second k v)
        by nothing h q = absurd h
        by (seen first k y) h q = absurd h
        by (seen second k y) h q = (k, ap (λ (z : F). seen second k z) h)
        by (seen third k y) h q = absurd q
