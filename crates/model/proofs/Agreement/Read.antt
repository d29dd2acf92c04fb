-- A read keeps the invariant: the station looks at the register of position p and goes on to p + 1, which may be the
-- end. Relies on the facts about one read and on moves that write nothing; the calls rely on it.
use Rattle.model.proofs.Kit.{◌≡◌, sym, subst, ◌∙◌, subst₂, true, inl, inr, ◌⊎◌, ℕ, ◌+◌, ◌<◌, ℕ_discrete, arith}
use mathlib.Core.Path.{subst₃}
use Rattle.model.specs.Listing.{Order, adopt, commit, Register, Turn, turn_m, turn_a, turn_b, Seen, reading, Station}
use Rattle.model.specs.Listing.{active, in_a, in_b, array, see}
use Rattle.model.proofs.Agreement.State.{put}
use Rattle.model.proofs.Agreement.Cells.{Cell, standing}
use Rattle.model.proofs.Agreement.Registers.{Says, Marked, Figure, Best, Met, Left, Brought, Clean, Harmless}
use Rattle.model.proofs.Agreement.Registers.{harmless_says, harmless_marked, says_one, adopt≢commit}
use Rattle.model.proofs.Agreement.Reads.{located, met, kept, brought, clean}
use Rattle.model.proofs.Agreement.Own.{Mine}
use Rattle.model.proofs.Agreement.Inductive.{looked}
use Rattle.model.proofs.Agreement.Passed.{Passed}
use Rattle.model.proofs.Agreement.PairsB.{MayPass, passing, past}
use Rattle.model.proofs.Agreement.Licences.{Sighted, Committed, Licensed}
use Rattle.model.proofs.Agreement.Invariant.{Kept, own_at, held_at, sighted_at}
use Rattle.model.proofs.Agreement.Restage.{Restaged, restages}

module _ {F : Type 0} (o : Order F) (sameIs : (x y : F) → o.same x y ≡ true → x ≡ y) where
  module _ (n : ℕ) {f : ℕ → Cell F} (i : ℕ) (v : F) (t : Turn) (c : ℕ) (x : F) (p : ℕ) (a : Seen F)
      (is : (f i).station ≡ active v (reading t c x p a)) (h : Kept n f) where
    -- the record before, and the register that is read
    abbrev before : Station F
    before = active v (reading t c x p a)

    abbrev there : Register F
    there = (f p).register (array t c)

    mine_before : Mine i before (f i).register
    mine_before = (own_at h is).mine

    -- the own register is the one just read, or was read before
    pub shows : i < p + 1 → Brought t c x (see o t a there)
    shows b = go (ℕ_discrete i p)
      where
        go : Dec (i ≡ p) → Brought t c x (see o t a there)
        go (yes e) = brought o sameIs t c x a there
            (subst (λ (j : ℕ). Left t c x ((f j).register (array t c))) e mine_before.0)
        go (no e) = kept o sameIs t c x a there (mine_before.1 (omega arith))

    -- Whom the collect has passed clean after the read it had passed so before, but for the one just read, whose
    -- register is then harmless.
    passed_before : (u : Turn) (k j : ℕ) → Passed u k j (looked o v t c x p a there)
        → Passed u k j before ⊎ Harmless u x ((f j).register (array u k))
    passed_before u k j q = go (ℕ_discrete p j)
      where
        was : Clean t x a × Harmless t x there
        was = clean o sameIs t x a there q.3

        go : Dec (p ≡ j) → Passed u k j before ⊎ Harmless u x ((f j).register (array u k))
        go (yes e) = inr (subst₃ (λ (w : Turn) (d l : ℕ). Harmless w x ((f l).register (array w d))) q.0 q.1 e
            was.1)
        go (no e) = let b : j < p + 1 = q.2 in inl (q.0, q.1, omega arith, was.0)

    over_adopts : (j k : ℕ) → Marked adopt ((f j).register (in_b k)) → MayPass k j (looked o v t c x p a there)
        → MayPass k j before
    unfolding array
    over_adopts j k m (passing q) = go (passed_before (turn_b commit) k j q)
      where
        go : Passed (turn_b commit) k j before ⊎ Harmless (turn_b commit) x ((f j).register (in_b k)) → MayPass k j before
        go (inl w) = passing w
        go (inr w) = absurd (adopt≢commit (harmless_marked commit adopt x ((f j).register (in_b k)) w m))
    over_adopts j k m (past q) = absurd q

    met_none : (j k : ℕ) → Marked commit ((f j).register (in_b k)) → Passed (turn_b adopt) k j (looked o v t c x p a there)
        → Passed (turn_b adopt) k j before
    unfolding array
    met_none j k m q = go (passed_before (turn_b adopt) k j q)
      where
        go : Passed (turn_b adopt) k j before ⊎ Harmless (turn_b adopt) x ((f j).register (in_b k))
            → Passed (turn_b adopt) k j before
        go (inl w) = w
        go (inr w) = absurd (adopt≢commit (sym (harmless_marked adopt commit x ((f j).register (in_b k)) w m)))

    misses : (j k : ℕ) (y z : F) → Passed turn_a k j (looked o v t c x p a there)
        → Says ((f i).register (in_a k)) y → Says ((f j).register (in_a k)) z → Passed turn_a k j before ⊎ (y ≡ z)
    unfolding array
    misses j k y z q l r = go (passed_before turn_a k j q)
      where
        mine : Says ((f i).register (in_a k)) x
        mine = subst₂ (λ (w : Turn) (d : ℕ). Left w d x ((f i).register (array w d))) q.0 q.1 mine_before.0

        go : Passed turn_a k j before ⊎ Harmless turn_a x ((f j).register (in_a k)) → Passed turn_a k j before ⊎ (y ≡ z)
        go (inl w) = inl w
        go (inr w) =
            inr (says_one ((f i).register (in_a k)) y x l mine ∙ sym (harmless_says x z ((f j).register (in_a k)) w r))

    held : (k : ℕ) (y : F) → Best (array t c) (see o t a there) k y → Licensed n f k y
    held k y b = go (located o t c a there k y b)
      where
        go : Best (array t c) a k y ⊎ Figure (array t c) there k y → Licensed n f k y
        go (inl w) = held_at h is k y w
        go (inr w) = h.stored p (array t c) k y w

    restaged : ((k : ℕ) (y : F) → Sighted (looked o v t c x p a there) k y → Committed f k y)
        → Restaged n f i before (looked o v t c x p a there)
    restaged sighted = record {
      reaches = omega arith;
      begins = λ b. tt;
      mine = (mine_before.0, shows);
      proposes = λ y q. q;
      over_adopts = over_adopts;
      misses = misses;
      to_commit = λ j k b q. absurd q;
      met_none = met_none;
      held = held;
      sighted = sighted;
    }

  module _ (n : ℕ) {f : ℕ → Cell F} (i : ℕ) (v : F) where
    sighted : (t : Turn) (c : ℕ) (x : F) (p : ℕ) (a : Seen F) → (f i).station ≡ active v (reading t c x p a) → Kept n f
        → (k : ℕ) (y : F) → Sighted (looked o v t c x p a ((f p).register (array t c))) k y → Committed f k y
    unfolding array
    sighted turn_m c x p a is h k y w = absurd w
    sighted turn_a c x p a is h k y w = absurd w
    sighted (turn_b e) c x p a is h k y w = go (met o e a ((f p).register (in_b c)) y w.1)
      where
        go : Met a y ⊎ (Marked commit ((f p).register (in_b c)) × Says ((f p).register (in_b c)) y) → Committed f k y
        go (inl m) = sighted_at h is k y (w.0, m)
        go (inr m) = subst (λ (d : ℕ). Committed f d y) w.0 (p, m.0, m.1)

    pub read_kept : (t : Turn) (c : ℕ) (x : F) (p : ℕ) (a : Seen F) → i < n
        → (f i).station ≡ active v (reading t c x p a) → Kept n f
        → Kept n (put i (standing (looked o v t c x p a ((f p).register (array t c))) (f i)) f)
    read_kept t c x p a near is h = restages n near is h (restaged n i v t c x p a is h (sighted t c x p a is h))
