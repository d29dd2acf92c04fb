-- The cases of a read and of the end of a collect, for any predicate on moves: a user gives one clause for each thing
-- that can happen, and says no more of the turn, the grade or the islands.
-- Relies on the listing, for any type of figures; whatever is shown of every move relies on it.
use Rattle.model.proofs.Kit.{◌≡◌, ℕ, ◌+◌, ◌≤◌, ◌<◌, lt-ltb, le-ltb, ltb-true, ltb-false, ltb}
use Rattle.model.specs.Listing.{Order, Flag, adopt, commit, flag_number, Register, Turn, turn_m, turn_a, turn_b}
use Rattle.model.specs.Listing.{Grade}
use Rattle.model.specs.Listing.{first, second, third, Seen, nothing, seen, writing, reading, has_decided}
use Rattle.model.specs.Listing.{is_spent}
use Rattle.model.specs.Listing.{read, went, marked, adopted, decided, spent, Move, stay, onward, finish, ended}
use Rattle.model.specs.Listing.{see, move}
use Rattle.model.proofs.Basics.Tests.{cond_case}

module _ {F : Type 0} where
  -- the pair that a collect ends with: the best that it has seen or, with nothing seen, the station's own
  unfoldable pub end_island : (c : ℕ) → Seen F → ℕ
  end_island c nothing = c
  end_island c (seen g k y) = k

  unfoldable pub end_figure : (x : F) → Seen F → F
  end_figure x nothing = x
  end_figure x (seen g k y) = y

  -- P of each end of a collect on island c that came to the pair (k, y)
  pub record AtEnd (K : ℕ) (P : Move F → Type 0) (c k : ℕ) (y : F) : Type 0 where
    pub goes : P (stay (writing turn_a k y) (went k y))
    pub marks : (f : Flag) → P (stay (writing (turn_b f) c y) (marked (flag_number f) y))
    pub decides : P (stay (has_decided c y) (decided c y))
    pub adopts : c + 1 < K → P (stay (writing turn_m (c + 1) y) (adopted (c + 1) y))
    pub spends : P (stay (is_spent c y) (spent c y))

  module _ (K : ℕ) (P : Move F → Type 0) (c : ℕ) where
    pub onward_case : (y : F) → (c + 1 < K → P (stay (writing turn_m (c + 1) y) (adopted (c + 1) y)))
        → P (stay (is_spent c y) (spent c y)) → P (onward K c y)
    unfolding onward
    onward_case y f s = cond_case P (ltb (c + 1) K) _ _ (λ l. f (ltb-true (c + 1) K l)) (λ l. s)

    finish_case : (t : Turn) (g : Grade) {k : ℕ} {y : F} → AtEnd K P c k y → P (finish K t c g k y)
    unfolding finish
    finish_case turn_m g e = e.goes
    finish_case turn_a first e = e.marks commit
    finish_case turn_a second e = e.marks adopt
    finish_case turn_a third e = e.marks adopt
    finish_case (turn_b f) first e = onward_case _ e.adopts e.spends
    finish_case (turn_b f) second e = e.decides
    finish_case (turn_b f) third e = onward_case _ e.adopts e.spends

    module _ (t : Turn) (x : F) where
      pub ended_case : (a : Seen F) → AtEnd K P c (end_island c a) (end_figure x a) → P (ended K t c x a)
      unfolding ended end_island end_figure
      ended_case nothing e = finish_case t third e
      ended_case (seen g k y) e = finish_case t g e

      -- a read before the last goes on, and the last one ends the collect
      pub read_case : (o : Order F) (n p : ℕ) (a : Seen F) (r : Register F)
          → (p + 1 < n → P (stay (reading t c x (p + 1) (see o t a r)) read))
          → (n ≤ p + 1 → P (ended K t c x (see o t a r))) → P (move o n K (reading t c x p a) r)
      unfolding move
      read_case o n p a r f g =
          cond_case P (ltb (p + 1) n) _ _ (λ l. f (ltb-true (p + 1) n l)) (λ l. g (ltb-false (p + 1) n l))

  -- the same as two equations
  module _ (o : Order F) (n K : ℕ) (t : Turn) (c : ℕ) (x : F) (p : ℕ) (a : Seen F) (r : Register F) where
    pub read_on : p + 1 < n → move o n K (reading t c x p a) r ≡ stay (reading t c x (p + 1) (see o t a r)) read
    unfolding move
    read_on l = rw (lt-ltb (p + 1) n l)

    pub read_last : n ≤ p + 1 → move o n K (reading t c x p a) r ≡ ended K t c x (see o t a r)
    unfolding move
    read_last l = rw (le-ltb (p + 1) n l)
