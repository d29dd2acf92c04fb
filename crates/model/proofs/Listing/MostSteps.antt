-- The most steps that a station's count may say: every move leaves room for one more, and on K islands they are at most
-- 3(n + 1)K. Relies on soundness's bound and the listing's move; that calls keep a board sound and that the count fits
-- its bytes rely on it.
use Rattle.model.proofs.Kit.{ℕ, ◌+◌, ◌*◌, ◌≤◌, ◌<◌, T, mul-le-mul, arith}
use Rattle.model.specs.Figure.{Figure, figures}
use Rattle.model.specs.Listing.{Turn, turn_m, turn_a, turn_b, first, second, third, Register, Seen, nothing, seen}
use Rattle.model.specs.Listing.{Stage, writing, reading, has_decided, is_spent, Station, idle, active, Move, stay}
use Rattle.model.specs.Listing.{finish, ended, see, move}
use Rattle.model.specs.Sound.{own_seen, turns_before, present_pass, island_of, most_steps}
use Rattle.model.proofs.Board.Good.{GoodStage, GoodStation}
use Rattle.model.proofs.Listing.Cases.{onward_case, read_case}
use Rattle.model.proofs.Listing.Order.{strict, pair_island}

times : (m c k : ℕ) → c ≤ k → m * c ≤ m * k
times m c k h = mul-le-mul {n₁ = m} {n₂ = m} (omega arith) h

module _ (n K : ℕ) (v : Figure) where
  -- a station that was at stage s has room for one more step at the stage of the move m
  abbrev Room : Stage Figure → Move Figure → Type 0
  Room s m = most_steps n (active v s) + 1 ≤ most_steps n (active v m.stage)

  -- the last read of a collect completes its turn, and the island is no lower than it was
  end_room : (t : Turn) (c : ℕ) (x : Figure) (p : ℕ) (b a : Seen Figure) → p < n → T (own_seen t c x a)
      → Room (reading t c x p b) (ended K t c x a)
  unfolding most_steps present_pass turns_before island_of ended finish stay own_seen
  end_room t c x p b nothing l h = absurd h
  end_room turn_m c x p b (seen g k y) l h =
      let higher = pair_island figures strict c x k y h in omega (arith, times (3 * (n + 1)) c k higher)
  end_room turn_a c x p b (seen first k y) l h = omega arith
  end_room turn_a c x p b (seen second k y) l h = omega arith
  end_room turn_a c x p b (seen third k y) l h = omega arith
  end_room (turn_b f) c x p b (seen first k y) l h =
      onward_case K (Room (reading (turn_b f) c x p b)) c y (λ q. omega arith) (omega arith)
  end_room (turn_b f) c x p b (seen second k y) l h = omega arith
  end_room (turn_b f) c x p b (seen third k y) l h =
      onward_case K (Room (reading (turn_b f) c x p b)) c y (λ q. omega arith) (omega arith)

  pub write_room : (t : Turn) (c : ℕ) (x : Figure) → most_steps n (active v (writing t c x)) + 1
      ≤ most_steps n (active v (reading t c x 0 nothing))
  unfolding most_steps present_pass island_of
  write_room t c x = omega arith

  pub read_room : (t : Turn) (c : ℕ) (x : Figure) (p : ℕ) (a : Seen Figure) (r : Register Figure) → p < n
      → (n ≤ p + 1 → T (own_seen t c x (see figures t a r)))
      → Room (reading t c x p a) (move figures n K (reading t c x p a) r)
  unfolding most_steps present_pass island_of stay
  read_room t c x p a r l h =
      read_case K (Room (reading t c x p a)) c t x figures n p a r (λ q. omega arith)
      (λ q. end_room t c x p a _ l (h q))

-- a pass is three turns, on one of K islands
pass_whole : (n K : ℕ) (s : Stage Figure) → GoodStage n K s → (present_pass n s ≤ 3 * (n + 1)) × (island_of s < K)
unfolding GoodStage present_pass turns_before island_of
pass_whole n K (writing turn_m c x) g = (omega arith, g)
pass_whole n K (writing turn_a c x) g = (omega arith, g)
pass_whole n K (writing (turn_b f) c x) g = (omega arith, g)
pass_whole n K (reading turn_m c x p a) g = (omega (arith, g.1), g.0)
pass_whole n K (reading turn_a c x p a) g = (omega (arith, g.1), g.0)
pass_whole n K (reading (turn_b f) c x p a) g = (omega (arith, g.1), g.0)
pass_whole n K (has_decided c x) g = (omega arith, g)
pass_whole n K (is_spent c x) g = (omega arith, g)

pub most_steps_lem : (n K : ℕ) (s : Station Figure) → GoodStation n K s → most_steps n s ≤ 3 * (n + 1) * K
unfolding GoodStation most_steps
most_steps_lem n K idle g = omega arith
most_steps_lem n K (active v s) g =
    let w = pass_whole n K s g in omega (arith, w.0, times (3 * (n + 1)) (island_of s + 1) K (omega (arith, w.1)))
