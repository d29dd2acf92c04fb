-- A read meets one register at most, so that what a collect has met stays within its position; its end keeps nothing.
-- Relies on the cases of a read; soundness after a step and the totals of a collect rely on it.
use Rattle.model.proofs.Kit.{ℕ, ◌+◌, ◌≤◌, arith}
use Rattle.model.specs.Figure.{Figure, figures}
use Rattle.model.specs.Listing.{Register, empty, filled, Turn, Seen, reading, active, Move, stay, move}
use Rattle.model.specs.Filled.{filled_in, met_kept_at}
use Rattle.model.specs.Sound.{most_met}
use Rattle.model.proofs.Listing.Cases.{ended_case, read_case}

pub one_filled : (r : Register Figure) → filled_in r ≤ 1
unfolding filled_in
one_filled empty = omega arith
one_filled (filled f k x) = omega arith

pub met_room : (n K : ℕ) (v : Figure) (t : Turn) (c : ℕ) (x : Figure) (p : ℕ) (a : Seen Figure) (r : Register Figure)
    (k : ℕ) → k ≤ p
    → let s = (move figures n K (reading t c x p a) r).stage in met_kept_at s (k + filled_in r) ≤ most_met (active v s)
unfolding met_kept_at most_met stay
met_room n K v t c x p a r k low =
    let Room : Move Figure → Type 0 = λ m. met_kept_at m.stage (k + filled_in r) ≤ most_met (active v m.stage) in
    read_case K Room c t x figures n p a r (λ l. omega (arith, one_filled r))
    (λ l. ended_case K Room c t x _ (record {
      goes = omega arith;
      marks = λ f. omega arith;
      decides = omega arith;
      adopts = λ h. omega arith;
      spends = omega arith;
    }))
