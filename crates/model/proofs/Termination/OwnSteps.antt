-- Where every proposal is of one figure v, the steps of a station's present pass are all that it has taken: each move
-- is one more, none but the last ends it, and the last, the one of number 3(n + 1), decides v on island 0.
-- Relies on the invariant of one figure and on soundness's steps of a pass; lists of calls rely on it.
use Rattle.model.proofs.Kit.{◌≡◌, refl, inl, inr, ◌⊎◌, ℕ, ◌+◌, ◌*◌, ◌≤◌, ◌<◌, arith}
use Rattle.model.specs.Figure.{Figure, figures}
use Rattle.model.specs.Listing.{Turn, turn_m, turn_a, turn_b, Seen, Stage, writing, reading, has_decided, is_spent}
use Rattle.model.specs.Listing.{active, decided, goes_on, outcome, Move, array, place_array, place_column, stay}
use Rattle.model.specs.Listing.{move}
use Rattle.model.specs.Sound.{turns_before, present_pass, island_of, most_steps}
use Rattle.model.proofs.Basics.Numbers.{same_law, self_law}
use Rattle.model.proofs.Board.Good.{GoodStage}
use Rattle.model.proofs.Listing.Cases.{read_case}
use Rattle.model.proofs.Listing.Going.{Going}
use Rattle.model.proofs.Agreement.State.{State, put_same, move_of, moving}
use Rattle.model.proofs.Agreement.Cells.{Cell, cells}
use Rattle.model.proofs.Agreement.Inductive.{move_keeps}
use Rattle.model.proofs.Termination.OneFigure.{AlikeStage, AllAlike, next, alike_at, alike_inductive, last_alike}

-- all stations and registers are alike in v
abbrev pub OnlyFigure : (v : Figure) (n K : ℕ) → (ℕ → Cell Figure) → Type 0
OnlyFigure v n K = AllAlike v figures self_law same_law n K

turns_few : (n : ℕ) (t : Turn) → turns_before t * (n + 1) ≤ 2 * (n + 1)
unfolding turns_before
turns_few n turn_m = omega arith
turns_few n turn_a = omega arith
turns_few n (turn_b f) = omega arith

module _ (n : ℕ) (v : Figure) where
  -- on island 0 no pass lies behind the present one
  pub only_pass : (w : Figure) (s : Stage Figure) → AlikeStage v s → most_steps n (active w s) ≡ present_pass n s
  unfolding most_steps island_of
  only_pass w (writing t c x) h = rw h.1 (omega arith)
  only_pass w (reading t c x p a) h = rw h.1 (omega arith)
  only_pass w (has_decided c x) h = rw h.0 (omega arith)
  only_pass w (is_spent c x) h = absurd h

  -- a station goes on before the last step of its pass, and stands decided after it
  pub goes_or_decided : (K : ℕ) (s : Stage Figure) → GoodStage n K s → AlikeStage v s
      → (Going s × (present_pass n s < 3 * (n + 1))) ⊎ (s ≡ has_decided 0 v)
  unfolding GoodStage present_pass
  goes_or_decided K (writing t c x) g h = inl (tt, omega (arith, turns_few n t))
  goes_or_decided K (reading t c x p a) g h = inl (tt, omega (arith, turns_few n t, g.1))
  goes_or_decided K (has_decided c x) g h = inr (rw (h.0, h.1))
  goes_or_decided K (is_spent c x) g h = absurd h

  -- what the move m from stage s is by the steps of the pass
  pub record Advances (s : Stage Figure) (m : Move Figure) : Type 0 where
    pub adds : present_pass n m.stage ≡ present_pass n s + 1
    pub earlier : present_pass n s + 1 < 3 * (n + 1) → outcome m.answer ≡ goes_on
    pub exactly : present_pass n s + 1 ≡ 3 * (n + 1) → m.answer ≡ decided 0 v

  next_advances : (t : Turn) (c : ℕ) (x : Figure) (p : ℕ) (a : Seen Figure) → p + 1 ≡ n
      → Advances (reading t c x p a) (next v t)
  unfolding present_pass turns_before stay outcome
  next_advances turn_m c x p a e = record {
    adds = omega arith;
    earlier = λ l. refl;
    exactly = λ l. absurd (omega arith);
  }
  next_advances turn_a c x p a e = record {
    adds = omega arith;
    earlier = λ l. refl;
    exactly = λ l. absurd (omega arith);
  }
  next_advances (turn_b f) c x p a e = record {
    adds = omega arith;
    earlier = λ l. absurd (omega arith);
    exactly = λ l. refl;
  }

  pub advances : (K : ℕ) (st : State Figure) (i : ℕ) (w : Figure) (s : Stage Figure) → i < n
      → st.station i ≡ active w s → Going s → GoodStage n K s → OnlyFigure v n K (cells st)
      → Advances s (move_of figures n K i s st)
  unfolding move_of place_array place_column GoodStage present_pass cells outcome
  advances K st i w (writing t c x) near is h g o =
      unfold move in record {
        adds = omega arith;
        earlier = λ l. refl;
        exactly = λ l. absurd (omega (arith, turns_few n t));
      }
  advances K st i w (reading t c x p a) near is h g o =
      let inside : p < n = g.1 in
      read_case K (Advances (reading t c x p a)) c t x figures n p a (st.register (array t c) p)
      (λ l. unfold stay in record {
        adds = omega arith;
        earlier = λ q. refl;
        exactly = λ q. absurd (omega (arith, turns_few n t));
      })
      (λ l. rw (last_alike v figures self_law same_law n K i w t c x p a near is l o)
      (next_advances t c x p a (omega arith)))
  advances K st i w (has_decided c x) near is h g o = absurd h
  advances K st i w (is_spent c x) near is h g o = absurd h

  -- and so by all the steps that the station can have taken
  pub move_adds : (K : ℕ) (st : State Figure) (i : ℕ) (w : Figure) (s : Stage Figure) → i < n
      → st.station i ≡ active w s → Going s → GoodStage n K s → OnlyFigure v n K (cells st)
      → most_steps n (active w (move_of figures n K i s st).stage) ≡ most_steps n (active w s) + 1
  unfolding moving cells
  move_adds K st i w s near is h g o =
      let then = move_keeps (alike_inductive v figures self_law same_law n K) st i near is h o in
      let there = alike_at v figures self_law same_law n K i then (put_same i _ _) in
      let here = alike_at v figures self_law same_law n K i o is in
      omega (
        arith,
        only_pass w (move_of figures n K i s st).stage there,
        (advances K st i w s near is h g o).adds,
        only_pass w s here,
      )
