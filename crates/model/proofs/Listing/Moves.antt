-- One move of the listing keeps a station good: its fields in range, its figures of 32 bits, and its own value seen
-- once its own position is passed.
-- Relies on OneRead; that an accepted step keeps a board sound relies on it.
use Rattle.model.proofs.Kit.{ℕ, ◌+◌, ◌≤◌, ◌<◌, arith}
use Rattle.model.specs.Figure.{Figure, figures}
use Rattle.model.specs.Listing.{Turn, turn_m, turn_a, turn_b, first, second, third, Register, Seen, nothing, seen}
use Rattle.model.specs.Listing.{Stage, writing, reading, has_decided, is_spent, Move, stay, see, move}
use Rattle.model.proofs.Board.Codec.{Fits, FitsRegister, FitsSeen, FitsStage}
use Rattle.model.proofs.Board.Good.{GoodSeen, GoodStage}
use Rattle.model.proofs.Listing.Collect.{Something}
use Rattle.model.proofs.Listing.Cases.{end_island, end_figure, ended_case, read_case}
use Rattle.model.proofs.Listing.OneRead.{GoodRead, see_good, see_fits}

-- what a move of stage s over register r asks of it to keep the station good
unfoldable pub Readable : (n K : ℕ) → Stage Figure → Register Figure → Type 0
Readable n K (writing t c x) r = Unit {0}
Readable n K (reading t c x p a) r = GoodRead K t r × FitsRegister r × (n ≤ p + 1 → Something (see figures t a r))
Readable n K (has_decided c x) r = Unit {0}
Readable n K (is_spent c x) r = Unit {0}

-- what is good and fits so of the pair that a collect ends with
end_good : (K : ℕ) (t : Turn) (c : ℕ) (a : Seen Figure) → c < K → GoodSeen K t a → end_island c a < K
unfolding end_island GoodSeen
end_good K t c nothing h l = h
end_good K turn_m c (seen first k y) h l = l
end_good K turn_m c (seen second k y) h l = absurd l
end_good K turn_m c (seen third k y) h l = absurd l
end_good K turn_a c (seen first k y) h l = omega arith
end_good K turn_a c (seen second k y) h l = omega arith
end_good K turn_a c (seen third k y) h l = absurd l
end_good K (turn_b f) c (seen g k y) h l = omega arith

end_fits : (x : Figure) (a : Seen Figure) → Fits x → FitsSeen a → Fits (end_figure x a)
unfolding end_figure FitsSeen
end_fits x nothing h l = h
end_fits x (seen g k y) h l = l

module _ (n K : ℕ) where
  abbrev GoodMove : Move Figure → Type 0
  GoodMove m = GoodStage n K m.stage

  abbrev FitsMove : Move Figure → Type 0
  FitsMove m = FitsStage m.stage

  pub move_good : 0 < n → (s : Stage Figure) (r : Register Figure) → GoodStage n K s → Readable n K s r
      → GoodStage n K (move figures n K s r).stage
  unfolding move stay GoodStage GoodSeen Readable
  move_good hn (writing t c x) r h q = (h, hn, tt)
  move_good hn (reading t c x p a) r h q =
      let then : GoodSeen K t (see figures t a r) = see_good K t a r h.2 q.0 in
      let island : end_island c (see figures t a r) < K = end_good K t c _ h.0 then in
      read_case K GoodMove c t x figures n p a r (λ l. (h.0, l, then)) (λ l. ended_case K GoodMove c t x _ (search))
  move_good hn (has_decided c x) r h q = h
  move_good hn (is_spent c x) r h q = h

  pub move_fits : (s : Stage Figure) (r : Register Figure) → FitsStage s → Readable n K s r
      → FitsStage (move figures n K s r).stage
  unfolding move stay FitsStage FitsSeen Readable
  move_fits (writing t c x) r h q = (h, tt)
  move_fits (reading t c x p a) r h q =
      let then : FitsSeen (see figures t a r) = see_fits t a r h.1 q.1 in
      let figure : Fits (end_figure x (see figures t a r)) = end_fits x _ h.0 then in
      read_case K FitsMove c t x figures n p a r (λ l. (h.0, then)) (λ l. ended_case K FitsMove c t x _ (search))
  move_fits (has_decided c x) r h q = h
  move_fits (is_spent c x) r h q = h
