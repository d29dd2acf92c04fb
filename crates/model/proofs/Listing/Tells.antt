-- The answer of a move tells where the station stands after it: went, marked, adopted, decided and spent name its
-- island, flag and carried figure.
-- Relies on the cases of a read, for any type of figures; a reader of the answers relies on it.
use Rattle.model.proofs.Kit.{refl, ℕ, ◌+◌}
use Rattle.model.specs.Listing.{Order, Register, Stage, writing, reading, has_decided, is_spent, Move, stay, see}
use Rattle.model.specs.Listing.{move}
use Rattle.model.specs.Claims.{Tells}
use Rattle.model.proofs.Listing.Cases.{ended_case, read_case}

module _ {F : Type 0} where
  unfoldable pub Told : Move F → Type 0
  Told m = Tells m.answer m.stage

  pub move_tells : (K : ℕ) (o : Order F) (n : ℕ) (s : Stage F) (r : Register F) → Told (move o n K s r)
  unfolding Told Tells move stay
  move_tells K o n (writing t c x) r = (t, c, x, refl)
  move_tells K o n (reading t c x p a) r =
      read_case K Told c t x o n p a r (λ l. (t, c, x, p + 1, see o t a r, refl)) (λ l. ended_case K Told c t x _
      (record { goes = refl; marks = λ f. (f, refl, c, refl); decides = refl; adopts = λ l. refl; spends = refl }))
  move_tells K o n (has_decided c x) r = tt
  move_tells K o n (is_spent c x) r = tt
