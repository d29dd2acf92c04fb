-- What a move writes: a write puts down the turn's entry, a read puts down nothing.
-- Relies on the cases of a read; the laws of an accepted step rely on it, on bytes and on states.
use Rattle.model.proofs.Kit.{◌≡◌, refl, none, ℕ}
use Rattle.model.specs.Listing.{Order, Turn, Register, Seen, reading, Move, stay, ended, see, move}
use Rattle.model.proofs.Listing.Cases.{ended_case, read_case}

module _ {F : Type 0} (K : ℕ) where
  pub ended_writes : (t : Turn) (c : ℕ) (x : F) (a : Seen F) → (ended K t c x a).written ≡ none
  unfolding stay
  ended_writes t c x a = ended_case K (λ (m : Move F). m.written ≡ none) c t x a
      (search)

  pub read_writes : (o : Order F) (n : ℕ) (t : Turn) (c : ℕ) (x : F) (p : ℕ) (a : Seen F) (r : Register F)
      → (move o n K (reading t c x p a) r).written ≡ none
  unfolding stay
  read_writes o n t c x p a r = read_case K (λ (m : Move F). m.written ≡ none) c t x o n p a r
      (λ l. refl) (λ l. ended_writes t c x (see o t a r))
