-- Predicates of the registers of an array, and what a write by one station changes of them.
-- Relies on the state and on the words for registers; what a collect sees and the states between turns rely on it.
use Rattle.model.proofs.Kit.{◌≡◌, ◌∙◌, cond, ◌&&◌, some, ℕ, ◌<◌, eqb, arith}
use Rattle.model.specs.Listing.{Flag, commit, Register, empty, filled, turn_a, turn_b, Array}
use Rattle.model.proofs.Basics.Tests.{cond_case}
use Rattle.model.proofs.Agreement.Registers.{Holds, Agrees}
use Rattle.model.proofs.Agreement.Cells.{written_elsewhere}
use Rattle.model.proofs.Agreement.State.{put, array_self, put_written}

abbrev pub Registers : Type 0 → Type 0
Registers F = Array → ℕ → Register F

module _ {F : Type 0} where
  -- the first n registers of an array
  abbrev pub All : ℕ → (Flag → ℕ → F → Type 0) → (ℕ → Register F) → Type 0
  All n Q r = (j : ℕ) → j < n → Holds Q (r j)

  -- filled with v, as A agrees to it; filled with a commit of v, as B does; with v if with a commit
  abbrev pub Figure : F → Flag → ℕ → F → Type 0
  Figure v = Agrees turn_a v

  abbrev pub Commit : F → Flag → ℕ → F → Type 0
  Commit v = Agrees (turn_b commit) v

  abbrev pub IfCommit : F → Flag → ℕ → F → Type 0
  IfCommit v f k y = f ≡ commit → y ≡ v

  pub all_map : (n : ℕ) (Q S : Flag → ℕ → F → Type 0) → ((f : Flag) (k : ℕ) (y : F) → Q f k y → S f k y)
      → (r : ℕ → Register F) → All n Q r → All n S r
  all_map n Q S g r all j l = one (r j) (all j l)
    where
      one : (z : Register F) → Holds Q z → Holds S z
      one empty h = tt
      one (filled f k y) h = g f k y h

  -- one more register with Q
  pub all_put : (n : ℕ) (Q : Flag → ℕ → F → Type 0) (i : ℕ) (f : Flag) (k : ℕ) (y : F) (r : ℕ → Register F)
      → Q f k y → All n Q r → All n Q (put i (filled f k y) r)
  unfolding put
  all_put n Q i f k y r q all j l = cond_case (Holds Q) (eqb i j) _ _ (λ _. q) (λ _. all j l)

  -- an empty register and a filled one are of two stations
  pub two_stations : (r : ℕ → Register F) (i j : ℕ) (f : Flag) (k : ℕ) (y : F)
      → r i ≡ empty → r j ≡ filled f k y → i ≡ j → ⊥
  two_stations r i j f k y p q e = let z : ◌≡◌ {A = ℕ} 0 1 = cc in omega arith

  -- the registers after station i wrote r in array a
  abbrev pub write : Array → ℕ → Register F → Registers F → Registers F
  write a i r f = put_written a i (some r) f

  pub write_at : (a : Array) (i : ℕ) (r : Register F) (f : Registers F) → write a i r f a ≡ put i r (f a)
  unfolding put_written put
  write_at a i r f = λ d j. cond (array_self a d && eqb i j) r (f a j)

  -- f and g differ at most in the registers of station i
  abbrev pub Apart : ℕ → Registers F → Registers F → Type 0
  Apart i f g = (a : Array) (j : ℕ) → (i ≡ j → ⊥) → g a j ≡ f a j

  pub apart_write : (i : ℕ) (f g : Registers F) (a : Array) (r : Register F) → Apart i f g → Apart i f (write a i r g)
  apart_write i f g a r h b j ne = written_elsewhere a i (some r) g b j ne ∙ h b j ne
