-- The invariant of a state: it holds at the start, and a proposal and a step keep it. Relies on the four kinds of
-- moves; the theorems on decisions and every run rely on it.
use Rattle.model.proofs.Kit.{◌≡◌, true, ℕ}
use Rattle.model.specs.Listing.{Order}
use Rattle.model.proofs.Agreement.State.{State, initial}
use Rattle.model.proofs.Agreement.Cells.{cells}
use Rattle.model.proofs.Agreement.Invariant.{Kept}
use Rattle.model.proofs.Agreement.Inductive.{Inductive}
use Rattle.model.proofs.Agreement.Restage.{proposes_kept}
use Rattle.model.proofs.Agreement.Read.{read_kept}
use Rattle.model.proofs.Agreement.Settle.{settle_kept}
use Rattle.model.proofs.Agreement.Write.{write_kept}

module _ {F : Type 0} where
  pub record Inv (n : ℕ) (st : State F) : Type 0 where
    pub clauses : Kept n (cells st)

  pub inv_initial : (n : ℕ) → Inv n initial
  unfolding initial cells
  inv_initial n = record {
    clauses = record {
      own = λ i. record {
        near = λ d. absurd d;
        early = λ k d. absurd d;
        begun = λ d. absurd d;
        mine = tt;
        over = λ k x d. absurd d;
      };
      one_figure = λ i j k x y a b m m' d. absurd d;
      not_both = λ i j k m d. d;
      held = λ i k y d. absurd d;
      stored = λ i a k y d. absurd d;
      sighted = λ i k y d. absurd d;
    };
  }

  -- whoever proposes, and whatever
  abbrev pub Any : F → Type 0
  Any v = Unit {0}

  module _ (o : Order F) (sameIs : (x y : F) → o.same x y ≡ true → x ≡ y) (n K : ℕ) where
    pub inductive : Inductive o n K Any (Kept n)
    inductive = record {
      proposes = λ i v near is q h. proposes_kept n i v near is h;
      writes = λ i v t c x near is h. write_kept n i v t c x near is h;
      reads = λ i v t c x p a near is h. read_kept o sameIs n i v t c x p a near is h;
      settles = λ i v t c x p a near is end h. settle_kept n i v near h K t c x p a is end;
    }
