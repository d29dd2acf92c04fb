-- The set of the stations that were named: none, and one more.
-- Relies on the definition of the set; the proofs of those who name stations rely on it.
use Rattle.model.proofs.Kit.{◌≡◌, refl, sym, ap, ◌∙◌, Bool, true, false, ◌||◌, List, [], ℕ}
use Rattle.model.proofs.Kit.{eqb, eqb-true, eqb-false, length, replicate, set, length-set, get_or, w8, Fits, arith}
use lib.ListN.{get_or-replicate}
use lib.Seq.{get_or-set_same, get_or-set_other}
use Rattle.model.specs.Bytes.{names}
use Rattle.model.proofs.Basics.Tests.{by_test}
use Rattle.model.proofs.Basics.Names.{or_none, or_any, names_more}
use Rattle.proposing.specs.Flags.{Flagged, Names}

pub flags_none : Flagged (replicate 256 false) []
unfolding names
flags_none = record { size = refl; holds = λ i h. get_or-replicate 256 i false false (omega arith) }

module _ (flags : List Bool) (j : ℕ) (size : length flags ≡ 256) (byte : Fits w8 j) where
  entry : (i : ℕ) → get_or (set flags j true) i false ≡ get_or flags i false || eqb i j
  entry i =
      by_test (eqb i j)
      (λ t. rw (t, eqb-true i j t) (get_or-set_same flags j true false (omega (arith, byte.fits))
      ∙ sym (or_any (get_or flags j false))))
      (λ t. rw t (get_or-set_other flags j i true false (eqb-false i j t)
      ∙ sym (or_none (get_or flags i false))))

  pub names_it : Names flags j (set flags j true) (get_or flags j false)
  unfolding Names
  names_it is f = (
    record {
      size = simp length-set size;
      holds = λ i h. entry i ∙ ap (λ (t : Bool). t || eqb i j) (f.holds i h) ∙ sym (names_more i is j);
    },
    f.holds j (omega (arith, byte.fits)),
  )
