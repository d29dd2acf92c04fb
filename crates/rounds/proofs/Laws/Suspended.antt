-- The set of suspended stations: none, one more, and as many as a round names.
-- Relies on the definition of the set; the proofs of the readers of rounds and of one round rely on it.
use Rattle.model.proofs.Kit.{◌≡◌, refl, sym, ap, ◌∙◌, Bool, true, false, ◌||◌, List, [], ◌∷◌, ◌++◌, ℕ, ◌+◌, ◌-◌}
use Rattle.model.proofs.Kit.{◌≤◌, ◌<◌, eqb, eqb-true, eqb-false, ne_eqb, length, take, replicate, set, length-set, get_or}
use Rattle.model.proofs.Kit.{take_all, add-one, arith}
use lib.ListN.{get_or-replicate}
use lib.Seq.{take-suc, get_or-set_same, get_or-set_other}
use Rattle.model.specs.Bytes.{names}
use Rattle.model.proofs.Basics.Tests.{by_test}
use Rattle.model.proofs.Basics.Names.{or_none, or_any, names_more}
use Rattle.rounds.specs.Suspended.{suspended, Suspends, Adds}

-- ---- one more

module _ (halted : List Bool) (j : ℕ) (size : length halted ≡ 16) where
  -- a number that no board's station has
  pub left : (1 ≤ j → j ≤ 16 → ⊥) → Adds halted j halted
  left f = record {
    size = size;
    holds =
        λ i l h. sym (ap (λ (t : Bool). suspended halted i || t) (ne_eqb i j (λ e. f (omega arith) (omega arith)))
        ∙ or_none (suspended halted i));
  }

  module _ (low : 1 ≤ j) (high : j ≤ 16) where
    entry : (i : ℕ) → 1 ≤ i → suspended (set halted (j - 1) true) i ≡ suspended halted i || eqb i j
    unfolding suspended
    entry i l =
        by_test (eqb i j)
        (λ t. rw (t, eqb-true i j t) (get_or-set_same halted (j - 1) true false (omega arith)
        ∙ sym (or_any (get_or halted (j - 1) false))))
        (λ t. rw t (get_or-set_other halted (j - 1) (i - 1) true false (λ e. eqb-false i j t (omega arith))
        ∙ sym (or_none (get_or halted (i - 1) false))))

    pub added : Adds halted j (set halted (j - 1) true)
    added = record { size = simp length-set size; holds = λ i l h. entry i l }

pub ruleset adding = (left, added)

-- ---- as many as a round names

-- the empty set is that of a round that names nobody
pub suspends_none : Suspends (replicate 16 false) []
unfolding suspended names
suspends_none =
    record { size = refl; holds = λ i l h. get_or-replicate 16 (i - 1) false false (omega arith) }

-- and with a station more that of a round that names it at its end
pub suspends_more : (halted more : List Bool) (r : List ℕ) (j : ℕ) → Suspends halted r → Adds halted j more
    → Suspends more (r ++ (j ∷ []))
suspends_more halted more r j s a = record {
  size = a.size;
  holds = λ i l h. a.holds i l h ∙ ap (λ (t : Bool). t || eqb i j) (s.holds i l h) ∙ sym (names_more i r j);
}

pub suspends_size : (halted : List Bool) (r : List ℕ) → Suspends halted r → length halted ≡ 16
suspends_size halted r s = s.size

-- ---- the loop over a round's stations

module _ (named : List ℕ) where
  pub suspends_next : (halted more : List Bool) (i : ℕ) → i < length named → Suspends halted (take i named)
      → Adds halted (get_or named i 0) more
      → Suspends more (take (i + 1) named)
  suspends_next halted more i l s a =
      rw (add-one, take-suc named i 0) (suspends_more halted more (take i named) (get_or named i 0) s a)

  pub suspends_all : (halted : List Bool) (i : ℕ) → length named ≤ i → Suspends halted (take i named)
      → Suspends halted named
  suspends_all halted i l s = rw (take_all i named l) at s

pub ruleset naming = (suspends_none, suspends_size, suspends_all)
