-- The steps of a run, and proposals put in together, as calls of a list, so that demand 3 covers them.
-- Relies on Runs; a sheet's lines of steps and of pairs stand in demand 3 by it, and the counts after them rely on it.
use Rattle.model.proofs.Kit.{◌≡◌, refl, List, [], ◌∷◌, map, ℕ}
use Rattle.model.specs.Bytes.{Each}
use Rattle.model.specs.Calls.{step}
use Rattle.model.specs.Proposals.{Proposal, AllFit, one_by_one}
use Rattle.model.specs.AnyList.{stepping, called, after, Allowed, AllAllowed}
use Rattle.model.specs.SheetList.{singles}
use Rattle.model.specs.Runs as runs

pub ran_calls : (is b : List ℕ) → runs.after step b is ≡ after (map stepping is) b
unfolding runs.after after called
ran_calls [] b = refl
ran_calls (i ∷ is) b = ran_calls is (step i b).bytes

-- a list may hold any steps
pub steps_allowed : (is b : List ℕ) → AllAllowed (map stepping is) b
unfolding AllAllowed Allowed
steps_allowed [] b = tt
steps_allowed (i ∷ is) b = (tt, steps_allowed is (called (stepping i) b))

-- ---- proposals put in together, as a list of single ones

pub singles_leave : (ps : List Proposal) (b : List ℕ) → one_by_one ps b ≡ after (singles ps) b
unfolding one_by_one singles after called
singles_leave [] b = refl
singles_leave (p ∷ ps) b = singles_leave ps _

pub singles_allowed : (ps : List Proposal) → AllFit ps → (b : List ℕ) → AllAllowed (singles ps) b
unfolding singles AllAllowed Allowed AllFit Each
singles_allowed [] h b = tt
singles_allowed (p ∷ ps) h b = (h.0, singles_allowed ps h.1 _)
