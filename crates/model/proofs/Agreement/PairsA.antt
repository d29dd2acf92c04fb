-- Who can miss whom in A: the word for the clause on pairs of stations that keeps commits of one island to one figure.
-- Relies on Passed; the invariant relies on it.
use Rattle.model.proofs.Kit.{ℕ}
use Rattle.model.specs.Listing.{commit, turn_a, turn_b, in_b}
use Rattle.model.proofs.Agreement.Cells.{Cell}
use Rattle.model.proofs.Agreement.Registers.{Marked}
use Rattle.model.proofs.Agreement.Passed.{Passed, About}

module _ {F : Type 0} where
  -- The station of cell C can miss j on island k: it met nothing but its own figure past j, or it is to commit, or did.
  pub data CanMiss (k j : ℕ) (C : Cell F) : Type 0 where
    unmet : Passed turn_a k j C.station → CanMiss k j C
    to_commit : About (turn_b commit) k C.station → CanMiss k j C
    committed : Marked commit (C.register (in_b k)) → CanMiss k j C
