-- `see_commit` meets its contract: each return is a law of ReadB.
use Rattle.model.proofs.Basics.Numbers.{landed}
use Rattle.collect.proofs.Handed.{same_bits_told, other_bits_told}
use Rattle.collect.proofs.ReadB.{commit_first, commit_beside, commit_same, commit_differs, third_stays}
use Rattle.collect.proofs.see_commit.Goals as goal

pub returns-in-0 : goal.returns-in-0
returns-in-0 c = search (landed, commit_first)

pub returns-in-1 : goal.returns-in-1
returns-in-1 c = search (landed, commit_beside)

pub returns-in-2 : goal.returns-in-2
returns-in-2 c = search (landed, other_bits_told, commit_differs)

pub returns-in_default : goal.returns-in_default
returns-in_default c = search (same_bits_told, commit_same)

pub returns-in_default-2 : goal.returns-in_default-2
returns-in_default-2 c = search third_stays
