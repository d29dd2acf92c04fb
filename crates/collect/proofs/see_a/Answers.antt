-- `see_a` meets its contract: each return is a law of OneRead.
use Rattle.model.proofs.Basics.Numbers.{landed}
use Rattle.collect.proofs.Handed.{Handed, larger_told, same_bits_told, other_bits_told}
use Rattle.collect.proofs.OneRead.{a_first, a_same, a_differs, a_mixed}
use Rattle.collect.proofs.see_a.Goals as goal
use Rattle.collect.proofs.see_a.Goals.{Start, in_default-via-in-1+else-station-figure, in_default-via-in_default-1}

figures : (c : Start) → Handed c.args.station.best × Handed c.args.figure
figures c = (landed _ (search), landed _ (search))

pub returns-in-0 : goal.returns-in-0
returns-in-0 c = search (landed, a_first)

pub returns-in-1 : goal.returns-in-1
returns-in-1 c = let given = figures (search) in search (landed, larger_told, other_bits_told, a_differs)

pub returns-in_default : goal.returns-in_default
returns-in_default c =
    elim c.in_default-1.branch [
      | in_default-via-in-1+else-station-figure w ↦
          let given = figures (search) in search (landed, larger_told, same_bits_told, a_same)
      | in_default-via-in_default-1 w ↦ let given = figures (search) in search (landed, larger_told, a_mixed)
    ]
