-- `records_sound`: the invariant is that every record before the i-th passed.
use Rattle.model.proofs.Kit.{◌≡◌, true}
use Rattle.model.specs.Bytes.{every}
use Rattle.model.specs.Layout.{record_of}
use Rattle.model.specs.Sound.{record_sound}
use Rattle.record_soundness.proofs.records.records_sound.Given as goal

abbrev pub invariant-loop-i : goal.invariant-loop-i
invariant-loop-i l = every l.i (λ j. record_sound l.n l.k j l.s (record_of l.n l.k j l.s)) ≡ true
