-- `records_sound`: no place wraps, and the first record that fails decides.
use Rattle.model.proofs.Kit.{arith}
use Rattle.record_soundness.proofs.Laws.Chains.{no}
use Rattle.model.proofs.Basics.Loops.{every_fails}
use Rattle.record_soundness.proofs.Laws.Records.{next_fits}
use Rattle.record_soundness.proofs.records.records_sound.Goals as goal

pub overflow_add-first : goal.overflow_add-first
overflow_add-first c =
    let fits = next_fits c.args.n c.args.k c.loop-i.i c.record_offset-first.result (search) (search) (search) (search) in
    record { fits = omega (arith, fits.fits) }

pub returns-then-not-record_sound : goal.returns-then-not-record_sound
returns-then-not-record_sound c = search (no, every_fails)
