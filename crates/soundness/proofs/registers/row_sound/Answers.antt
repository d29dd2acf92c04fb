-- `row_sound`: the first register that fails decides.
use Rattle.record_soundness.proofs.Laws.Chains.{no}
use Rattle.model.proofs.Basics.Loops.{every_fails}
use Rattle.soundness.proofs.registers.row_sound.Goals as goal

pub returns-then-not-register_sound : goal.returns-then-not-register_sound
returns-then-not-register_sound c = search (no, every_fails)
