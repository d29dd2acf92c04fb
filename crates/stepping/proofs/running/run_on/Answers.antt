use Rattle.stepping.proofs.Laws.Running.{begun, again}
use Rattle.stepping.proofs.running.run_on.Goals as goal

pub loop-station-init : goal.loop-station-init
loop-station-init c = search begun

pub loop-station-preserved : goal.loop-station-preserved
loop-station-preserved c = search again
