-- `step_going` meets its contract: the record that it reads is ready, and the access with one more in the
-- steps, for which there is room, is the model's step.
use Rattle.std.proofs.Common.{rules}
use Rattle.accessing.proofs.Laws.Stepping.{going_inside, going_size, going_ready, going_stands, steps_room, goes}
use Rattle.accessing.proofs.step_going.Goals as goal

pub station_at-station-requires : goal.station_at-station-requires
station_at-station-requires c = search going_inside

pub access-answer-requires : goal.access-answer-requires
access-answer-requires c = (search going_ready, search going_size, search going_stands)

pub count_step-requires : goal.count_step-requires
count_step-requires c = (search rules, search steps_room)

pub returns : goal.returns
returns c = search goes
