-- `access` meets its contract:
-- what is put back is what the listing's move changed, at the places it names; each return is a law of Accessing.
use Rattle.accessing.proofs.Laws.Accessing.{place_fits, record_fits, record_fits_after, accessed_writing}
use Rattle.accessing.proofs.Laws.Accessing.{accessed_ending, accessed_empty, accessed_filled, total_room}
use Rattle.accessing.proofs.Laws.Accessing.{count_fits, count_room}
use Rattle.accessing.proofs.access.Goals as goal

pub register_at-register-requires : goal.register_at-register-requires
register_at-register-requires c = search place_fits

pub put_register-requires : goal.put_register-requires
put_register-requires c = search place_fits

pub put_phase-requires : goal.put_phase-requires
put_phase-requires c = search record_fits_after

pub returns-in-Some : goal.returns-in-Some
returns-in-Some c = search accessed_writing

pub total_with-total-requires : goal.total_with-total-requires
total_with-total-requires c = (search record_fits, search total_room)

pub put_started-requires : goal.put_started-requires
put_started-requires c = search record_fits

pub returns-then-moved-eq0 : goal.returns-then-moved-eq0
returns-then-moved-eq0 c = search accessed_ending

pub put_collected-requires : goal.put_collected-requires
put_collected-requires c = search record_fits

pub returns-then-register-eq0 : goal.returns-then-register-eq0
returns-then-register-eq0 c = search accessed_empty

pub count_met-requires : goal.count_met-requires
count_met-requires c = (search count_fits, search count_room)

pub returns : goal.returns
returns c = search accessed_filled
