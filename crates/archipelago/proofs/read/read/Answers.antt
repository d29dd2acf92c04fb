-- `read::read` meets its contract: each return is a law of Moves. What `see` promises holds for each flag.
use Rattle.model.specs.Listing.{flag_of}
use Rattle.archipelago.proofs.Moves.{reads_kept, passed, seeing_kept, seeing_position, seeing_island, finished}
use Rattle.archipelago.proofs.read.read.Goals as goal

pub see-next-requires : goal.see-next-requires
see-next-requires c = search reads_kept

pub pass-requires : goal.pass-requires
pass-requires c = search (seeing_position, c.see-next.ensures (flag_of c.args.station.flag))

pub returns-then-goes_on : goal.returns-then-goes_on
returns-then-goes_on c = search (passed, c.see-next.ensures)

pub finish-requires-clause-kept : goal.finish-requires-clause-kept
finish-requires-clause-kept c = search (seeing_kept, c.see-next.ensures (flag_of 0))

pub finish-requires-clause-island_lt_k : goal.finish-requires-clause-island_lt_k
finish-requires-clause-island_lt_k c = search (seeing_island, c.see-next.ensures (flag_of 0))

pub returns : goal.returns
returns c =
    finished _ _ _ _ _ _ _ _ c.goes_on.ensures (search)
    (c.see-next.ensures _)
    (c.finish.ensures _)
