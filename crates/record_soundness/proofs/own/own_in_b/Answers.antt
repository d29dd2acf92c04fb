-- `own_in_b`: where the register stands, by the length of the board.
use Rattle.std.proofs.Common.{rules}
use Rattle.model.proofs.Kit.{arith}
use Rattle.record_soundness.proofs.Laws.Held.{place_b}
use Rattle.record_soundness.proofs.own.own_in_b.Goals as goal

pub column-requires : goal.column-requires
column-requires c =
    (place_b _ c.args.k _ c.from.result _ (search) (search) (omega arith), search rules, omega arith, search rules)
