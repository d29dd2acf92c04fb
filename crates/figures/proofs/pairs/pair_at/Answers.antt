-- `pairs::pair_at`: the library's number of two bytes is the model's.
use Rattle.model.proofs.Kit.{refl, arith}
use Rattle.figures.proofs.Laws.Pairs.{pair_read}
use Rattle.figures.proofs.pairs.pair_at.Goals as goal

pub returns : goal.returns
returns c = omega (arith, c.from_le_bytes.ensures, pair_read c.args.s.now c.args.at _ _ c.requires refl refl)
