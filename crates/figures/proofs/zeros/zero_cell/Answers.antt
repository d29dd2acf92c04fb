-- `zero_cell`: the library's number of eight bytes is the model's, and zero when its bytes are.
use Rattle.model.proofs.Kit.{refl, arith}
use Rattle.figures.proofs.Laws.Zeros.{word_zero, cell_read}
use Rattle.figures.proofs.zeros.zero_cell.Goals as goal

pub returns : goal.returns
returns c =
    word_zero _ _ (omega (
      arith,
      c.from_le_bytes.ensures,
      cell_read c.args.s.now c.args.at _ _ _ _ _ _ _ _ c.requires refl refl refl refl refl refl refl refl,
    ))
