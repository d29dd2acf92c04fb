-- `word_at`: the library's number of four bytes is the model's.
use Rattle.model.proofs.Kit.{refl, arith}
use Rattle.figures.proofs.Laws.Signs.{word_read}
use Rattle.figures.proofs.word_at.Goals as goal

pub returns : goal.returns
returns c =
    omega (arith, c.from_le_bytes.ensures, word_read c.args.s.now c.args.at _ _ _ _ c.requires refl refl refl refl)
