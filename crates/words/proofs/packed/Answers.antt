-- `packed` meets its contract: the constant is the words of the definitions end to end, and their lengths, which the
-- checker computes.
use Rattle.model.proofs.Kit.{refl}
use mathlib.Core.List.{flatten}
use Rattle.model.specs.Show.{text, text_from}
use Rattle.words.specs.Store.{words}
use Rattle.words.proofs.Laws.Packing.{packed_store}
use Rattle.words.proofs.packed.Goals as goal

pub returns : goal.returns
unfolding words text text_from flatten
returns c = packed_store refl refl
