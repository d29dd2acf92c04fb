-- `word_of` meets its contract. The loop's invariant: the letters of the next word begin at `from`, and none of the words
-- before it is the part.
use Rattle.model.proofs.Kit.{◌≡◌, take}
use Rattle.std.specs.Prelude.{sum}
use Rattle.words.specs.Store.{words}
use Rattle.words.proofs.Laws.Walking.{Missed}
use Rattle.words.proofs.word_of.Given as goal

abbrev pub invariant-loop-place : goal.invariant-loop-place
invariant-loop-place l = (l.from ≡ sum (take l.place l.length-items)) × Missed words l.part l.place
