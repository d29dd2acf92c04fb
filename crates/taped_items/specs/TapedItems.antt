-- Items taped as they stand in a line.
-- Relies on the items that stand in a line and on steps taped one after another; the contracts of the crate rely on it.
use Rattle.std.specs.Prelude.{◌≡◌, List, ℕ}
use Rattle.item_walks.specs.ItemWalks.{ItemDone, ItemsDone}
use Rattle.lexer.specs.declared.At.{At}
use Rattle.taping.specs.declared.Taped.{Taped}
use Rattle.taping.specs.Taping.{Taping, taping, taped_steps}

-- the steps `is` were taped from the state s, and t is the state that they leave
unfoldable pub TapedFrom : (s t : Taping) (is : List ℕ) → Type 0
TapedFrom s t is = t ≡ taped_steps is s

-- lent bytes with what is still to do behind a part of a line
abbrev pub part_taped : (b out : List ℕ) → At Taped → Taping
part_taped b out r = taping b out r.value

-- the steps of an item, or of a list of them, are taped from the state s to the board d and the buffer out
abbrev pub ItemTapes : (line : List ℕ) (at : ℕ) (s : Taping) → At Taped → (d out : List ℕ) → Type 0
ItemTapes line at s r d out = ItemDone (TapedFrom s (part_taped d out r)) line at r.next

abbrev pub ItemsTape : (line : List ℕ) (at : ℕ) (s : Taping) → At Taped → (d out : List ℕ) → Type 0
ItemsTape line at s r d out = ItemsDone (TapedFrom s (part_taped d out r)) line at r.next
