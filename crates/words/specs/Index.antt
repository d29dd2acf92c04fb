-- The place of each word in the store, as src/index.rt has it: contracts and laws name a word by it.
-- Relies on the code's names of words; the contracts of the store, and the laws of those who read and write words, rely on it.
use Rattle.std.specs.Prelude.{ℕ, length, Some, None}
use Rattle.std.specs.declared.option.Option.{Option}
use Rattle.words.specs.declared.index.Word as names
use Rattle.words.specs.declared.index.Word.TheVariants as word
use Rattle.words.specs.Store.{words}

abbrev pub place : names.Word → ℕ
place word.Times = 0
place word.Read = 1
place word.Wrote = 2
place word.Going = 3
place word.Decided = 4
place word.Spent = 5
place word.Went = 6
place word.Marked = 7
place word.Adopted = 8
place word.Idle = 9
place word.Steps = 10
place word.Propose = 11
place word.Show = 12
place word.Board = 13
place word.Rounds = 14
place word.Ran = 15
place word.Proposed = 16
place word.Laid = 17
place word.Played = 18
place word.Refused = 19
place word.Stations = 20
place word.Nothing = 21

-- the place of a word that is found, and the number of all words where none is
abbrev pub place_or_all : Option names.Word → ℕ
place_or_all (Some w) = place w
place_or_all None = length words
