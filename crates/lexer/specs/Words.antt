-- The row of the model's table that the code names, where a word ends, the part of a line that it is, and a given word
-- at a place. Relies on the model's words; the contracts of words rely on it.
use Rattle.std.specs.Prelude.{◌≡◌, List, ℕ, ◌+◌, ◌≤◌, ◌<◌, ◌-◌, length, take, drop, Some, None, Ok, Err}
use Rattle.std.specs.declared.option.Option as declared
use Rattle.std.specs.declared.result.Result.{Result}
use Rattle.std.proofs.Math.Option.{Option, none, some}
use Rattle.std.specs.Borrow.{Bor}
use Rattle.model.specs.declared.refusal.Refusal.{Refusal}
use Rattle.model.specs.Told.{number}
use Rattle.model.specs.Forms as forms
use Rattle.model.specs.Forms.{WordRow, board_row, propose_row, steps_row, show_row, rounds_row, up_to_stop, behind}
use Rattle.model.specs.Forms.{Reading, reads, unread, or_four}
use Rattle.lexer.specs.declared.word.FormWord.{FormWord}
use Rattle.lexer.specs.declared.word.FormWord.TheVariants.{Board, Propose, Steps, Show, Rounds}

-- the model's row of each of the code's words
abbrev pub word_row : FormWord → WordRow forms.Form
word_row Board = board_row
word_row Propose = propose_row
word_row Steps = steps_row
word_row Show = show_row
word_row Rounds = rounds_row

unfoldable pub named_row : declared.Option FormWord → Option (WordRow forms.Form)
named_row (Some w) = some (word_row w)
named_row None = none

-- the word that starts behind the line's first byte ends before the place r
pub record WordEnd (line : List ℕ) (r : ℕ) : Type 0 where
  pub behind : 1 ≤ r
  pub inside : r ≤ length line
  pub word : take (r - 1) (drop 1 line) ≡ up_to_stop (drop 1 line)

-- "the part of the line it occupies": the bytes w, which stand behind the line's first byte. "an empty part if there is
-- none" has no place.
pub record PartIs (line part : Bor (List ℕ)) (w : List ℕ) : Type 0 where
  pub bytes : part.now ≡ w
  pub place : 0 < length part.now → (part.ref_ptr.0 ≡ line.ref_ptr.0) × (part.ref_ptr.1 ≡ line.ref_ptr.1 + 1)

-- what follows a given word, as the model's reader has it, or the number of the refusal
unfoldable pub word_at : List ℕ → Result ℕ Refusal → Reading (List ℕ)
word_at line (Ok next) = reads (drop next line)
word_at line (Err e) = unread (number e)

abbrev pub WordInside : (at : ℕ) → Result ℕ Refusal → Type 0
WordInside at (Ok next) = at ≤ next
WordInside at (Err e) = Unit {0}

-- the word w at `at`
pub record WordIs (line : List ℕ) (at : ℕ) (w : List ℕ) (r : Result ℕ Refusal) : Type 0 where
  pub reads : word_at line r ≡ or_four (behind w (drop at line))
  pub inside : WordInside at r
