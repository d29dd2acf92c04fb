-- The word store: which words it has and in what order, and what it means that they are packed.
-- Relies on the model's texts; the contracts of the store, and of whatever reads or writes a word, rely on it.
use Rattle.std.specs.Prelude.{◌≡◌, cond, List, [], ◌∷◌, ℕ, suc, ◌<◌, length, get_or, take, drop, sum}
use Rattle.model.specs.Show.{text}
use Rattle.model.specs.Forms.{same}

-- 02: "the words for forms and answers, those of the tapes too", in the store's order. A word is named by its place
-- here.
unfoldable pub words : List (List ℕ)
words =
    text "times"
    ∷ text "read" ∷ text "wrote" ∷ text "going" ∷ text "decided" ∷ text "spent"
    ∷ text "went" ∷ text "marked" ∷ text "adopted" ∷ text "idle"
    ∷ text "steps" ∷ text "propose" ∷ text "show" ∷ text "board" ∷ text "rounds"
    ∷ text "ran" ∷ text "proposed" ∷ text "laid" ∷ text "played" ∷ text "refused" ∷ text "stations"
    ∷ text "none"
    ∷ []

-- the text of the word with an index, and none where no word has it
unfoldable pub word_text : (index : ℕ) → List ℕ
word_text i = get_or words i []

-- the index of the word that a text is, and the number of all words where it is none
unfoldable pub index_in : List (List ℕ) → (t : List ℕ) → ℕ
index_in [] t = 0
index_in (w ∷ ws) t = cond (same t w) 0 (suc (index_in ws t))

-- "pack them into one store, each once, end to end with their lengths"
pub record Packed (lengths letters : List ℕ) (words : List (List ℕ)) : Type 0 where
  -- a length for each word
  pub counted : length lengths ≡ length words
  -- "each word begins at the sum of the lengths before it": as many letters as it has are its text
  pub begins : (i : ℕ) → i < length words
      → take (get_or lengths i 0) (drop (sum (take i lengths)) letters) ≡ get_or words i []
  pub long : (i : ℕ) → i < length words → length (get_or words i []) ≡ get_or lengths i 0
  pub some : (i : ℕ) → i < length words → 0 < get_or lengths i 0
  -- "the store ends with the last"
  pub ends : sum lengths ≡ length letters
  -- "each once"
  pub once : (i j : ℕ) → i < length words → j < length words → get_or words i [] ≡ get_or words j [] → i ≡ j
