-- The text of a step that ended a collect, over its word's bytes.
-- Relies on the model's texts and numbers; the contract of its writer relies on it.
use Rattle.std.specs.Prelude.{List, ◌++◌, ℕ}
use Rattle.model.specs.Figure.{Figure}
use Rattle.model.specs.Show.{text, decimal}
use Rattle.shown.specs.Texts.{standing_bytes}

-- the model's `end_text`: the word with c and x, and the total k last
unfoldable pub end_bytes : (word : List ℕ) (c : ℕ) → Figure → (total : ℕ) → List ℕ
end_bytes word c x k = standing_bytes word c x ++ text " " ++ decimal k ++ text ")"
