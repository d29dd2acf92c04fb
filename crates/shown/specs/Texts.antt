-- One station's part of the line that `show` hands back, as the definition of `show` has it.
-- Relies on the model's texts and numbers; the contracts of statuses rely on it.
use Rattle.std.specs.Prelude.{List, ◌++◌, ℕ}
use Rattle.model.specs.Figure.{Figure}
use Rattle.model.specs.Listing.{writing, reading, has_decided, is_spent, Station, idle, active}
use Rattle.model.specs.Show.{text, decimal, signed, status}

-- " (i idle)", or the word with c and v; i is the station's number
unfoldable pub status_of : (i : ℕ) → Station Figure → List ℕ
status_of i s = text " (" ++ decimal i ++ text " " ++ status s ++ text ")"

-- the model's `standing` over the word's bytes
unfoldable pub standing_bytes : (word : List ℕ) (c : ℕ) → Figure → List ℕ
standing_bytes word c v = word ++ text " " ++ decimal c ++ text " " ++ signed v

-- the island that a status shows, if any
unfoldable pub island_shown : Station Figure → ℕ
island_shown idle = 0
island_shown (active v (writing t c x)) = c
island_shown (active v (reading t c x p a)) = c
island_shown (active v (has_decided c x)) = c
island_shown (active v (is_spent c x)) = c
