-- The tape of a sheet from a line on, by the board in force there.
-- Relies on the model's tape of lines; the algorithm's own line and the tape of a sheet rely on it.
use Rattle.model.proofs.Kit.{◌≡◌, refl, ap, ◌∙◌, List, [], ◌∷◌, ◌++◌, ℕ}
use Rattle.model.specs.Sheet.{Played, play_line}
use Rattle.model.specs.SheetList.{board_of}
use Rattle.model.specs.Tape.{Entry, lines_tape}
use Rattle.taped_line.specs.TapedLines.{line_tape}

-- only the board in force counts, and not what was printed
abbrev pub standing : (laid : ℕ) (m : List ℕ) → Played
standing laid m = record { printed = []; laid = laid; memory = m }

pub printed_plays_no_part : (ls : List (List ℕ)) (p : Played)
    → lines_tape ls p ≡ lines_tape ls (standing p.laid p.memory)
unfolding lines_tape board_of
printed_plays_no_part [] p = refl
printed_plays_no_part (l ∷ ls) p = refl

-- the tape of the next line comes first
pub first_line : (ls : List (List ℕ)) (laid : ℕ) (m l : List ℕ) (ks : List (List ℕ)) → ls ≡ l ∷ ks
    → lines_tape ls (standing laid m)
    ≡ line_tape laid m l ++ lines_tape ks (standing (play_line laid m l).laid (play_line laid m l).memory)
unfolding lines_tape line_tape board_of
first_line ls laid m l ks e =
    ap (λ (x : List (List ℕ)). lines_tape x (standing laid m)) e
    ∙ ap (λ (es : List Entry). line_tape laid m l ++ es) (printed_plays_no_part ks (play_line laid m l))
