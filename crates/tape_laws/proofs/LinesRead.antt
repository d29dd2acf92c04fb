-- The reader finds in the written line of a step that step.
-- Relies on the reading of written numbers and figures; LinesWritten has the other direction, and the algorithm's own
-- tape relies on it.
use Rattle.model.proofs.Kit.{◌≡◌, sym, ap, ◌∙◌, List, [], ◌++◌, some, ℕ, ◌≤◌, lit<, lit≤, arith}
use Rattle.model.specs.Show.{text, text_from, decimal, signed}
use Rattle.model.specs.Figure.{Figure}
use Rattle.model.specs.Listing.{Answer, wrote, read, went, marked, adopted, decided, spent, refused}
use Rattle.model.specs.Forms.{same, spaced, closing, row_in, up_to_stop}
use Rattle.model.specs.Tape.{end_text, kind_text, entry_text, end_in, read_in, kind_rows, kind_in, by_station, entry_in}
use Rattle.model.proofs.Sheet.Numbers.{then_found, number_decimal, figure_signed}
use Rattle.model.proofs.Sheet.Lists.{station_read, bracket_stops, space_stops}
use Rattle.tape_laws.specs.TapeLines.{EndInRange, AnswerInRange, InRange, ReadsWritten}

-- the fields of an answer that ends a collect, behind its word
fields_text : (c : ℕ) → Figure → (k : ℕ) → List ℕ
fields_text c x k = text " " ++ (decimal c ++ (text " " ++ (signed x ++ (text " " ++ (decimal k ++ text ")")))))

end_read : (low high : ℕ) → high ≤ 99 → (answer : ℕ → Figure → Answer Figure) (c : ℕ) (x : Figure) (k : ℕ)
    → EndInRange low high c x k
    → end_in low high answer (fields_text c x k) ≡ some (record { did = answer c x; met = k })
unfolding EndInRange end_in fields_text text text_from spaced closing same
end_read low high small answer c x k h =
    then_found _ (number_decimal low high c h.0 h.1 (omega arith) _ (space_stops _))
    ∙ then_found _ (figure_signed x h.2 _ (space_stops _))
    ∙ then_found _ (station_read k h.3 _ (bracket_stops []))

field_read : (k : ℕ) → k ≤ 1
    → read_in (text " " ++ (decimal k ++ text ")")) ≡ some (record { did = read; met = k })
unfolding read_in text text_from spaced closing same
field_read k h = then_found _ (number_decimal 0 1 k (omega arith) h (lit< tt) _ (bracket_stops []))

-- the kind by its word
kind_read : (a : Answer Figure) (k : ℕ) → AnswerInRange a k → kind_in (kind_text a k) ≡ some (record { did = a; met = k })
unfolding AnswerInRange kind_in kind_text end_text up_to_stop row_in kind_rows same text text_from closing fields_text
kind_read wrote k h = ap (λ (m : ℕ). some (record { did = wrote; met = m })) (sym h)
kind_read read k h = field_read k h
kind_read (went c x) k h = end_read 0 99 (lit≤ tt) went c x k h
kind_read (marked f x) k h = end_read 1 2 (lit≤ tt) marked f x k h
kind_read (adopted c x) k h = end_read 0 99 (lit≤ tt) adopted c x k h
kind_read (decided c x) k h = end_read 0 99 (lit≤ tt) decided c x k h
kind_read (spent c x) k h = end_read 0 99 (lit≤ tt) spent c x k h
kind_read (refused n) k h = absurd h

pub reads_written : ReadsWritten
unfolding ReadsWritten InRange by_station entry_in entry_text text text_from
reads_written e h =
    then_found _ (station_read e.station h.0 _ (space_stops _))
    ∙ rw (kind_read e.report.did e.report.met h.1)
