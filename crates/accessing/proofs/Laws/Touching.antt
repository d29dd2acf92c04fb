-- The one register that a going station touches next, by its phase.
-- Relies on the layout and the listing; the proof of `touched` relies on it, and so does that of `access`.
use Rattle.model.proofs.Kit.{◌≡◌, sym, ap, ◌∙◌, ℕ, ◌+◌, ◌*◌}
use Rattle.model.specs.declared.Record.{Record}
use Rattle.model.specs.Figure.{Figure}
use Rattle.model.specs.Listing.{Stage, active, place_array, place_column}
use Rattle.model.specs.Layout.{row_of, register_at, of_phase, record_value}
use Rattle.accessing.specs.Accessed.{Touches}

-- a record stands for one stage
pub one_stage : (f : Record) (phase : ℕ) (t s : Stage Figure) → f.phase ≡ phase
    → of_phase phase f ≡ active f.proposal t
    → record_value f ≡ active f.proposal s → t ≡ s
unfolding record_value
one_stage f phase t s e h q = same (sym h ∙ ap (λ (k : ℕ). of_phase k f) (sym e) ∙ q)
  where
    same : active f.proposal t ≡ active f.proposal s → t ≡ s
    same p = cc

-- the offset that the code works out, of the row and the column of stage t
pub touch : (n j : ℕ) (f : Record) (phase : ℕ) (t : Stage Figure) (r stations row column : ℕ) → f.phase ≡ phase
    → of_phase phase f ≡ active f.proposal t
    → stations ≡ n → row ≡ row_of (place_array t) → column ≡ place_column j t
    → r ≡ 8 + 8 * (stations * row + column) → Touches n j f r
unfolding Touches register_at
touch n j f phase t r stations row column e h en er ec q s k =
    q ∙ (λ i. 8 + 8 * (en i * er i + ec i))
    ∙ ap (λ (z : Stage Figure). register_at n (place_array z) (place_column j z)) (one_stage f phase t s e h k)
