-- The sheet's limits and the edges of its grammar: "65,536 steps run; 65,537 give 6. Nine open brackets give 3; eight
-- do not." Relies on Lines; each row of the table is a line and what the definitions read in it.
use Rattle.model.proofs.Kit.{◌≡◌, refl, sym, ap, subst, ◌∙◌, List, [], ◌∷◌, none, ℕ, zero, suc, ◌+◌, ◌≤◌, ◌<◌}
use Rattle.model.proofs.Kit.{◌*◌, lit<, lit≤, length, take, length-append, arith}
use native.Mathlib.Nat.{suc-mul}
use Rattle.model.specs.Calls.{unless, ran, step}
use Rattle.model.specs.Show.{text_from, text}
use Rattle.model.specs.Forms.{Form, steps, repeated, expand, found, and_then, spaced, digit, digits_from}
use Rattle.model.specs.Forms.{natural, number_in, figure_in}
use Rattle.model.specs.Forms.{behind, times_in, item_in, items_in, same, closing, board_row, propose_row, steps_row}
use Rattle.model.specs.Forms.{show_row, list_in, stations_in, round_in, rounds_in, rounds_row, pair_in, pairs_in}
use Rattle.model.specs.Forms.{single_in, together_in}
use Rattle.model.specs.Forms.{word_rows, row_in, up_to_stop, first_word, word_place, form_in, one, too_deep, Reading}
use Rattle.model.specs.Forms.{reads, or_four, read_line}
use Rattle.model.specs.Sheet.{turned_down, ran_text, play_reading, play_line}
use Rattle.model.specs.Edges.{times_one, deep, pair, rows, Edges, StepsLimit}
use Rattle.model.proofs.Calls.Refusals.{Board, board_of_lem}
use Rattle.model.specs.Runs.{taken, passed, answers}
use Rattle.model.proofs.Calls.Runs.{ran_both}
use Rattle.model.proofs.Sheet.PlayedLines.{steps_print, steps_six}

pub length_repeated : (k : ℕ) (l : List ℕ) → length (repeated k l) ≡ k * length l
unfolding repeated
length_repeated zero l = omega arith
length_repeated (suc k) l =
    length-append l (repeated k l) ∙ ap (λ (x : ℕ). length l + x) (length_repeated k l)
    ∙ omega (arith, suc-mul k (length l))

-- ---- 65,536 steps

pub length_times_one : (k : ℕ) → length (expand (times_one k)) ≡ k
unfolding expand times_one
length_times_one k =
    length-append (repeated k (1 ∷ [])) [] ∙ ap (λ (x : ℕ). x + 0) (length_repeated k (1 ∷ [])) ∙ omega arith

reads_65536 : read_line (text "(steps (times 65536 1))") ≡ reads (steps (times_one 65536))
unfolding times_one text_from text unless found and_then spaced digit digits_from natural number_in behind times_in item_in
    items_in same word_rows board_row propose_row steps_row show_row rounds_row row_in up_to_stop first_word word_place form_in one
    too_deep or_four read_line
reads_65536 = refl

reads_65537 : read_line (text "(steps (times 65537 1))") ≡ reads (steps (times_one 65537))
unfolding times_one text_from text unless found and_then spaced digit digits_from natural number_in behind times_in item_in
    items_in same word_rows board_row propose_row steps_row show_row rounds_row row_in up_to_stop first_word word_place form_in one
    too_deep or_four read_line
reads_65537 = refl

module _ (laid : ℕ) (m : List ℕ) (on : laid ≡ 0 → ⊥) where
  steps_run : Board (take laid m)
      → (s : ℕ) × (t : ℕ) × ((play_line laid m (text "(steps (times 65536 1))")).printed ≡ ran_text (ran s t))
      × (s + t ≡ 65536)
  unfolding play_line play_reading
  steps_run b = (
    taken (answers step (take laid m) (expand (times_one 65536))),
    passed (answers step (take laid m) (expand (times_one 65536))),
    ap (λ (r : Reading Form). (play_reading laid m r).printed) reads_65536
        ∙ steps_print laid m on (times_one 65536)
        (subst (λ (x : ℕ). x ≤ 65536) (sym (length_times_one 65536)) (lit≤ tt)) b,
    ran_both step (take laid m) (expand (times_one 65536)) ∙ length_times_one 65536,
  )

  steps_six_given : play_line laid m (text "(steps (times 65537 1))") ≡ turned_down laid m 6
  unfolding play_line play_reading
  steps_six_given =
      ap (play_reading laid m) reads_65537
      ∙ steps_six laid m on (times_one 65537) (subst (λ (x : ℕ). 65536 < x) (sym (length_times_one 65537)) (lit< tt))

pub steps_limit : StepsLimit
unfolding StepsLimit
steps_limit laid m on = (λ e. steps_run laid m on (board_of_lem (take laid m) none e).0, steps_six_given laid m on)

-- ---- the grammar's edges

-- Every row holds.
pub edges : Edges
unfolding Edges rows deep times_one text_from text unless found and_then spaced digit digits_from natural number_in
    figure_in behind times_in item_in items_in list_in stations_in round_in rounds_in same word_rows board_row propose_row steps_row
    show_row rounds_row row_in up_to_stop first_word word_place closing form_in one too_deep or_four read_line pair pair_in pairs_in
    single_in together_in
edges = refl
