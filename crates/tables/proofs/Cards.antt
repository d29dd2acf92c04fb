-- Each wrong card differs from `step` on its board: both are computed, and one byte of what they leave differs.
-- Relies on the definitions alone.
use Rattle.model.proofs.Kit.{◌≡◌, refl, sym, ap, ◌∙◌, Bool, true, false, ◌&&◌, not, List, [], ◌∷◌, ℕ, eqb, T}
use Rattle.model.proofs.Kit.{eqb_refl}
use Rattle.model.specs.Bytes.{byte}
use Rattle.model.specs.Figure.{Figure}
use Rattle.model.specs.Filled.{Report, filled_in, met_with, met_kept_at, reported}
use Rattle.model.specs.Calls.{After, RunAnswer, ran, not_run}
use Rattle.model.specs.Bytes.{number, digits, part, splice, zeros, every, implies}
use Rattle.model.specs.Figure.{figure, figure_bytes, same_figure, above, figures}
use Rattle.model.specs.Listing.{array, place_array, place_column, accepted, outcome, entry, proposed, stay, onward}
use Rattle.model.specs.Listing.{finish, ended, larger, pair_above, add, see, move, flag_of, flag_number}
use Rattle.model.specs.Layout.{board_length, row_of, register_at, record_at, fresh_board, read_register, lay_register}
use Rattle.model.specs.Layout.{register_fields, register_value, seen_number}
use Rattle.model.specs.Layout.{best_island, best_figure, seen_of, write_phase, flag_byte, read_record, lay_record}
use Rattle.model.specs.Layout.{fields, record_fields, changed, record_value, writing_of, reading_of}
use Rattle.model.specs.Layout.{of_phase, register_of, record_of, station_of}
use Rattle.model.specs.Sound.{head_sound, register_sound, array_sound, registers_sound, collecting, phase_known}
use Rattle.model.specs.Sound.{position_inside, island_inside}
use Rattle.model.specs.Sound.{best_inside, flag_known, rest_zero, idle_zero, collect_zero, best_island_zero, best_zero}
use Rattle.model.specs.Sound.{seen_known, same_register}
use Rattle.model.specs.Sound.{own_written, own_seen, own_passed, turns_before, present_pass, island_of, most_steps}
use Rattle.model.specs.Sound.{steps_kept, most_met, met_kept, fields_sound, record_sound, sound}
use Rattle.model.specs.Calls.{unless, ranges, laid_ranges, shape_refusal, stations, islands, board_refusal}
use Rattle.model.specs.Calls.{station_refusal, station_at, unless_refused, lay, put_record, put_register, two_refusal}
use Rattle.model.specs.Calls.{not_idle, propose, not_going, access, stepped, step_on, step, ran_from, run}
use Rattle.model.specs.Runs.{after}
use Rattle.tables.specs.Cards.{ShutOut, Row, AllDiffer, rows, moved_by, by, listing, ending, refuses_all}
use Rattle.tables.specs.Cards.{leaves_idle}
use Rattle.tables.specs.Cards.{zero_at, see_all, whole_at_first, spent_at, whole_in_one, old_at, own_island_at, counted}
use Rattle.tables.specs.Cards.{empties_counted, own_largest_at, present_at, propose_from, board_after}
use Rattle.model.proofs.Basics.Tests.{clash, T_true, T_false, and_l, and_r}

unlike : {A : Type 0} (look : A → ℕ) (a b : A) → eqb (look a) (look b) ≡ false → a ≡ b → ⊥
unlike look a b e p =
    clash (sym (T_true (eqb (look a) (look a)) (eqb_refl (look a))) ∙ ap (λ (x : _). eqb (look a) (look x)) p ∙ e)

-- at the byte k of its board each card leaves something else than the step
at : ℕ → After (Report Figure) → ℕ
at k a = byte a.bytes k

same : ℕ → Row → Bool
same k r = eqb (at k (r.card r.station r.board)) (at k (step r.station r.board))

different : (ks : List ℕ) → List Row → Bool
different ks [] = true
different [] (r ∷ rs) = false
different (k ∷ ks) (r ∷ rs) = not (same k r) && different ks rs

all_differ : (ks : List ℕ) (rs : List Row) → T (different ks rs) → AllDiffer rs
unfolding AllDiffer different same
all_differ ks [] t = tt
all_differ [] (r ∷ rs) t = absurd t
all_differ (k ∷ ks) (r ∷ rs) t = (
  unlike (at k) _ _ (T_false (same k r) (and_l (not (same k r)) (different ks rs) t)),
  all_differ ks rs (and_r (not (same k r)) (different ks rs) t),
)

taken : RunAnswer → ℕ
taken (ran s t) = s
taken (not_run k) = 0

pub shut_out : ShutOut
unfolding ShutOut AllDiffer rows at same different taken moved_by by listing ending refuses_all leaves_idle zero_at see_all
    whole_at_first spent_at whole_in_one old_at own_island_at counted empties_counted own_largest_at present_at propose_from
    board_after after number digits part splice zeros every implies figure figure_bytes same_figure above figures array
    place_array place_column accepted outcome entry proposed stay onward finish ended larger pair_above add see move
    flag_of flag_number board_length row_of register_at record_at fresh_board read_register lay_register register_fields
    register_value seen_number best_island best_figure seen_of write_phase flag_byte read_record lay_record fields record_fields
    changed record_value writing_of reading_of of_phase register_of record_of station_of head_sound register_sound array_sound
    registers_sound collecting phase_known position_inside island_inside best_inside flag_known rest_zero idle_zero
    collect_zero best_island_zero best_zero seen_known same_register own_written own_seen own_passed turns_before present_pass
    island_of most_steps steps_kept most_met met_kept filled_in met_with met_kept_at reported fields_sound record_sound sound
    unless ranges shape_refusal stations islands board_refusal station_refusal station_at unless_refused lay put_record
    put_register not_idle propose not_going access stepped step_on step ran_from run laid_ranges two_refusal
shut_out =
    (all_differ (8 ∷ 8 ∷ 60 ∷ 144 ∷ 128 ∷ 152 ∷ 152 ∷ 164 ∷ 178 ∷ 131 ∷ 133 ∷ []) rows tt, unlike taken _ _ refl)
