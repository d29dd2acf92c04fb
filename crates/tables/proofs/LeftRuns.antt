-- The worked runs of a station left alone: each by computing the run.
-- Relies on the definitions alone.
use Rattle.model.proofs.Kit.{refl, ℕ, zero, suc, ◌<◌, lit<, arith}
use Rattle.model.specs.Bytes.{number, digits, part, splice, zeros, every, implies}
use Rattle.model.specs.Figure.{figure, figure_bytes, same_figure, above, figures}
use Rattle.model.specs.Listing.{array, place_array, place_column, entry, proposed, stay, finish, ended, larger, pair_above}
use Rattle.model.specs.Listing.{add, see, move, flag_of, flag_number}
use Rattle.model.specs.Filled.{filled_in, met_with, met_kept_at, reported}
use Rattle.model.specs.Layout.{board_length, row_of, register_at, record_at, fresh_board, read_register, lay_register}
use Rattle.model.specs.Layout.{register_fields, register_value, seen_number, best_island, best_figure, seen_of, write_phase}
use Rattle.model.specs.Layout.{flag_byte, read_record, lay_record, changed, fields, record_fields, writing_of, reading_of}
use Rattle.model.specs.Layout.{of_phase, record_value, register_of, record_of, station_of}
use Rattle.model.specs.Sound.{head_sound, register_sound, array_sound, registers_sound, collecting, phase_known}
use Rattle.model.specs.Sound.{position_inside, island_inside, best_inside, flag_known, rest_zero, idle_zero, collect_zero}
use Rattle.model.specs.Sound.{best_island_zero, best_zero, seen_known, same_register, own_written, own_seen, own_passed}
use Rattle.model.specs.Sound.{turns_before, present_pass, island_of, most_steps, steps_kept, most_met, met_kept, fields_sound}
use Rattle.model.specs.Sound.{record_sound, sound}
use Rattle.model.specs.Calls.{unless, ranges, shape_refusal, stations, islands, board_refusal, station_refusal, station_at}
use Rattle.model.specs.Calls.{unless_refused, put_record, put_register, two_refusal, not_idle, propose, not_going, access}
use Rattle.model.specs.Calls.{stepped, step_on, step}
use Rattle.model.specs.Runs.{after}
use Rattle.model.specs.FilledRuns.{proposed_from}
use Rattle.model.specs.Listing.{in_m, outcome, onward}
use Rattle.model.specs.AnyList.{ends, until}
use Rattle.model.specs.LeftRunning.{UpTo, RoomAbove}
use Rattle.tables.specs.LeftRuns.{stale, LeftRuns}

pub left_runs : LeftRuns
unfolding stale RoomAbove UpTo until ends outcome onward proposed_from after number digits part splice zeros every
    implies figure figure_bytes same_figure above figures array place_array place_column entry proposed stay finish ended
    larger pair_above add see move flag_of flag_number filled_in met_with met_kept_at reported board_length row_of register_at
    record_at fresh_board read_register lay_register register_fields register_value seen_number best_island best_figure seen_of
    write_phase flag_byte read_record lay_record changed fields record_fields writing_of reading_of of_phase record_value
    register_of record_of station_of head_sound register_sound array_sound registers_sound collecting phase_known
    position_inside island_inside best_inside flag_known rest_zero idle_zero collect_zero best_island_zero best_zero seen_known
    same_register own_written own_seen own_passed turns_before present_pass island_of most_steps steps_kept most_met met_kept
    fields_sound record_sound sound unless ranges shape_refusal stations islands board_refusal station_refusal station_at
    unless_refused put_record put_register two_refusal not_idle propose not_going access stepped step_on step
left_runs = record {
  room = λ j l. go j l;
  two_passes = refl;
  not_yet = refl;
  decides = refl;
  no_room = λ h. omega (arith, h 0 (lit< tt));
  is_spent = refl;
}
  where
    go : (j : ℕ) → j < 3 → UpTo 1 (register_of 3 in_m j (stale 3))
    go zero l = omega arith
    go (suc zero) l = omega arith
    go (suc (suc zero)) l = omega arith
    go (suc (suc (suc j))) l = absurd (omega arith)
