-- The worked runs of five of 02: each by computing both sides.
-- Relies on the definitions alone.
use Rattle.model.proofs.Kit.{refl}
use Rattle.model.specs.Bytes.{number, digits, part, splice, zeros, every, implies}
use Rattle.model.specs.Figure.{figure, figure_bytes, same_figure, above, figures}
use Rattle.model.specs.Listing.{array, place_array, place_column, entry, proposed, stay, finish, ended, larger}
use Rattle.model.specs.Listing.{pair_above, add, see, move, flag_of, flag_number}
use Rattle.model.specs.Filled.{filled_in, met_with, met_kept_at, reported}
use Rattle.model.specs.Layout.{board_length, row_of, register_at, record_at, fresh_board, read_register, lay_register}
use Rattle.model.specs.Layout.{register_fields, register_value, seen_number, best_island, best_figure, seen_of}
use Rattle.model.specs.Layout.{write_phase, flag_byte, read_record, lay_record, changed, fields, record_fields}
use Rattle.model.specs.Layout.{writing_of, reading_of, of_phase, record_value, register_of, record_of, station_of}
use Rattle.model.specs.Sound.{head_sound, register_sound, array_sound, registers_sound, collecting, phase_known}
use Rattle.model.specs.Sound.{position_inside, island_inside, best_inside, flag_known, rest_zero, idle_zero}
use Rattle.model.specs.Sound.{collect_zero, best_island_zero, best_zero, seen_known, same_register, own_written, own_seen}
use Rattle.model.specs.Sound.{own_passed, turns_before, present_pass, island_of, most_steps, steps_kept, most_met}
use Rattle.model.specs.Sound.{met_kept, fields_sound, record_sound, sound}
use Rattle.model.specs.Calls.{unless, ranges, shape_refusal, stations, islands, board_refusal, station_refusal}
use Rattle.model.specs.Calls.{station_at, unless_refused, put_record, put_register, two_refusal, not_idle, propose}
use Rattle.model.specs.Calls.{not_going, access, stepped, step_on, step}
use Rattle.model.specs.Runs.{after}
use Rattle.model.specs.WholeSteps.{registers_from}
use Rattle.model.specs.FilledCount.{filled_among}
use Rattle.model.specs.FilledRuns.{proposed_from, reports, one_turn, FilledRuns}

pub filled_runs : FilledRuns
unfolding proposed_from reports one_turn after registers_from filled_among number digits part splice zeros every implies
    figure figure_bytes same_figure above figures array place_array place_column entry proposed stay finish ended larger
    pair_above add see move flag_of flag_number filled_in met_with met_kept_at reported board_length row_of register_at record_at
    fresh_board read_register lay_register register_fields register_value seen_number best_island best_figure seen_of write_phase
    flag_byte read_record lay_record changed fields record_fields writing_of reading_of of_phase record_value register_of
    record_of station_of head_sound register_sound array_sound registers_sound collecting phase_known position_inside
    island_inside best_inside flag_known rest_zero idle_zero collect_zero best_island_zero best_zero seen_known same_register
    own_written own_seen own_passed turns_before present_pass island_of most_steps steps_kept most_met met_kept fields_sound
    record_sound sound unless ranges shape_refusal stations islands board_refusal station_refusal station_at unless_refused
    put_record put_register two_refusal not_idle propose not_going access stepped step_on step
filled_runs = record { sheet = refl; between = refl; three_filled = refl; alone = refl }
