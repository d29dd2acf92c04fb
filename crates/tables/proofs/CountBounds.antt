-- The table of bounds on the counts: each row by computing the refusal of its boards.
-- Relies on the definitions alone.
use Rattle.model.proofs.Kit.{refl}
use Rattle.model.specs.Bytes.{number, digits, part, splice, zeros, every, implies}
use Rattle.model.specs.Figure.{figure, figure_bytes, same_figure, above, figures}
use Rattle.model.specs.Listing.{array, place_array, entry, pair_above, flag_of, flag_number}
use Rattle.model.specs.Layout.{board_length, row_of, register_at, record_at, fresh_board, read_register, lay_register}
use Rattle.model.specs.Layout.{register_fields, register_value, seen_number, best_island, best_figure, seen_of}
use Rattle.model.specs.Layout.{write_phase, flag_byte, read_record, lay_record, changed, fields, record_fields}
use Rattle.model.specs.Layout.{writing_of, reading_of, of_phase, record_value, register_of, record_of}
use Rattle.model.specs.Sound.{head_sound, register_sound, array_sound, registers_sound, collecting, phase_known}
use Rattle.model.specs.Sound.{position_inside, island_inside, best_inside, flag_known, rest_zero, idle_zero}
use Rattle.model.specs.Sound.{collect_zero, best_island_zero, best_zero, seen_known, same_register, own_written, own_seen}
use Rattle.model.specs.Sound.{own_passed, turns_before, present_pass, island_of, most_steps, steps_kept, most_met}
use Rattle.model.specs.Sound.{met_kept, fields_sound, record_sound, sound}
use Rattle.model.specs.Calls.{unless, ranges, shape_refusal, stations, islands, board_refusal, put_record}
use Rattle.model.specs.Calls.{put_register}
use Rattle.tables.specs.CountBounds.{CountBounds, row, rows, steps_tested, met_tested, has_written, counting}
use Rattle.tables.specs.CountBounds.{rest_set}

pub count_bounds : CountBounds
unfolding CountBounds rows row steps_tested met_tested has_written counting rest_set number digits part splice zeros every
    implies figure figure_bytes same_figure above figures array place_array entry pair_above flag_of flag_number board_length
    row_of register_at record_at fresh_board read_register lay_register register_fields register_value seen_number best_island
    best_figure seen_of write_phase flag_byte read_record lay_record changed fields record_fields writing_of reading_of of_phase
    record_value register_of record_of head_sound register_sound array_sound registers_sound collecting phase_known
    position_inside island_inside best_inside flag_known rest_zero idle_zero collect_zero best_island_zero best_zero seen_known
    same_register own_written own_seen own_passed turns_before present_pass island_of most_steps steps_kept most_met met_kept
    fields_sound record_sound sound unless ranges shape_refusal stations islands board_refusal put_record put_register
count_bounds = (refl, refl, refl)
