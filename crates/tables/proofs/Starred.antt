-- The starred runs: each row of the table by computing both sides.
-- Relies on the definitions alone.
use Rattle.model.proofs.Kit.{refl}
use Rattle.tables.specs.Starred.{Starred, Holds, rise, rows, edges, sheet, on_saved, as_lines, lay_in}
use Rattle.model.specs.Bytes.{number, digits, part, splice, zeros, every, count, names, implies, on_first, ended_by}
use Rattle.model.specs.Figure.{figure, figure_bytes, same_figure, above, figures}
use Rattle.model.specs.Listing.{array, place_array, place_column, accepted, outcome, entry, proposed, stay, onward}
use Rattle.model.specs.Listing.{finish, ended, larger, pair_above, add, see, move, flag_of, flag_number}
use Rattle.model.specs.Filled.{filled_in, met_with, met_kept_at, reported}
use Rattle.model.specs.Layout.{board_length, row_of, register_at, record_at, fresh_board, read_register, lay_register}
use Rattle.model.specs.Layout.{register_fields, register_value, seen_number}
use Rattle.model.specs.Layout.{best_island, best_figure, seen_of, write_phase, flag_byte, read_record, lay_record}
use Rattle.model.specs.Layout.{fields, record_fields, changed, record_value, writing_of, reading_of}
use Rattle.model.specs.Layout.{of_phase, register_of, record_of, station_of}
use Rattle.model.specs.Sound.{head_sound, register_sound, array_sound, registers_sound, collecting, phase_known}
use Rattle.model.specs.Sound.{position_inside, island_inside}
use Rattle.model.specs.Sound.{best_inside, flag_known, rest_zero, idle_zero, collect_zero, best_island_zero, best_zero}
use Rattle.model.specs.Sound.{seen_known, same_register}
use Rattle.model.specs.Sound.{own_written, own_seen, own_passed, turns_before, present_pass, island_of, most_steps}
use Rattle.model.specs.Sound.{steps_kept, most_met, met_kept, fields_sound, record_sound, sound}
use Rattle.model.specs.Calls.{unless, ranges, laid_ranges, shape_refusal, stations, islands, board_refusal}
use Rattle.model.specs.Calls.{station_refusal, station_at, unless_refused, lay, put_record}
use Rattle.model.specs.Calls.{put_register, two_refusal, not_idle, propose, not_going, access, stepped, step_on, step}
use Rattle.model.specs.Calls.{ran_from, run}
use Rattle.model.specs.Rounds.{in_turn, round_steps, rounds_steps, settled, all_settled, rising, round_known}
use Rattle.model.specs.Rounds.{rounds_known, rounds_refusal, is_decided, decided_on, played_to, rounds}
use Rattle.model.specs.Proposals.{named, each_once, first_fault, pairs_refusal, proposals_refusal, one_by_one}
use Rattle.model.specs.Proposals.{propose_all}
use Rattle.model.specs.Standing.{standing_of}
use Rattle.model.specs.Show.{text_from, text, decimal_in, decimal, signed, worded, standing_text, status, statuses}
use Rattle.model.specs.Show.{shown_line, shown_as, show}
use Rattle.model.specs.Forms.{repeated, expand_item, expand, found, and_then, spaced, digit, digits_from, natural}
use Rattle.model.specs.Forms.{number_in, figure_in}
use Rattle.model.specs.Forms.{behind, times_in, item_in, items_in, same, closing, word_rows, board_row, propose_row}
use Rattle.model.specs.Forms.{steps_row, show_row, list_in, stations_in, round_in, rounds_in, rounds_row, row_in}
use Rattle.model.specs.Forms.{pair_in, pairs_in, single_in, together_in}
use Rattle.model.specs.Forms.{up_to_stop, first_word, word_place, form_in, one, too_deep, or_four, read_line}
use Rattle.model.specs.Sheet.{refused_text, or_refused, laid_text, proposed_text, ran_text, played_text, shown_text}
use Rattle.model.specs.Sheet.{together_text, turned_down}
use Rattle.model.specs.Sheet.{play_board, on_board, play_form, play_reading, play_line, printed, play_sheet}
use Rattle.model.specs.TwoStations.{start}

pub starred : Starred
unfolding Starred Holds rise rows edges sheet as_lines lay_in number digits part splice zeros every implies figure
    figure_bytes same_figure above figures array place_array place_column accepted entry proposed stay onward finish ended
    larger pair_above add see move flag_of flag_number board_length row_of register_at record_at fresh_board read_register
    lay_register register_fields register_value seen_number best_island best_figure seen_of write_phase flag_byte read_record
    lay_record fields record_fields changed record_value writing_of reading_of of_phase register_of record_of station_of
    head_sound register_sound array_sound registers_sound collecting phase_known position_inside island_inside best_inside
    flag_known rest_zero idle_zero collect_zero best_island_zero best_zero seen_known same_register own_written own_seen own_passed
    turns_before present_pass island_of most_steps steps_kept most_met met_kept filled_in met_with met_kept_at reported fields_sound
    record_sound sound unless shape_refusal stations islands board_refusal station_refusal station_at unless_refused lay
    put_record put_register not_idle propose not_going access stepped step_on step ran_from run text_from text decimal_in
    decimal signed worded standing_text standing_of status statuses shown_line shown_as show repeated expand_item expand
    found and_then spaced digit digits_from natural number_in figure_in behind times_in item_in items_in same closing word_rows
    board_row propose_row steps_row show_row rounds_row row_in up_to_stop first_word word_place form_in one too_deep or_four read_line
    refused_text or_refused laid_text proposed_text ran_text shown_text turned_down play_board on_board play_form play_reading
    play_line on_first ended_by printed play_sheet outcome ranges count list_in stations_in round_in rounds_in names in_turn
    round_steps rounds_steps settled all_settled rising round_known rounds_known rounds_refusal is_decided decided_on
    played_to rounds played_text pair_in pairs_in single_in together_in named each_once first_fault pairs_refusal
    proposals_refusal one_by_one propose_all together_text on_saved start laid_ranges two_refusal
starred = (
  (refl, (refl, (refl, (refl, (refl, (refl, (refl, (refl, (refl, (refl, tt)))))))))),
  (refl, (refl, (refl, (refl, (refl, (refl, (refl, tt))))))),
)
