-- The shown line: one more station, the whole of it, and the answer at each return.
-- Relies on the laws of the writer of lines and on the model's soundness; the proofs of `show` rely on it.
use Rattle.model.proofs.Kit.{◌≡◌, sym, ap, subst, ◌∙◌, List, [], ◌∷◌, ◌++◌, append_assoc, append-nil, none, some}
use Rattle.model.proofs.Kit.{ℕ, ◌+◌, ◌-◌, ◌≤◌, ◌<◌, leb, le→leb, length, replicate, get_or, length-append, add-one, arith}
use Rattle.model.specs.declared.Record.{Record}
use Rattle.std.specs.Prelude.{Ok, Err}
use Rattle.std.specs.declared.result.Result.{Result}
use Rattle.model.specs.declared.refusal.Refusal as refusals
use Rattle.model.specs.Bytes.{part}
use Rattle.model.specs.Figure.{Figure}
use Rattle.model.specs.Listing.{Station}
use Rattle.model.specs.Layout.{record_at, read_record, record_value, record_of, station_of}
use Rattle.model.specs.Calls.{Refusal, stations, islands, board_refusal, unless}
use Rattle.model.specs.Show.{Shown, text, text_from, statuses, shown_line, shown_as, show}
use Rattle.model.specs.Told.{verdict, number, shown_told}
use Rattle.model.proofs.Board.Values.{sound_station}
use Rattle.model.proofs.Calls.Refusals.{Board, board_of_lem, board_passes, board_first, unless_passes}
use Rattle.shown.specs.Texts.{status_of, island_shown}
use Rattle.shown.proofs.Bounds.{status_bound, good_island, statuses_more, statuses_bound, line_bound}
use Rattle.calls.specs.declared.showing.ShownLine.{ShownLine}
use Rattle.calls.specs.Showing.{open_to}
use Rattle.calls.specs.Shown.{shown_bytes}
use Rattle.model.proofs.Board.Places.{record_inside}
use Rattle.soundness.proofs.Laws.Checked.{turned}
use Rattle.soundness.proofs.Laws.Placing.{head, head_long, n_high, k_high}

module _ (b : List ℕ) (sound : board_refusal b none ≡ none) where
  h : Board b
  h = (board_of_lem b none sound).0

  islands_short : (j : ℕ) → j < stations b → island_shown (station_of (stations b) (islands b) j b) < 100
  islands_short j l =
      omega (
        arith,
        h.shape.islands_high,
        good_island (stations b) (islands b) (station_of (stations b) (islands b) j b)
            (omega (arith, h.shape.islands_low))
            (sound_station (stations b) (islands b) b h.sound_board j l).good,
      )

  open_short : (k : ℕ) → k ≤ stations b → length (open_to k b) ≤ 9 + 448
  unfolding open_to text text_from
  open_short k l =
      simp length-append (omega (
        arith,
        h.shape.stations_high,
        statuses_bound k (stations b) (islands b) b (omega (arith, h.shape.stations_high))
            (λ j q. islands_short j (omega arith)),
      ))

  module _ (j : ℕ) (f : Record) (l : j < get_or b 0 0) (r : record_value f ≡ station_of (stations b) (islands b) j b) where
    -- one more status fits
    pub fits_one : length (open_to j b) + length (status_of (j + 1) (record_value f)) ≤ 512
    unfolding stations
    fits_one = omega (arith, open_short j (omega arith), h.shape.stations_high, bound)
      where
        bound : length (status_of (j + 1) (record_value f)) ≤ 28
        bound =
            status_bound (j + 1) (record_value f) (omega (arith, h.shape.stations_high))
            (subst (λ (z : Station Figure). island_shown z < 100) (sym r) (islands_short j l))

    pub one_more : open_to j b ++ status_of (j + 1) (record_value f) ≡ open_to (j + 1) b
    unfolding open_to
    one_more =
        append_assoc (text "(stations") (statuses j (stations b) (islands b) b) (status_of (j + 1) (record_value f))
        ∙ ap (λ (l : List ℕ). text "(stations" ++ l)
        ((λ k. statuses j (stations b) (islands b) b ++ status_of (add-one j k) (r k))
        ∙ sym (statuses_more j (stations b) (islands b) b)
        ∙ ap (λ (k : ℕ). statuses k (stations b) (islands b) b) (sym (add-one j)))

  pub begins : text "(stations" ≡ open_to 0 b
  unfolding open_to statuses
  begins = sym (append-nil (text "(stations"))

  module _ (line : List ℕ) (e : line ≡ open_to (get_or b 0 0) b) where
    pub closes : length line < 512
    unfolding stations
    closes = omega (arith, ap length e, open_short (stations b) (omega arith))

    pub shown_on : line ++ (41 ∷ []) ≡ shown_line b
    unfolding open_to shown_line stations text text_from
    shown_on = ap (λ (l : List ℕ). l ++ (41 ∷ [])) e

  -- there is room behind the line
  pub line_short : length (shown_line b) ≤ 458
  line_short = line_bound b h.shape.stations_high islands_short

  pub shows : shown_told (Ok (shown_line b)) ≡ show b
  unfolding show shown_told
  shows =
      ap (λ (r : Refusal). shown_as r (shown_line b))
      (sym (board_passes b h (unless (leb (length (shown_line b)) 512) 17 none)
      ∙ unless_passes (leb (length (shown_line b)) 512) 17 none
      (le→leb (length (shown_line b)) 512 (omega (arith, line_short)))))

-- ---- a refused board

pub refused_shown : (b : List ℕ) (v : Result (Unit {0}) refusals.Refusal) (k : refusals.Refusal) → v ≡ Err k
    → verdict v ≡ board_refusal b none → shown_told (Err k) ≡ show b
unfolding show shown_as shown_told
refused_shown b v k e h =
    ap (λ (r : Refusal). shown_as r (shown_line b))
    (sym (board_first b (unless (leb (length (shown_line b)) 512) 17 none) (number k) (turned b v k e h)))

-- the record as the code read it
pub value_at : (b : List ℕ) (j at : ℕ) (f : Record) → at ≡ record_at (get_or b 0 0) (get_or b 1 0) j
    → f ≡ read_record (part at 24 b)
    → record_value f ≡ station_of (stations b) (islands b) j b
unfolding station_of record_of stations islands
value_at b j at f e q = ap record_value q ∙ ap (λ (k : ℕ). record_value (read_record (part k 24 b))) e

pub record_inside_at : (b : List ℕ) (j at : ℕ) → board_refusal b none ≡ none → j < get_or b 0 0
    → at ≡ record_at (get_or b 0 0) (get_or b 1 0) j → at + 24 ≤ length b
record_inside_at b j at s l e = omega (arith, record_inside (get_or b 0 0) (get_or b 1 0) j l, (head b s).len)

-- ---- the line as bytes and a length

module _ (b : List ℕ) (r : Result (List ℕ) refusals.Refusal) (told : shown_told r ≡ show b) where
  pub given_by_value : (l : List ℕ) → r ≡ Ok l → (q : List ℕ) → q ≡ l ++ replicate (512 - length l) 0
      → (n : ℕ) → n ≡ length l → shown_bytes (record { verdict = Ok tt; bytes = q; len = n }) ≡ show b
  unfolding shown_bytes verdict shown_told shown_as
  given_by_value l e q is n counted =
      let s : List ℕ → ℕ → Shown = λ t k. record { refusal = none; line = t; len = k } in
      ap (λ (t : List ℕ). s t n) is
      ∙ ap (λ (k : ℕ). s (l ++ replicate (512 - length l) 0) k) counted
      ∙ sym (ap shown_told e)
      ∙ told

  pub refused_by_value : (k : refusals.Refusal) → r ≡ Err k → (s : ShownLine)
      → shown_bytes s ≡ shown_as (some (number k)) [] → shown_bytes s ≡ show b
  unfolding shown_told
  refused_by_value k e s zeros = zeros ∙ sym (ap shown_told e) ∙ told

-- what each step of a shown line has to show, and of the call
pub ruleset steps = (head_long, n_high, k_high, begins, value_at, record_inside_at, fits_one, one_more, closes, shown_on)

pub ruleset call = (refused_shown, shows)
