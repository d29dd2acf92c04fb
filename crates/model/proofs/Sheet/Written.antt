-- The reader finds in a form written out by 01's grammar that form.
-- Relies on the grammar and on the reading of its numbers; WrittenBack has the other direction.
use Rattle.model.proofs.Kit.{◌≡◌, refl, ap, ◌∙◌, false, List, [], ◌∷◌, ◌++◌, append_assoc, some, ℕ, zero, suc}
use Rattle.model.proofs.Kit.{◌+◌, ◌≤◌, ◌<◌, lit<, length, length-append, arith}
use Rattle.model.specs.Bytes.{byte}
use Rattle.model.specs.Show.{text_from, text, decimal_in, decimal, signed}
use Rattle.model.specs.Forms.{Item, station, times, Items, done, next, board, propose, steps, show, found, spaced}
use Rattle.model.specs.Forms.{digit, rounds, rounds_row, proposals, single_in}
use Rattle.model.specs.Forms.{behind, times_in, item_in, items_in, same, closing, board_row, propose_row, steps_row}
use Rattle.model.specs.Forms.{show_row, word_rows, row_in, up_to_stop, first_word, word_place, form_in}
use Rattle.model.specs.Grammar.{written_item, written_items, written, AtLeastOne, ItemInRange, ItemsInRange}
use Rattle.model.specs.Grammar.{written_round, written_pair, written_list, InRange, ReadsWritten}
use Rattle.model.proofs.Sheet.Numbers.{Stops, then_found, digit_not, decimal_begins, number_decimal}
use Rattle.model.proofs.Sheet.Numbers.{figure_signed}
use Rattle.model.proofs.Sheet.Lists.{station_read, bracket_stops, space_stops, list_stops, rounds_read}
use Rattle.model.proofs.Sheet.Pairs.{together_read}

-- ---- what is read of a written form

-- items end at a space or at their closing bracket
items_stop : (is : Items) (rest : List ℕ) → Stops (written_items is ++ (41 ∷ rest))
unfolding written_items text text_from
items_stop done rest = bracket_stops rest
items_stop (next i is) rest = space_stops _

times_read : (k : ℕ) → 1 ≤ k → k ≤ 99999 → (is : Items) → AtLeastOne is → (rest : List ℕ)
    → times_in (text "(times " ++ (decimal k ++ (written_items is ++ (41 ∷ rest)))) ≡ found k
    (written_items is ++ (41 ∷ rest))
unfolding times_in behind text text_from AtLeastOne written_items
times_read k h l done o rest = absurd o
times_read k h l (next i is) o rest =
    then_found _ (number_decimal 1 99999 k h l (lit< tt) _ (items_stop (next i is) rest))

-- one item, given that the items inside it are read

not_bracket : digit 40 ≡ false
unfolding digit
not_bracket = refl

station_item : (i fuel : ℕ) → i ≤ 99 → (rest : List ℕ) → Stops rest
    → item_in (suc fuel) (decimal i ++ rest) ≡ found (station i) rest
unfolding item_in
station_item i fuel h rest s =
    rw (digit_not (byte (decimal i ++ rest) 0) 40 (decimal_begins i rest) not_bracket)
    (then_found _ (station_read i h rest s))

pub times_regrouped : (k : ℕ) (is : Items) (rest : List ℕ)
    → written_item (times k is) ++ rest ≡ text "(times " ++ (decimal k ++ (written_items is ++ (41 ∷ rest)))
unfolding written_item text text_from
times_regrouped k is rest = simp append_assoc

pub next_regrouped : (i : Item) (is : Items) (rest : List ℕ)
    → written_items (next i is) ++ rest ≡ 32 ∷ (written_item i ++ (written_items is ++ rest))
unfolding written_item text text_from
next_regrouped i is rest = simp append_assoc

times_item : (k : ℕ) (is : Items) (fuel : ℕ) → 1 ≤ k → k ≤ 99999 → AtLeastOne is → (rest : List ℕ)
    → items_in fuel (written_items is ++ (41 ∷ rest)) ≡ found is rest
    → item_in (suc fuel) (written_item (times k is) ++ rest) ≡ found (times k is) rest
unfolding item_in text text_from
times_item k is fuel h l o rest e =
    ap (item_in (suc fuel)) (times_regrouped k is rest) ∙ then_found _ (times_read k h l is o rest) ∙ then_found _ e

done_read : (fuel : ℕ) (rest : List ℕ) → items_in (suc fuel) (41 ∷ rest) ≡ found done rest
unfolding items_in
done_read fuel rest = refl

next_item : (i : Item) (is : Items) (fuel : ℕ) (more rest : List ℕ) → item_in fuel (written_item i ++ more) ≡ found i more
    → items_in fuel more ≡ found is rest → items_in (suc fuel) (32 ∷ (written_item i ++ more)) ≡ found (next i is) rest
unfolding items_in spaced
next_item i is fuel more rest e f = then_found _ e ∙ then_found _ f

-- lengths bound the fuel

one_at_least : (i : ℕ) → 1 ≤ length (decimal i)
unfolding decimal decimal_in
one_at_least i = simp length-append (omega arith)

times_length : (k : ℕ) (is : Items) → length (written_items is) + 1 < length (written_item (times k is))
unfolding written_item text text_from
times_length k is = simp length-append (omega arith)

next_length : (i : Item) (is : Items)
    → length (written_items (next i is)) ≡ suc (length (written_item i) + length (written_items is))
unfolding written_items text text_from
next_length i is = simp length-append

mutual
  unfolding written_item ItemInRange text text_from

  item_read : (i : Item) (fuel : ℕ) → length (written_item i) ≤ fuel → ItemInRange i → (rest : List ℕ) → Stops rest
      → item_in fuel (written_item i ++ rest) ≡ found i rest
  item_read (station i) zero f h rest s = absurd (omega (arith, one_at_least i))
  item_read (station i) (suc fuel) f h rest s = station_item i fuel h rest s
  item_read (times k is) zero f h rest s = absurd (omega (arith, times_length k is))
  item_read (times k is) (suc fuel) f h rest s =
      times_item k is fuel h.0 h.1 h.2 rest (items_read is fuel (omega (arith, times_length k is)) h.3 rest)

  pub items_read : (is : Items) (fuel : ℕ) → length (written_items is) < fuel → ItemsInRange is → (rest : List ℕ)
      → items_in fuel (written_items is ++ (41 ∷ rest)) ≡ found is rest
  items_read done zero f h rest = absurd (omega arith)
  items_read done (suc fuel) f h rest = done_read fuel rest
  items_read (next i is) zero f h rest = absurd (omega arith)
  items_read (next i is) (suc fuel) f h rest =
      ap (items_in (suc fuel)) (next_regrouped i is (41 ∷ rest))
      ∙ next_item i is fuel (written_items is ++ (41 ∷ rest)) rest
      (item_read i fuel (omega (arith, next_length i is)) h.0 _ (items_stop is rest))
      (items_read is fuel (omega (arith, next_length i is)) h.1 rest)

steps_read_lem : (is : Items) → ItemsInRange is → steps_row.reader (written_items is ++ (41 ∷ [])) ≡ some (steps is)
unfolding steps_row same
steps_read_lem is h = then_found _ (items_read is _ (omega (arith, length-append (written_items is) (41 ∷ []))) h [])

-- The reader finds in a written form that form.
pub reads_written : ReadsWritten
unfolding ReadsWritten written InRange text text_from form_in first_word word_place up_to_stop row_in word_rows board_row
    propose_row
    steps_row show_row rounds_row same spaced closing written_items written_list written_pair single_in
reads_written (board n K) h =
    then_found _ (station_read n h.0 _ (space_stops _)) ∙ then_found _ (station_read K h.1 _ (bracket_stops []))
reads_written (propose i v) h =
    rw (digit_not (byte (decimal i ++ (32 ∷ (signed v ++ (41 ∷ [])))) 0) 40 (decimal_begins i _) not_bracket)
    (then_found _ (station_read i h.0 _ (space_stops _))
    ∙ then_found _ (figure_signed v h.1 _ (bracket_stops [])))
reads_written (steps done) h = steps_read_lem done h
reads_written (steps (next i is)) h = steps_read_lem (next i is) h
reads_written show h = refl
reads_written (rounds k rs) h =
    then_found _ (station_read k h.0 _ (list_stops written_round rs [])) ∙ then_found _ (rounds_read rs h.1 [])
reads_written (proposals []) h = absurd (omega (arith, h.0))
reads_written (proposals (p ∷ ps)) h = together_read (p ∷ ps) h.1
