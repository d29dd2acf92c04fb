-- What the reader takes for a form is that form as 01's grammar writes it, in its ranges, and nothing else.
-- Relies on the grammar written out and on its numbers; with Written it says that the reader is the grammar.
use Rattle.model.proofs.Kit.{◌≡◌, refl, sym, ap, subst, ◌∙◌, cond, ◌||◌, not, List, [], ◌∷◌}
use Rattle.model.proofs.Kit.{◌++◌, none, some, Option, ℕ, zero, suc, ◌+◌, ◌≤◌, ◌<◌, eqb-true, eqb, leb}
use Rattle.model.proofs.Kit.{lit<, length, drop, w32, SFits, add-one, arith}
use Rattle.model.specs.Bytes.{byte, Each}
use Rattle.model.specs.Calls.{Refusal, unless}
use Rattle.model.specs.Show.{text_from, text, decimal, signed}
use Rattle.model.specs.Forms.{Items, done, next, Form, board, propose, steps, show, Read, found, and_then}
use Rattle.model.specs.Forms.{spaced, number_in, figure_in, behind, times_in, item_in, items_in}
use Rattle.model.specs.Forms.{same, closing, WordRow, board_row, propose_row, steps_row, show_row, word_rows, row_in}
use Rattle.model.specs.Forms.{up_to_stop, rounds, rounds_in, rounds_row, proposals, pairs_in, single_in, together_in}
use Rattle.model.specs.Forms.{first_word, word_place, form_in, too_deep, Reading, reads, unread, or_four, read_line}
use Rattle.model.specs.Grammar.{WrittenReads}
use Rattle.model.proofs.Basics.Tests.{true-T, cond_case}
use Rattle.model.proofs.Sheet.Readers.{Always, always_map, always_then, always_if}
use Rattle.model.proofs.Sheet.NumbersBack.{Stood, in_front, spaced_stood, number_stood, figure_stood}
use Rattle.model.specs.Grammar.{written_item, written_items, written, AtLeastOne, ItemInRange, ItemsInRange}
use Rattle.model.specs.Grammar.{InRange, written_list, written_round, written_pair, PairInRange}
use Rattle.model.proofs.Sheet.Lists.{Stations, ListStood, station_stood, rounds_stood}
use Rattle.model.proofs.Sheet.Pairs.{pairs_stood, one_at_least}
use Rattle.model.proofs.Sheet.SameTexts.{same_text}
use Rattle.model.proofs.Sheet.Written.{times_regrouped, next_regrouped}

-- ---- items

Station : ℕ → Type 0
Station v = (0 ≤ v) × (v ≤ 99)

Times : ℕ → Type 0
Times k = (1 ≤ k) × (k ≤ 99999)

behind_stood : (w l : List ℕ) → Always (λ (k : List ℕ). l ≡ w ++ k) (behind w l)
unfolding behind Always
behind_stood [] l = refl
behind_stood (w ∷ ws) [] = tt
behind_stood (w ∷ ws) (b ∷ l) =
    always_if (λ (k : List ℕ). b ∷ l ≡ w ∷ (ws ++ k)) (eqb w b) (behind ws l)
    (λ e. always_map (λ (k : List ℕ). l ≡ ws ++ k) (λ (k : List ℕ). b ∷ l ≡ w ∷ (ws ++ k)) (behind ws l)
    (λ k h. λ j. sym (eqb-true w b e) j ∷ h j) (behind_stood ws l))

-- what `times_in` gives: the word, k, and a space next
TimesStood : List ℕ → Read ℕ → Type 0
TimesStood l r = (l ≡ text "(times " ++ (decimal r.value ++ r.rest)) × Times r.value × (byte r.rest 0 ≡ 32)

times_stood : (l : List ℕ) → Always (TimesStood l) (times_in l)
unfolding times_in TimesStood Times Stood Always found
times_stood l = go (behind (text "(times ") l) (behind_stood (text "(times ") l)
  where
    go : (o : Option (List ℕ)) → Always (λ (k : List ℕ). l ≡ text "(times " ++ k) o
        → Always (TimesStood l) (elim o [
          | none ↦ none
          | some rest ↦ and_then (number_in 1 99999 rest) (λ k rest. cond (eqb (byte rest 0) 32) (found k rest) none)
        ])
    go none h = tt
    go (some k) h =
        always_then (Stood decimal Times k) (TimesStood l) (number_in 1 99999 k) _ (number_stood 1 99999 (lit< tt) k)
        (λ r q. always_if (TimesStood l) (eqb (byte r.rest 0) 32) (found r.value r.rest)
        (λ e. (h ∙ ap (λ (x : List ℕ). text "(times " ++ x) q.0, q.1, eqb-true (byte r.rest 0) 32 e)))

-- items that begin with a space are not none
at_least_one : (is : Items) (rest : List ℕ) → byte (written_items is ++ (41 ∷ rest)) 0 ≡ 32 → AtLeastOne is
unfolding AtLeastOne written_items
at_least_one done rest e = absurd (let z : ◌≡◌ {A = ℕ} 41 32 = e in omega arith)
at_least_one (next i is) rest e = tt

ItemsStood : List ℕ → Read Items → Type 0
ItemsStood l r = (l ≡ written_items r.value ++ (41 ∷ r.rest)) × ItemsInRange r.value

module _ (fuel : ℕ) (inner : (l : List ℕ) → Always (ItemsStood l) (items_in fuel l)) where
  item_step : (l : List ℕ) → Always (Stood written_item ItemInRange l) (item_in (suc fuel) l)
  unfolding item_in Stood ItemsStood TimesStood Times Station ItemInRange written_item found Always
  item_step l =
      cond_case (Always (Stood written_item ItemInRange l)) (eqb (byte l 0) 40) _ _
      (λ e. always_then (TimesStood l) (Stood written_item ItemInRange l) (times_in l) _ (times_stood l)
      (λ r t. always_then (ItemsStood r.rest) (Stood written_item ItemInRange l) (items_in fuel r.rest) _
      (inner r.rest)
      (λ s h. (
        t.0 ∙ ap (λ (x : List ℕ). text "(times " ++ (decimal r.value ++ x)) h.0
            ∙ sym (times_regrouped r.value s.value s.rest),
        (t.1.0, t.1.1, at_least_one s.value s.rest (ap (λ (x : List ℕ). byte x 0) (sym h.0) ∙ t.2), h.1),
      ))))
      (λ e. always_then (Stood decimal Station l) (Stood written_item ItemInRange l) (number_in 0 99 l) _
      (number_stood 0 99 (lit< tt) l) (λ r h. (h.0, h.1.1)))

  items_step : ((l : List ℕ) → Always (Stood written_item ItemInRange l) (item_in fuel l)) → (l : List ℕ)
      → Always (ItemsStood l) (items_in (suc fuel) l)
  unfolding items_in Stood ItemsStood ItemsInRange written_items found Always
  items_step each l =
      cond_case (Always (ItemsStood l)) (eqb (byte l 0) 41) _ _
      (λ e. (in_front l 41 (lit< tt) (eqb-true (byte l 0) 41 e), tt))
      (λ e. always_then (Stood (λ i. 32 ∷ written_item i) ItemInRange l) (ItemsStood l) (spaced (λ k. item_in fuel k) l) _
      (spaced_stood written_item ItemInRange (λ k. item_in fuel k) l each)
      (λ r t. always_then (ItemsStood r.rest) (ItemsStood l) (items_in fuel r.rest) _ (inner r.rest)
      (λ s h. (
        t.0 ∙ ap (λ (x : List ℕ). 32 ∷ (written_item r.value ++ x)) h.0
            ∙ sym (next_regrouped r.value s.value (41 ∷ s.rest)),
        (t.1, h.1),
      ))))

record BothStood (fuel : ℕ) : Type 0 where
  item : (l : List ℕ) → Always (Stood written_item ItemInRange l) (item_in fuel l)
  items : (l : List ℕ) → Always (ItemsStood l) (items_in fuel l)

both_stood : (fuel : ℕ) → BothStood fuel
unfolding item_in Always
both_stood zero = record { item = λ l. tt; items = λ l. tt }
both_stood (suc fuel) =
    let h = both_stood fuel in record { item = item_step fuel h.items; items = items_step fuel h.items h.item }

-- ---- forms

-- a row that is found has the word, and what holds of each
pub row_stood : {A : Type 0} (P : WordRow A → Type 0) (rs : List (WordRow A)) (w : List ℕ) → Each P rs
    → Always (λ (r : WordRow A). (w ≡ r.word) × P r) (row_in rs w)
unfolding row_in Each Always
row_stood P [] w h = tt
row_stood {A = A} P (r ∷ rs) w h =
    cond_case (Always (λ (r : WordRow A). (w ≡ r.word) × P r)) (same w r.word) (some r) (row_in rs w)
    (λ e. (same_text w r.word (true-T _ e), h.0)) (λ e. row_stood P rs w h.1)

pub up_to_splits : (l : List ℕ) → l ≡ up_to_stop l ++ drop (length (up_to_stop l)) l
unfolding up_to_stop
up_to_splits [] = refl
up_to_splits (b ∷ l) =
    cond_case (λ (w : List ℕ). b ∷ l ≡ w ++ drop (length w) (b ∷ l)) (eqb b 32 || eqb b 40 || eqb b 41) []
    (b ∷ up_to_stop l) (λ e. refl)
    (λ e. ap (λ (x : List ℕ). b ∷ x) (up_to_splits l))

-- a word in front stands behind an opening bracket
pub first_splits : (l w : List ℕ) → 0 < length w → first_word l ≡ w → l ≡ 40 ∷ (w ++ drop (length w + 1) l)
unfolding first_word
first_splits [] w h = λ e. absurd (omega (arith, ap length e))
first_splits (b ∷ l) w h =
    cond_case (λ (x : List ℕ). x ≡ w → b ∷ l ≡ 40 ∷ (w ++ drop (length w + 1) (b ∷ l))) (eqb b 40) (up_to_stop l) []
    (λ e q. opened (eqb-true b 40 e) q)
    (λ e q. absurd (omega (arith, ap length q)))
  where
    opened : b ≡ 40 → up_to_stop l ≡ w → b ∷ l ≡ 40 ∷ (w ++ drop (length w + 1) (b ∷ l))
    opened e q = rw add-one (λ j. e j ∷ (up_to_splits l ∙ ap (λ (x : List ℕ). x ++ drop (length x) l) q) j)

-- the line is the form as it is written
FormStood : List ℕ → Form → Type 0
FormStood l f = (l ≡ written f) × InRange f

-- the closing bracket, and nothing behind it
pub closes : {A : Type 0} (P : A → Type 0) (a : A) (k : List ℕ) → (k ≡ text ")" → P a) → Always P (closing a k)
unfolding closing Always
closes P a k h = always_if P (same k (text ")")) (some a) (λ e. h (same_text k (text ")") (true-T _ e)))

-- two things behind spaces, and the closing bracket
two_stood : {A B : Type 0} (W : A → List ℕ) (P : A → Type 0) (U : B → List ℕ) (Q : B → Type 0)
    (one : List ℕ → Option (Read A))
    (two : List ℕ → Option (Read B)) (w : List ℕ) (form : A → B → Form) → ((k : List ℕ) → Always (Stood W P k) (one k))
    → ((k : List ℕ) → Always (Stood U Q k) (two k))
    → ((a : A) (b : B) → 40 ∷ (w ++ (32 ∷ (W a ++ (32 ∷ (U b ++ text ")"))))) ≡ written (form a b))
    → ((a : A) (b : B) → P a → Q b → InRange (form a b)) → (k : List ℕ)
    → Always (FormStood (40 ∷ (w ++ k)))
    (and_then (spaced one k) λ a l. and_then (spaced two l) λ b rest. closing (form a b) rest)
unfolding FormStood Stood
two_stood W P U Q one two w form h l is in_range k =
    always_then (Stood (λ a. 32 ∷ W a) P k) (FormStood (40 ∷ (w ++ k))) (spaced one k) _ (spaced_stood W P one k h)
    (λ r g. always_then (Stood (λ b. 32 ∷ U b) Q r.rest) (FormStood (40 ∷ (w ++ k))) (spaced two r.rest) _
    (spaced_stood U Q two r.rest l)
    (λ s f. closes (FormStood (40 ∷ (w ++ k))) (form r.value s.value) s.rest
    (λ e. (
      ap (λ (x : List ℕ). 40 ∷ (w ++ x))
          (g.0 ∙ ap (λ (x : List ℕ). 32 ∷ (W r.value ++ x))
          (f.0 ∙ ap (λ (x : List ℕ). 32 ∷ (U s.value ++ x)) e))
          ∙ is r.value s.value,
      in_range r.value s.value g.1 f.1,
    ))))

-- a row's word is some, and what its reader takes stands behind it as the form is written
unfoldable RowStood : WordRow Form → Type 0
RowStood r = (0 < length r.word) × ((k : List ℕ) → Always (FormStood (40 ∷ (r.word ++ k))) (r.reader k))

board_stood : RowStood board_row
unfolding RowStood board_row written InRange Station text text_from
board_stood = (
  omega arith,
  two_stood decimal Station decimal Station (number_in 0 99) (number_in 0 99) (text "board") board
      (number_stood 0 99 (lit< tt))
      (number_stood 0 99 (lit< tt)) (λ n K. refl) (λ n K h l. (h.1, l.1)),
)

Proposes : List ℕ → Form → Type 0
Proposes k = FormStood (40 ∷ (text "propose" ++ k))

single_stood : (k : List ℕ) → Always (Proposes k) (single_in k)
unfolding Proposes single_in written InRange Station text text_from
single_stood =
    two_stood decimal Station signed (SFits w32) (number_in 0 99) figure_in (text "propose") propose
    (number_stood 0 99 (lit< tt)) figure_stood (λ i v. refl) (λ i v h l. (h.1, l))

together_stood : (k : List ℕ) → byte k 1 ≡ 40 → Always (Proposes k) (together_in k)
unfolding Proposes together_in FormStood ListStood written InRange text text_from Always
together_stood k b =
    always_then (ListStood written_pair PairInRange k) (Proposes k) (pairs_in k) _ (pairs_stood k)
    (λ r h. always_if (Proposes k) (same r.rest []) (some (proposals r.value))
    (λ e. let is : k ≡ written_list written_pair r.value ++ (41 ∷ [])
    = h.0
    ∙ ap (λ (x : List ℕ). written_list written_pair r.value ++ (41 ∷ x)) (same_text r.rest [] (true-T _ e)) in (
      ap (λ (x : List ℕ). 40 ∷ (text "propose" ++ x)) is,
      (one_at_least r.value (ap (λ (x : List ℕ). byte x 1) (sym is) ∙ b), h.1),
    )))

propose_stood : RowStood propose_row
unfolding RowStood propose_row Proposes text text_from
propose_stood = (
  omega arith,
  λ k. cond_case (Always (Proposes k)) (eqb (byte k 1) 40) (together_in k) (single_in k)
      (λ e. together_stood k (eqb-true (byte k 1) 40 e)) (λ e. single_stood k),
)

steps_stood : RowStood steps_row
unfolding RowStood steps_row FormStood written InRange ItemsStood text text_from Always
steps_stood = (
  omega arith,
  λ k. always_then (ItemsStood k) (FormStood (40 ∷ (text "steps" ++ k))) (items_in (length k + 1) k) _
      ((both_stood (length k + 1)).items k)
      (λ r h. always_if (FormStood (40 ∷ (text "steps" ++ k))) (same r.rest []) (some (steps r.value))
      (λ e. (
        ap (λ (x : List ℕ). 40 ∷ (text "steps" ++ x))
            (h.0 ∙ ap (λ (x : List ℕ). written_items r.value ++ (41 ∷ x)) (same_text r.rest [] (true-T _ e))),
        h.1,
      ))),
)

show_stood : RowStood show_row
unfolding RowStood show_row FormStood written InRange text text_from
show_stood = (
  omega arith,
  λ k. closes (FormStood (40 ∷ (text "show" ++ k))) show k
      (λ e. (ap (λ (x : List ℕ). 40 ∷ (text "show" ++ x)) e, tt)),
)

rounds_row_stood : RowStood rounds_row
unfolding RowStood rounds_row FormStood Stood ListStood written InRange text text_from Always
rounds_row_stood = (
  omega arith,
  λ k. always_then (Stood (λ v. 32 ∷ decimal v) (λ v. v ≤ 99) k) (FormStood (40 ∷ (text "rounds" ++ k)))
      (spaced (number_in 0 99) k) _
      (spaced_stood decimal (λ v. v ≤ 99) (number_in 0 99) k station_stood)
      (λ r g. always_then (ListStood written_round Stations r.rest) (FormStood (40 ∷ (text "rounds" ++ k)))
      (rounds_in r.rest) _ (rounds_stood r.rest)
      (λ s h. always_if (FormStood (40 ∷ (text "rounds" ++ k))) (same s.rest [])
      (some (rounds r.value s.value))
      (λ e. (
        ap (λ (x : List ℕ). 40 ∷ (text "rounds" ++ x))
            (g.0 ∙ ap (λ (x : List ℕ). 32 ∷ (decimal r.value ++ x))
            (h.0 ∙ ap (λ (x : List ℕ). written_list written_round s.value ++ (41 ∷ x))
            (same_text s.rest [] (true-T _ e)))),
        (g.1, h.1),
      )))),
)

rows_stood : Each RowStood word_rows
unfolding Each word_rows
rows_stood = (board_stood, (propose_stood, (steps_stood, (show_stood, (rounds_row_stood, tt)))))

form_stood : (l : List ℕ) → Always (FormStood l) (form_in l)
unfolding form_in word_place RowStood Always
form_stood l = go (row_in word_rows (first_word l)) (row_stood RowStood word_rows (first_word l) rows_stood)
  where
    go : (o : Option (WordRow Form)) → Always (λ (r : WordRow Form). (first_word l ≡ r.word) × RowStood r) o
        → Always (FormStood l) (elim o [ none ↦ none | some r ↦ r.reader (drop (length (first_word l) + 1) l) ])
    go none h = tt
    go (some r) h =
        subst (λ (n : ℕ). Always (FormStood l) (r.reader (drop (n + 1) l))) (ap length (sym h.0))
        (subst (λ (x : List ℕ). Always (FormStood x) (r.reader (drop (length r.word + 1) l)))
        (sym (first_splits l r.word h.1.0 h.0)) (h.1.1 (drop (length r.word + 1) l)))

-- The reader takes nothing for a form but what the grammar writes for it, in its ranges.
pub written_reads : WrittenReads
unfolding WrittenReads Always FormStood
written_reads l f e = subst (Always (FormStood l)) e (form_stood l)

-- ---- lines

-- So a line that is read is a written form, and its numbers are in their ranges.
unfoldable pub LineStood : List ℕ → Reading Form → Type 0
LineStood l (reads f) = (l ≡ written f) × InRange f
LineStood l (unread k) = Unit {0}

or_four_stood : (l : List ℕ) (o : Option Form) → Always (FormStood l) o → LineStood l (or_four o)
unfolding or_four LineStood FormStood Always
or_four_stood l none h = tt
or_four_stood l (some f) h = h

pub line_stood : (l : List ℕ) → LineStood l (read_line l)
unfolding read_line LineStood
line_stood l = go (unless (leb (length l) 255) 2 (unless (not (too_deep 0 0 l)) 3 none))
  where
    go : (r : Refusal) → LineStood l (elim r [ none ↦ or_four (form_in l) | some k ↦ unread k ])
    go none = or_four_stood l (form_in l) (form_stood l)
    go (some k) = tt
