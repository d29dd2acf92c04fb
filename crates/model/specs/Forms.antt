-- A line of a run sheet: 01's grammar as a reader that computes, and refusals 2 to 4.
-- Relies on bytes, figures, pairs and texts; the sheet relies on it. Nothing here knows the board.
use Rattle.std.specs.Prelude.{Bool, true, false, not, cond, ◌&&◌, ◌||◌, List, [], ◌∷◌, ◌++◌, ℕ, zero, suc, ◌+◌, ◌*◌}
use Rattle.std.specs.Prelude.{◌-◌, eqb, leb, ltb, length, drop, pos, negsuc}
use Rattle.std.proofs.Math.Option.{Option, none, some}
use Rattle.model.specs.Bytes.{byte}
use Rattle.model.specs.Figure.{Figure}
use Rattle.model.specs.Calls.{unless}
use Rattle.model.specs.Proposals.{Proposal}
use Rattle.model.specs.Show.{text}

-- "An item is a station number or `(times k item ..)`, which holds at least one item again"
mutual
  pub data Item : Type 0 where
    station : (i : ℕ) → Item
    times : (k : ℕ) → Items → Item

  pub data Items : Type 0 where
    done : Items
    next : Item → Items → Items

pub data Form : Type 0 where
  board : (n K : ℕ) → Form
  propose : (i : ℕ) → Figure → Form
  steps : Items → Form
  show : Form
  -- 02: "`(rounds k (2) () ..)` names the stations suspended in each round"
  rounds : (k : ℕ) → List (List ℕ) → Form
  -- and "we enter figures in one line, `(propose (1 -40) (2 15))`"
  proposals : List Proposal → Form

unfoldable pub repeated : (k : ℕ) → List ℕ → List ℕ
repeated zero l = []
repeated (suc k) l = l ++ repeated k l

-- the stations that items step, in order
unfoldable mutual
  pub expand_item : Item → List ℕ
  expand_item (station i) = i ∷ []
  expand_item (times k is) = repeated k (expand is)

  pub expand : Items → List ℕ
  expand done = []
  expand (next i is) = expand_item i ++ expand is

-- What was read from the front of some bytes, and the bytes that follow it.
pub record Read (A : Type 0) : Type 0 where
  pub value : A
  pub rest : List ℕ

module _ {A : Type 0} where
  unfoldable pub found : A → List ℕ → Option (Read A)
  found a l = some (record { value = a; rest = l })

  unfoldable pub and_then : {B : Type 0} → Option (Read A) → (A → List ℕ → Option B) → Option B
  and_then none go = none
  and_then (some r) go = go r.value r.rest

  -- "single spaces, no others"
  unfoldable pub spaced : (List ℕ → Option (Read A)) → List ℕ → Option (Read A)
  spaced read l = cond (eqb (byte l 0) 32) (read (drop 1 l)) none

-- ---- numbers

unfoldable pub digit : ℕ → Bool
digit b = leb 48 b && leb b 57

-- the digits in front, behind those of the number v
unfoldable pub digits_from : (v : ℕ) → List ℕ → Read ℕ
digits_from v [] = record { value = v; rest = [] }
digits_from v (b ∷ l) = cond (digit b) (digits_from (10 * v + (b - 48)) l) (record { value = v; rest = b ∷ l })

-- "Numbers have no plus, no leading zero": nothing that follows a 0 belongs to it
unfoldable pub natural : List ℕ → Option (Read ℕ)
natural [] = none
natural (b ∷ l) = cond (eqb b 48) (found 0 l) (cond (digit b) (some (digits_from (b - 48) l)) none)

unfoldable pub number_in : (low high : ℕ) → List ℕ → Option (Read ℕ)
number_in low high l = and_then (natural l) λ v rest. cond (leb low v && leb v high) (found v rest) none

-- "A figure is a signed 32-bit whole number; its full width is allowed"; "no −0"
unfoldable pub figure_in : List ℕ → Option (Read Figure)
figure_in l =
    cond (eqb (byte l 0) 45) (and_then (number_in 1 2147483648 (drop 1 l)) λ v rest. found (negsuc (v - 1)) rest)
    (and_then (number_in 0 2147483647 l) λ v rest. found (pos v) rest)

-- ---- texts

-- two texts are the same
unfoldable pub same : List ℕ → List ℕ → Bool
same [] [] = true
same [] (b ∷ l) = false
same (a ∷ k) [] = false
same (a ∷ k) (b ∷ l) = eqb a b && same k l

-- the text w in front, and what follows it
unfoldable pub behind : (w : List ℕ) → List ℕ → Option (List ℕ)
behind [] l = some l
behind (w ∷ ws) [] = none
behind (w ∷ ws) (b ∷ l) = cond (eqb w b) (behind ws l) none

-- ---- items: fuel bounds the nesting and the number of items, and the bytes left are enough of it

-- "`(times k item ..)`, which holds at least one item again, k from 1 to 99,999": k, and from the space of the first
-- item on
unfoldable pub times_in : List ℕ → Option (Read ℕ)
times_in l = elim (behind (text "(times ") l) [ none ↦ none | some rest ↦ and_then (number_in 1 99999 rest) space_after ]
  where
    space_after : ℕ → List ℕ → Option (Read ℕ)
    space_after k rest = cond (eqb (byte rest 0) 32) (found k rest) none

unfoldable mutual
  pub item_in : (fuel : ℕ) → List ℕ → Option (Read Item)
  item_in zero l = none
  item_in (suc fuel) l =
      cond (eqb (byte l 0) 40)
      (and_then (times_in l) λ k inner. and_then (items_in fuel inner) λ is rest. found (times k is) rest)
      (and_then (number_in 0 99 l) λ i rest. found (station i) rest)

  -- items, each behind a space, up to the closing bracket
  pub items_in : (fuel : ℕ) → List ℕ → Option (Read Items)
  items_in zero l = none
  items_in (suc fuel) l =
      cond (eqb (byte l 0) 41) (found done (drop 1 l))
      (and_then (spaced (λ k. item_in fuel k) l) λ i more. and_then (items_in fuel more) λ is rest. found (next i is) rest)

-- ---- lists of one kind of thing, rounds and pairs

-- things, each behind a space, up to the closing bracket; fuel bounds their number
unfoldable pub list_in : {A : Type 0} → (List ℕ → Option (Read A)) → (fuel : ℕ) → List ℕ → Option (Read (List A))
list_in one zero l = none
list_in one (suc fuel) l =
    cond (eqb (byte l 0) 41) (found [] (drop 1 l))
    (and_then (spaced one l) λ x more. and_then (list_in one fuel more) λ xs rest. found (x ∷ xs) rest)

-- station numbers behind a first one, up to the closing bracket
unfoldable pub stations_in : List ℕ → Option (Read (List ℕ))
stations_in l = list_in (number_in 0 99) (length l + 1) l

-- a round: its station numbers in brackets, `()` an empty one
unfoldable pub round_in : List ℕ → Option (Read (List ℕ))
round_in l = cond (eqb (byte l 0) 40) (opened (drop 1 l)) none
  where
    opened : List ℕ → Option (Read (List ℕ))
    opened k =
        cond (eqb (byte k 0) 41) (found [] (drop 1 k))
        (and_then (number_in 0 99 k) λ i more. and_then (stations_in more) λ is rest. found (i ∷ is) rest)

unfoldable pub rounds_in : List ℕ → Option (Read (List (List ℕ)))
rounds_in l = list_in round_in (length l + 1) l

-- a pair in brackets: "(1 -40)"
unfoldable pub pair_in : List ℕ → Option (Read Proposal)
pair_in l = cond (eqb (byte l 0) 40) (opened (drop 1 l)) none
  where
    closed : (i : ℕ) → Figure → List ℕ → Option (Read Proposal)
    closed i v rest = cond (eqb (byte rest 0) 41) (found (record { station = i; figure = v }) (drop 1 rest)) none

    opened : List ℕ → Option (Read Proposal)
    opened k = and_then (number_in 0 99 k) λ i more. and_then (spaced figure_in more) (closed i)

unfoldable pub pairs_in : List ℕ → Option (Read (List Proposal))
pairs_in l = list_in pair_in (length l + 1) l

-- ---- the forms by their words

-- the bracket that ends the line
unfoldable pub closing : {A : Type 0} → A → List ℕ → Option A
closing a l = cond (same l (text ")")) (some a) none

-- A word, and the reader of what follows it.
pub record WordRow (A : Type 0) : Type 0 where
  pub word : List ℕ
  pub reader : List ℕ → Option A

-- `(board n K)`, `(steps item ..)`, `(show)`; "n, K and stations are 0 to 99"
unfoldable pub board_row : WordRow Form
board_row = record {
  word = text "board";
  reader = λ l. and_then (spaced (number_in 0 99) l) λ n k.
      and_then (spaced (number_in 0 99) k) λ K rest. closing (board n K) rest;
}

-- `(propose i v)`
unfoldable pub single_in : List ℕ → Option Form
single_in l =
    and_then (spaced (number_in 0 99) l) λ i k. and_then (spaced figure_in k) λ v rest. closing (propose i v) rest

-- `(propose (1 -40) (2 15))`
unfoldable pub together_in : List ℕ → Option Form
together_in l = and_then (pairs_in l) λ ps rest. cond (same rest []) (some (proposals ps)) none

-- "at least one pair": a bracket behind the space begins pairs
unfoldable pub propose_row : WordRow Form
propose_row = record { word = text "propose"; reader = λ l. cond (eqb (byte l 1) 40) (together_in l) (single_in l) }

unfoldable pub steps_row : WordRow Form
steps_row = record {
  word = text "steps";
  reader = λ l. and_then (items_in (length l + 1) l) λ is rest. cond (same rest []) (some (steps is)) none;
}

unfoldable pub show_row : WordRow Form
show_row = record { word = text "show"; reader = closing show }

-- `(rounds k (2) () ..)`: "k is 0 to 99, and there may be no round"
unfoldable pub rounds_row : WordRow Form
rounds_row = record {
  word = text "rounds";
  reader = λ l. and_then (spaced (number_in 0 99) l) λ k more.
      and_then (rounds_in more) λ rs rest. cond (same rest []) (some (rounds k rs)) none;
}

-- the words that name forms
unfoldable pub word_rows : List (WordRow Form)
word_rows = board_row ∷ propose_row ∷ steps_row ∷ show_row ∷ rounds_row ∷ []

-- the row of a word
unfoldable pub row_in : {A : Type 0} → List (WordRow A) → (word : List ℕ) → Option (WordRow A)
row_in [] w = none
row_in (r ∷ rs) w = cond (same w r.word) (some r) (row_in rs w)

-- "ends before a space, a bracket or the line's end"
unfoldable pub up_to_stop : List ℕ → List ℕ
up_to_stop [] = []
up_to_stop (b ∷ l) = cond (eqb b 32 || eqb b 40 || eqb b 41) [] (b ∷ up_to_stop l)

-- "It starts after an opening bracket that is the line's first byte"
unfoldable pub first_word : List ℕ → List ℕ
first_word [] = []
first_word (b ∷ l) = cond (eqb b 40) (up_to_stop l) []

-- "The word that names a form .. bytes there that are no form's word count as none, and what follows the word does not
-- matter."
unfoldable pub form_word : List ℕ → List ℕ
form_word l = elim (row_in word_rows (first_word l)) [ none ↦ [] | some r ↦ first_word l ]

-- how many bytes the opening bracket and the word are: what follows them begins at this place
unfoldable pub word_place : List ℕ → ℕ
word_place l = length (first_word l) + 1

unfoldable pub form_in : List ℕ → Option Form
form_in l = elim (row_in word_rows (first_word l)) [ none ↦ none | some r ↦ r.reader (drop (word_place l) l) ]

-- ---- the line

-- 1 if the byte b is the one asked for, and else 0
unfoldable pub one : (asked b : ℕ) → ℕ
one asked b = cond (eqb b asked) 1 0

-- "At some byte, opening brackets exceed closing ones by more than 8": o and c of them stand before these bytes
unfoldable pub too_deep : (o c : ℕ) → List ℕ → Bool
too_deep o c [] = false
too_deep o c (b ∷ l) = ltb (c + one 41 b + 8) (o + one 40 b) || too_deep (o + one 40 b) (c + one 41 b) l

-- what a reader answers: what it found, or a refusal by its number
pub data Reading (A : Type 0) : Type 0 where
  reads : A → Reading A
  unread : (number : ℕ) → Reading A

-- "4. The line is none of the forms, or a number is outside its range.": the refusal where nothing was found
unfoldable pub or_four : {A : Type 0} → Option A → Reading A
or_four none = unread 4
or_four (some a) = reads a

-- "2. The line is longer than 255 bytes before its LF. 3. At some byte, .."
unfoldable pub read_line : List ℕ → Reading Form
read_line l =
    elim (unless (leb (length l) 255) 2 (unless (not (too_deep 0 0 l)) 3 none)) [
      | none ↦ or_four (form_in l)
      | some k ↦ unread k
    ]
