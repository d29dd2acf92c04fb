-- The forms by their words: what follows `board`, `propose`, `steps`, `rounds` and `show`, as the readers of numbers,
-- figures, items, lists and brackets found it.
-- Relies on the lexer's Places and Answers and the model's table of words; the proofs of src/form.rt rely on it.
use Rattle.model.proofs.Kit.{◌≡◌, sym, ap, ◌∙◌, Bool, true, false, cond, List, [], none, some, Option, ℕ, ◌+◌}
use Rattle.model.proofs.Kit.{◌≤◌, ◌<◌, ℤ, length, drop, drop_of_length-le, arith}
use Rattle.model.specs.Show.{text}
use Rattle.model.specs.Forms as forms
use Rattle.model.specs.Forms.{Items, Read, found, and_then, items_in, round_in, rounds_in, expand, closing, board_row}
use Rattle.model.specs.Forms.{single_in, steps_row, rounds_row, show_row, same, Reading, reads, unread, or_four}
use Rattle.std.specs.Prelude.{Ok, Err}
use Rattle.std.specs.declared.result.Result.{Result}
use Rattle.model.specs.declared.refusal.Refusal.{Refusal}
use Rattle.lexer.specs.declared.At.{At}
use Rattle.list_laws.specs.declared.Listed.{Listed}
use Rattle.sheet.specs.declared.form.LineForm.TheVariants.{Board, Propose, Steps, Rounds, Show}
use Rattle.halts.specs.Needs.{needs}
use Rattle.lexer.specs.Placed.{placed, SpacedIs, FigureIs}
use Rattle.item_reader.specs.Counts.{capped, sized, ItemsAre}
use Rattle.list_laws.specs.Lists.{read_as, summary, ListIs}
use Rattle.sheet.specs.LineForms.{line_form}
use Rattle.lexer.proofs.Laws.Places.{here}
use Rattle.lexer.proofs.Laws.Answers.{missed, there}
use Rattle.list_laws.proofs.Laws.Lists.{as_none, as_found}

-- what the code answers of a form that is missing, and of one that was read
module _ (at : ℕ) {o : Option forms.Form} where
  missing : o ≡ none → unread 4 ≡ line_form at (or_four o)
  unfolding or_four line_form
  missing e = rw e

  given : {f : forms.Form} → o ≡ some f → line_form at (reads f) ≡ line_form at (or_four o)
  unfolding or_four
  given e = rw e

module _ (line : List ℕ) (at : ℕ) (first : Result (At ℕ) Refusal) (is : SpacedIs line at first) where
  pub board_no_first : (k : Refusal) → first ≡ Err k
      → unread 4 ≡ line_form at (or_four (board_row.reader (drop at line)))
  unfolding board_row and_then
  board_no_first k e = missing at (rw (missed (λ v. v) line first _ is.reads k e))

  pub propose_no_first : (k : Refusal) → first ≡ Err k
      → unread 4 ≡ line_form at (or_four (single_in (drop at line)))
  unfolding single_in and_then
  propose_no_first k e = missing at (rw (missed (λ v. v) line first _ is.reads k e))

  module _ (n : At ℕ) (e : first ≡ Ok n) where
    module _ (second : Result (At ℕ) Refusal) (more : SpacedIs line n.next second) where
      pub board_no_second : (j : Refusal) → second ≡ Err j
          → unread 4 ≡ line_form at (or_four (board_row.reader (drop at line)))
      unfolding board_row and_then found
      board_no_second j q =
          missing at (rw (
            there (λ v. v) line first _ is.reads n e,
            missed (λ v. v) line second _ more.reads j q,
          ))

      module _ (k : At ℕ) (q : second ≡ Ok k) where
        module _ (t : Bool) (closes : t ≡ same (drop k.next line) (text ")")) where
          closed_by : {x : Bool} → t ≡ x → board_row.reader (drop at line) ≡ cond x (some (forms.board n.value k.value)) none
          unfolding board_row and_then found closing
          closed_by e' =
              rw (
                there (λ v. v) line first _ is.reads n e,
                there (λ v. v) line second _ more.reads k q,
                sym closes ∙ e',
              )

          pub board_open : t ≡ false → unread 4 ≡ line_form at (or_four (board_row.reader (drop at line)))
          board_open h = missing at (closed_by h)

          pub board_read : t ≡ true → reads (Board n.value k.value) ≡ line_form at (or_four (board_row.reader (drop at line)))
          unfolding line_form
          board_read h = given at (closed_by h)

    module _ (second : Result (At ℤ) Refusal) (more : FigureIs line n.next second) where
      pub propose_no_second : (j : Refusal) → second ≡ Err j
          → unread 4 ≡ line_form at (or_four (single_in (drop at line)))
      unfolding single_in and_then found
      propose_no_second j q =
          missing at (rw (
            there (λ v. v) line first _ is.reads n e,
            missed (λ v. v) line second _ more.reads j q,
          ))

      module _ (v : At ℤ) (q : second ≡ Ok v) where
        module _ (t : Bool) (closes : t ≡ same (drop v.next line) (text ")")) where
          figure_closed_by : {x : Bool} → t ≡ x
              → single_in (drop at line) ≡ cond x (some (forms.propose n.value v.value)) none
          unfolding single_in and_then found closing
          figure_closed_by e' =
              rw (
                there (λ v. v) line first _ is.reads n e,
                there (λ v. v) line second _ more.reads v q,
                sym closes ∙ e',
              )

          pub propose_open : t ≡ false → unread 4 ≡ line_form at (or_four (single_in (drop at line)))
          propose_open h = missing at (figure_closed_by h)

          -- the figure comes back by way of its bits
          pub propose_read : t ≡ true → (z : ℤ) → z ≡ v.value
              → reads (Propose n.value z) ≡ line_form at (or_four (single_in (drop at line)))
          unfolding line_form
          propose_read h z bits = ap (λ (x : ℤ). reads (Propose n.value x)) bits ∙ given at (figure_closed_by h)

-- ---- what must reach to the line's end

ends : (line : List ℕ) (next : ℕ) → length line ≤ next → same (drop next line) [] ≡ true
unfolding same
ends line next h = rw (drop_of_length-le line h)

goes_on : (line : List ℕ) (next : ℕ) → next < length line → same (drop next line) [] ≡ false
unfolding same
goes_on line next h = rw (here line next h)

module _ {A : Type 0} (form : A → forms.Form) where
  unfoldable pub up_to_end : Option (Read A) → Option forms.Form
  up_to_end o = and_then o λ a rest. cond (same rest []) (some (form a)) none

  module _ (at : ℕ) (o : Option (Read A)) where
    pub end_missing : o ≡ none → unread 4 ≡ line_form at (or_four (up_to_end o))
    unfolding up_to_end and_then
    end_missing e = missing at (rw e)

    module _ (line : List ℕ) (a : A) (next : ℕ) (e : o ≡ found a (drop next line)) where
      pub end_behind : next < length line → unread 4 ≡ line_form at (or_four (up_to_end o))
      unfolding up_to_end and_then found
      end_behind h = missing at (rw (e, goes_on line next h))

      pub end_read : length line ≤ next → line_form at (reads (form a)) ≡ line_form at (or_four (up_to_end o))
      unfolding up_to_end and_then found
      end_read h = given at (rw (e, ends line next h))

module _ (line : List ℕ) (at : ℕ) (r : Result (At ℕ) Refusal) (is : ItemsAre line at r) where
  abbrev Found : Option (Read Items)
  Found = items_in (length (drop at line) + 1) (drop at line)

  read_items : placed line r ≡ or_four (sized expand Found)
  read_items = is.reads (length (drop at line) + 1) (omega arith)

  pub steps_missing : (k : Refusal) → r ≡ Err k → unread 4 ≡ line_form at (or_four (steps_row.reader (drop at line)))
  unfolding steps_row up_to_end
  steps_missing k e = end_missing forms.steps at Found (as_none _ _ (missed (λ v. v) line r _ read_items k e))

  module _ (c : At ℕ) (e : r ≡ Ok c) where
    items : (is : Items) × (Found ≡ found is (drop c.next line)) × (capped (length (expand is)) ≡ c.value)
    items = as_found _ _ _ _ (there (λ v. v) line r _ read_items c e)

    pub steps_behind : c.next < length line → unread 4 ≡ line_form at (or_four (steps_row.reader (drop at line)))
    unfolding steps_row up_to_end
    steps_behind h = end_behind forms.steps at Found line items.0 c.next items.1 h

    pub steps_read_lem : length line ≤ c.next
        → reads (Steps at c.value) ≡ line_form at (or_four (steps_row.reader (drop at line)))
    unfolding steps_row up_to_end line_form
    steps_read_lem h =
        ap (λ (k : ℕ). reads (Steps at k)) (sym items.2) ∙ end_read forms.steps at Found line items.0 c.next items.1 h

-- ---- rounds behind a number

module _ (line : List ℕ) (at : ℕ) (first : Result (At ℕ) Refusal) (is : SpacedIs line at first) where
  pub rounds_no_number : (k : Refusal) → first ≡ Err k
      → unread 4 ≡ line_form at (or_four (rounds_row.reader (drop at line)))
  unfolding rounds_row and_then
  rounds_no_number k e = missing at (rw (missed (λ v. v) line first _ is.reads k e))

  module _ (k : At ℕ) (e : first ≡ Ok k) (r : Result (At Listed) Refusal)
      (list : ListIs round_in (needs k.value) [] line k.next r) where
    read_list : placed line r ≡ or_four (read_as (summary (needs k.value)) (rounds_in (drop k.next line)))
    unfolding rounds_in
    read_list = list.reads (length (drop k.next line) + 1) (omega arith)

    behind_number : rounds_row.reader (drop at line) ≡ up_to_end (forms.rounds k.value) (rounds_in (drop k.next line))
    unfolding rounds_row up_to_end and_then found
    behind_number = rw (there (λ v. v) line first _ is.reads k e)

    pub rounds_missing : (j : Refusal) → r ≡ Err j → unread 4 ≡ line_form at (or_four (rounds_row.reader (drop at line)))
    rounds_missing j d =
        rw behind_number
        (end_missing (forms.rounds k.value) at _ (as_none _ _ (missed (λ v. v) line r _ read_list j d)))

    module _ (a : At Listed) (d : r ≡ Ok a) where
      listed : (rs : List (List ℕ)) × (rounds_in (drop k.next line) ≡ found rs (drop a.next line))
          × (summary (needs k.value) rs ≡ a.value)
      listed = as_found _ _ _ _ (there (λ v. v) line r _ read_list a d)

      pub rounds_behind : a.next < length line → unread 4 ≡ line_form at (or_four (rounds_row.reader (drop at line)))
      rounds_behind h =
          rw behind_number (end_behind (forms.rounds k.value) at _ line listed.0 a.next listed.1 h)

      pub rounds_read : length line ≤ a.next
          → reads (Rounds at a.value.count a.value.needs) ≡ line_form at (or_four (rounds_row.reader (drop at line)))
      unfolding summary line_form
      rounds_read h =
          ap (λ (s : Listed). reads (Rounds at s.count s.needs)) (sym listed.2)
          ∙ rw behind_number (end_read (forms.rounds k.value) at _ line listed.0 a.next listed.1 h)

-- ---- `(show)`

pub shows : (at : ℕ) (l : List ℕ) → same l (text ")") ≡ true → reads Show ≡ line_form at (or_four (show_row.reader l))
unfolding line_form or_four show_row closing
shows at l e = simp e

pub shows_not : (at : ℕ) (l : List ℕ) → same l (text ")") ≡ false → unread 4 ≡ line_form at (or_four (show_row.reader l))
unfolding line_form or_four show_row closing
shows_not at l e = simp e
