-- The top of the reader: the form by the word in front, and refusals 2 and 3 before it.
-- Relies on the model's `form_in` and `read_line`; the proofs of form::form and form::read_line rely on it.
use Rattle.model.proofs.Kit.{◌≡◌, refl, sym, ap, ◌∙◌, Bool, true, false, cond, ◌||◌, List, [], ◌∷◌, none, some, ℕ, suc}
use Rattle.model.proofs.Kit.{◌+◌, ◌≤◌, ◌<◌, le-leb, lt-leb, eqb, length, drop, arith}
use Rattle.model.specs.Show.{text, text_from}
use Rattle.model.specs.Calls.{unless}
use Rattle.model.specs.Forms.{same, board_row, propose_row, steps_row, show_row, rounds_row, word_rows, row_in, up_to_stop}
use Rattle.model.specs.Forms.{first_word, word_place}
use Rattle.model.specs.Forms.{form_in, too_deep, Reading, unread, or_four, read_line}
use Rattle.lexer.specs.declared.word.FormWord.{FormWord}
use Rattle.std.specs.Prelude.{Some, None}
use Rattle.std.specs.declared.option.Option.{Option}
use Rattle.sheet.specs.declared.form.LineForm.{LineForm}
use Rattle.lexer.specs.Words.{word_row, named_row}
use Rattle.model.proofs.Basics.Tests.{never}
use Rattle.lexer.proofs.Laws.Words.{named_row_lem}
use Rattle.sheet.specs.LineForms.{line_form}

-- ---- a word by its name

module _ (l : List ℕ) (part : List ℕ) (is : part ≡ first_word l) (r : Option FormWord)
    (name : named_row r ≡ row_in word_rows part) where
  pub no_form : r ≡ None → unread 4 ≡ line_form (word_place l) (or_four (form_in l))
  unfolding form_in or_four line_form named_row
  no_form e = rw (named_row_lem l part is r name ∙ ap named_row e, form_in)

  module _ (v w : FormWord) (e : r ≡ Some v) (q : v ≡ w) where
    its_row : row_in word_rows (first_word l) ≡ some (word_row w)
    unfolding named_row
    its_row = named_row_lem l part is r name ∙ ap named_row (e ∙ ap Some q)

    pub form_read : (x : Reading LineForm) → x ≡ line_form (length part + 1)
        (or_four ((word_row w).reader (drop (length part + 1) l)))
        → x ≡ line_form (word_place l) (or_four (form_in l))
    unfolding form_in word_place
    form_read x h = rw (its_row, form_in) (rw is at h)

-- ---- the word and its bracket lie within the line

stops_inside : (l : List ℕ) → length (up_to_stop l) ≤ length l
unfolding up_to_stop
stops_inside [] = omega arith
stops_inside (b ∷ l) = by (eqb b 32 || eqb b 40 || eqb b 41) (stops_inside l)
  where
    by : (t : Bool) → length (up_to_stop l) ≤ length l → length (cond t [] (b ∷ up_to_stop l)) ≤ suc (length l)
    by true h = omega arith
    by false h = omega arith

word_inside : (l : List ℕ) → length (first_word l) ≤ length l
unfolding first_word
word_inside [] = omega arith
word_inside (b ∷ l) = by (eqb b 40) (stops_inside l)
  where
    by : (t : Bool) → length (up_to_stop l) ≤ length l → length (cond t (up_to_stop l) []) ≤ suc (length l)
    by true h = omega arith
    by false h = omega arith

-- a word that is not empty stands behind the bracket that the line starts with
bracketed : (l : List ℕ) → (first_word l ≡ [] → ⊥) → length (first_word l) + 1 ≤ length l
unfolding first_word
bracketed [] ne = absurd (ne refl)
bracketed (b ∷ l) ne = by (eqb b 40) (stops_inside l) ne
  where
    by : (t : Bool) → length (up_to_stop l) ≤ length l → (cond t (up_to_stop l) [] ≡ [] → ⊥)
        → length (cond t (up_to_stop l) []) + 1 ≤ suc (length l)
    by true h ne = omega arith
    by false h ne = absurd (ne refl)

no_word : row_in word_rows [] ≡ none
unfolding row_in word_rows board_row propose_row steps_row show_row rounds_row same text text_from
no_word = refl

pub place_inside : (l part : List ℕ) → part ≡ first_word l → (r : Option FormWord) → named_row r ≡ row_in word_rows part
    → (w : FormWord)
    → r ≡ Some w → length part + 1 ≤ length l
place_inside l part is r name w e =
    rw is (bracketed l (λ empty. never _
    (sym (ap (row_in word_rows) empty ∙ no_word) ∙ its_row l part is r name w w e refl)))

-- ---- refusals 2 and 3

module _ (l : List ℕ) where
  pub too_long : 255 < length l → unread 2 ≡ line_form (word_place l) (read_line l)
  unfolding read_line unless line_form
  too_long h = rw (lt-leb (length l) 255 h, read_line)

  module _ (short : length l ≤ 255) (t : Bool) (deep : t ≡ too_deep 0 0 l) where
    pub nested : t ≡ true → unread 3 ≡ line_form (word_place l) (read_line l)
    unfolding read_line unless line_form
    nested e = rw (le-leb (length l) 255 short, sym deep ∙ e, read_line)

    pub flat : t ≡ false → (x : Reading LineForm) → x ≡ line_form (word_place l) (or_four (form_in l))
        → x ≡ line_form (word_place l) (read_line l)
    unfolding read_line unless
    flat e x q = rw (le-leb (length l) 255 short, sym deep ∙ e, read_line) q
