-- Words: where one ends, which form it names, and that `==` of two texts answers as the model's test.
-- Relies on the model's forms and its test of two texts; the proofs of src/word.rt, and the laws of a line's form above,
-- rely on it.
use Rattle.model.proofs.Kit.{◌≡◌, refl, sym, ap, ◌∙◌, Bool, true, false, cond, not, ◌||◌, List, [], ◌∷◌}
use Rattle.model.proofs.Kit.{ℕ, suc, ◌+◌, ◌-◌, ◌≤◌, ◌<◌, eq-eqb, ne_eqb, eqb, length, take}
use Rattle.model.proofs.Kit.{drop, length-drop, get_or, ltb-false, arith}
use lib.Seq.{take_all}
use Rattle.std.specs.Prelude.{nat_eq}
use lib.Pointwise.{pointwise}
use Rattle.std.proofs.lemmas.Slice.Eq.{slice_eq-Decides}
use Rattle.std.proofs.lemmas.Bool.Decides.{Decides-eqb}
use Rattle.model.proofs.Sheet.SameTexts.{same_says}
use Rattle.model.specs.Forms.{same, board_row, propose_row, steps_row, show_row, rounds_row, word_rows, row_in, up_to_stop}
use Rattle.model.specs.Forms.{first_word, form_word}
use Rattle.model.specs.Show.{text}
use Rattle.lexer.specs.declared.word.FormWord.{FormWord}
use Rattle.lexer.specs.declared.word.FormWord.TheVariants.{Board, Propose, Steps, Show, Rounds}
use Rattle.std.specs.Prelude.{Some, None, is_some}
use Rattle.model.proofs.Basics.Tests.{clash}
use Rattle.std.specs.declared.option.Option.{Option}
use Rattle.std.specs.List.{position_or_len, position}
use Rattle.std.proofs.lemmas.List.Quantifiers.{position-Some}
use Rattle.lexer.specs.Words.{WordEnd, named_row}

-- ---- the test of two texts by `==`

pub equal_says : (a b w : List ℕ) (r t : Bool) → r ≡ pointwise nat_eq a b → b ≡ w → r ≡ t → same a w ≡ t
equal_says a b w r t tested is e =
    same_says a w r t (slice_eq-Decides Decides-eqb a w r (tested ∙ ap (λ k. pointwise nat_eq a k) is)) e

-- ---- where a word ends

-- the bytes that end a word
abbrev pub stop : ℕ → Bool
stop b = eqb b 32 || eqb b 40 || eqb b 41

-- a word goes on to the first of them
to_stop : (l : List ℕ) → take (position_or_len stop l) l ≡ up_to_stop l
unfolding up_to_stop
to_stop [] = refl
to_stop (b ∷ l) = by (stop b) (to_stop l)
  where
    by : (t : Bool) → take (position_or_len stop l) l ≡ up_to_stop l
        → take (cond (not t) (1 + position_or_len stop l) 0) (b ∷ l) ≡ cond t [] (b ∷ up_to_stop l)
    by true e = refl
    by false e =
        let next : 1 + position_or_len stop l ≡ suc (position_or_len stop l) = omega arith in
        ap (λ k. take k (b ∷ l)) next ∙ ap (λ k. b ∷ k) e

found_there : (t : Bool) (p n : ℕ) → cond t (Some p) None ≡ Some n → p ≡ n
found_there true p n e = cc
found_there false p n e = absurd (let no : ◌≡◌ {A = Option ℕ} None (Some n) = e in cc)

found_nowhere : (t : Bool) (p : ℕ) → cond t (Some p) None ≡ None → t ≡ false
found_nowhere true p e = absurd (let no : ◌≡◌ {A = Option ℕ} (Some p) None = e in cc)
found_nowhere false p e = refl

pub all_behind : (line : List ℕ) → take (length line - 1) (drop 1 line) ≡ drop 1 line
all_behind line = take_all (length line - 1) (drop 1 line) (omega (arith, length-drop 1 line))

-- which is looked for behind the line's first byte
module _ (line : List ℕ) (some : 0 < length line) (r : Option ℕ) (first : r ≡ position stop (drop 1 line)) where
  pub ends_at : (n : ℕ) → r ≡ Some n → WordEnd line (1 + n)
  ends_at n e =
      let there = position-Some stop (drop 1 line) n 0 (sym first ∙ e) in
      let its_end : 1 + n - 1 ≡ n = omega arith in
      record {
        behind = omega arith;
        inside = omega (arith, there.0, length-drop 1 line);
        word =
            ap (λ k. take k (drop 1 line)) (its_end ∙ sym (found_there _ _ _ (sym first ∙ e))) ∙ to_stop (drop 1 line);
      }

  pub ends_last : r ≡ None → WordEnd line (length line)
  ends_last e =
      let nowhere : length (drop 1 line) ≤ position_or_len stop (drop 1 line) =
      ltb-false _ _ (found_nowhere _ _ (sym first ∙ e)) in
      record {
        behind = omega arith;
        inside = omega arith;
        word =
            all_behind line
            ∙ sym (take_all _ (drop 1 line) nowhere)
            ∙ to_stop (drop 1 line);
      }

-- ---- the bytes that stand where a word would

pub no_bracket : (line : List ℕ) → (get_or line 0 0 ≡ 40 → ⊥) → [] ≡ first_word line
unfolding first_word
no_bracket [] h = refl
no_bracket (b ∷ l) h = sym (ap (λ (t : Bool). cond t (up_to_stop l) []) (ne_eqb b 40 h))

pub behind_bracket : (line : List ℕ) (end : ℕ) → get_or line 0 0 ≡ 40 → WordEnd line end
    → take (end - 1) (drop 1 line) ≡ first_word line
unfolding first_word
behind_bracket [] end h w = let e : ◌≡◌ {A = ℕ} 0 40 = h in absurd (omega arith)
behind_bracket (b ∷ l) end h w = w.word ∙ sym (ap (λ (t : Bool). cond t (up_to_stop l) []) (eq-eqb b 40 h))

-- ---- the form that a word names

module _ (w : List ℕ) where
  pub names_board : same w (text "board") ≡ true → named_row (Some Board) ≡ row_in word_rows w
  unfolding named_row row_in word_rows board_row
  names_board b = simp b

  pub names_propose : same w (text "board") ≡ false → same w (text "propose") ≡ true
      → named_row (Some Propose) ≡ row_in word_rows w
  unfolding named_row row_in word_rows board_row propose_row
  names_propose b p = simp (b, p)

  pub names_steps : same w (text "board") ≡ false → same w (text "propose") ≡ false → same w (text "steps") ≡ true
      → named_row (Some Steps) ≡ row_in word_rows w
  unfolding named_row row_in word_rows board_row propose_row steps_row
  names_steps b p s = simp (b, p, s)

  pub names_show : same w (text "board") ≡ false → same w (text "propose") ≡ false → same w (text "steps") ≡ false
      → same w (text "show") ≡ true → named_row (Some Show) ≡ row_in word_rows w
  unfolding named_row row_in word_rows board_row propose_row steps_row show_row
  names_show b p s h = simp (b, p, s, h)

  pub names_rounds : same w (text "board") ≡ false → same w (text "propose") ≡ false → same w (text "steps") ≡ false
      → same w (text "show") ≡ false → same w (text "rounds") ≡ true → named_row (Some Rounds) ≡ row_in word_rows w
  unfolding named_row row_in word_rows board_row propose_row steps_row show_row rounds_row
  names_rounds b p s h r = simp (b, p, s, h, r)

  pub names_nothing : same w (text "board") ≡ false → same w (text "propose") ≡ false → same w (text "steps") ≡ false
      → same w (text "show") ≡ false → same w (text "rounds") ≡ false → named_row None ≡ row_in word_rows w
  unfolding named_row row_in word_rows board_row propose_row steps_row show_row rounds_row
  names_nothing b p s h r = simp (b, p, s, h, r)

-- ---- the word that names the line's form

none_left : {A : Type 0} (o : Option A) → is_some o ≡ false → o ≡ None
none_left None e = refl
none_left (Some a) e = clash e

some_left : {A : Type 0} (o : Option A) → is_some o ≡ true → (a : A) × (o ≡ Some a)
some_left None e = clash (sym e)
some_left (Some a) e = (a, refl)

module _ (line w : List ℕ) (is : w ≡ first_word line) (r : Option FormWord) (name : named_row r ≡ row_in word_rows w) where
  pub named_row_lem : row_in word_rows (first_word line) ≡ named_row r
  named_row_lem = sym (name ∙ ap (row_in word_rows) is)

  pub no_word : is_some r ≡ false → [] ≡ form_word line
  unfolding form_word named_row
  no_word e = rw (named_row_lem ∙ ap named_row (none_left r e), form_word)

  pub its_word : is_some r ≡ true → w ≡ form_word line
  unfolding form_word named_row
  its_word e = let f = some_left r e in is ∙ rw (named_row_lem ∙ ap named_row f.1, form_word)
