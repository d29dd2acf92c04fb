-- The kind by its word, and the whole line: a bracket, the station, a space, and the kind with its fields.
-- Relies on the model's table of kinds and on the lexer's laws of numbers and of a word's end; the proofs of
-- src/reading.rt rely on it.
use Rattle.model.proofs.Kit.{◌≡◌, refl, sym, ap, subst, ◌∙◌, Bool, true, false, List, none, some, Option, ℕ, ◌+◌, ◌-◌}
use Rattle.model.proofs.Kit.{◌≤◌, eq-eqb, ne_eqb, length, take, drop, length-drop, get_or, drop-drop, take_all, arith}
use lib.ListN.{length-take}
use Rattle.model.specs.Show.{text}
use Rattle.model.specs.Figure.{Figure}
use Rattle.model.specs.Filled.{Report}
use Rattle.model.specs.Listing.{went, marked, adopted, decided, spent}
use Rattle.model.specs.Forms.{found, and_then, same, WordRow, row_in, number_in, up_to_stop}
use Rattle.model.specs.Tape.{read_in, kind_rows, kind_in, by_station, entry_in, is_entry}
use Rattle.std.specs.Prelude.{Ok, Err}
use Rattle.std.specs.declared.result.Result.{Result}
use Rattle.model.specs.declared.refusal.Refusal.{Refusal}
use Rattle.lexer.specs.declared.At.{At}
use Rattle.lexer.specs.Placed.{NumberIs}
use Rattle.lexer.specs.Words.{WordEnd}
use Rattle.lexer.proofs.Laws.Places.{first_byte, behind_first}
use Rattle.lexer.proofs.Laws.Answers.{missed, there}
use Rattle.tape_reader.specs.Reading.{given, by_row, EndsIs}
use Rattle.tape_reader.proofs.Laws.ReadingFields.{closes_given}

-- ---- the kind that a word names

module _ (w line : List ℕ) (at : ℕ) (t : Bool) where
  pub kind_wrote : same w (text "wrote") ≡ true → t ≡ same (drop at line) (text ")")
      → t ≡ given (by_row (row_in kind_rows w) (drop at line))
  unfolding by_row row_in kind_rows
  kind_wrote a h = h ∙ rw a (closes_given _ _)

  module _ (a : same w (text "wrote") ≡ false) where
    pub kind_read : same w (text "read") ≡ true → t ≡ given (read_in (drop at line))
        → t ≡ given (by_row (row_in kind_rows w) (drop at line))
    unfolding by_row row_in kind_rows
    kind_read b h = rw (a, b) h

    module _ (b : same w (text "read") ≡ false) where
      pub kind_went : same w (text "went") ≡ true → EndsIs line at 0 99 t
          → t ≡ given (by_row (row_in kind_rows w) (drop at line))
      unfolding by_row row_in kind_rows
      kind_went c h = rw (a, b, c) (h.ends went)

      module _ (c : same w (text "went") ≡ false) where
        pub kind_marked : same w (text "marked") ≡ true → EndsIs line at 1 2 t
            → t ≡ given (by_row (row_in kind_rows w) (drop at line))
        unfolding by_row row_in kind_rows
        kind_marked d h = rw (a, b, c, d) (h.ends marked)

        module _ (d : same w (text "marked") ≡ false) where
          pub kind_adopted : same w (text "adopted") ≡ true → EndsIs line at 0 99 t
              → t ≡ given (by_row (row_in kind_rows w) (drop at line))
          unfolding by_row row_in kind_rows
          kind_adopted e h = rw (a, b, c, d, e) (h.ends adopted)

          module _ (e : same w (text "adopted") ≡ false) where
            pub kind_decided : same w (text "decided") ≡ true → EndsIs line at 0 99 t
                → t ≡ given (by_row (row_in kind_rows w) (drop at line))
            unfolding by_row row_in kind_rows
            kind_decided f h = rw (a, b, c, d, e, f) (h.ends decided)

            module _ (f : same w (text "decided") ≡ false) where
              pub kind_spent : same w (text "spent") ≡ true → EndsIs line at 0 99 t
                  → t ≡ given (by_row (row_in kind_rows w) (drop at line))
              unfolding by_row row_in kind_rows
              kind_spent g h = rw (a, b, c, d, e, f, g) (h.ends spent)

              pub no_kind : same w (text "spent") ≡ false → false ≡ given (by_row (row_in kind_rows w) (drop at line))
              unfolding by_row row_in kind_rows given
              no_kind g = rw (a, b, c, d, e, f, g)

-- ---- the whole line

kind_given : (l : List ℕ)
    → given (kind_in l) ≡ given (by_row (row_in kind_rows (up_to_stop l)) (drop (length (up_to_stop l)) l))
unfolding kind_in by_row
kind_given l = go (row_in kind_rows (up_to_stop l))
  where
    go : (o : Option (WordRow (Report Figure)))
        → given {A = Report Figure} (elim o [ none ↦ none | some r ↦ r.reader (drop (length (up_to_stop l)) l) ])
        ≡ given (by_row o (drop (length (up_to_stop l)) l))
    go none = refl
    go (some r) = refl

module _ (line : List ℕ) where
  no_entry : entry_in line ≡ none → false ≡ is_entry line
  unfolding is_entry
  no_entry e = rw (e, is_entry)

  pub entry_unopened : (get_or line 0 0 ≡ 40 → ⊥) → false ≡ is_entry line
  unfolding entry_in
  entry_unopened ne = no_entry (rw (ne_eqb (get_or line 0 0) 40 ne))

  module _ (opened : get_or line 0 0 ≡ 40) (r : Result (At ℕ) Refusal) (is : NumberIs line 1 0 99 r) where
    pub entry_no_station : (k : Refusal) → r ≡ Err k → false ≡ is_entry line
    unfolding entry_in and_then
    entry_no_station k e =
        no_entry (rw (eq-eqb (get_or line 0 0) 40 opened, missed (λ v. v) line r _ is.reads k e))

    module _ (a : At ℕ) (e : r ≡ Ok a) where
      pub entry_unspaced : (get_or line a.next 0 ≡ 32 → ⊥) → false ≡ is_entry line
      unfolding entry_in and_then found
      entry_unspaced ne =
          no_entry (rw (
            eq-eqb (get_or line 0 0) 40 opened,
            there (λ v. v) line r (number_in 0 99 (drop 1 line)) is.reads a e,
            first_byte line a.next,
            ne_eqb (get_or line a.next 0) 32 ne,
          ))

      module _ (space : get_or line a.next 0 ≡ 32) where
        -- the kind behind the station makes the entry
        with-station : entry_in line ≡ by_station a.value (kind_in (drop (a.next + 1) line))
        unfolding entry_in and_then found by_station
        with-station =
            rw (
              eq-eqb (get_or line 0 0) 40 opened,
              there (λ v. v) line r (number_in 0 99 (drop 1 line)) is.reads a e,
              first_byte line a.next,
              eq-eqb (get_or line a.next 0) 32 space,
              behind_first line a.next,
            )

        behind_station : is_entry line ≡ given (kind_in (drop (a.next + 1) line))
        unfolding is_entry by_station given
        behind_station = rw (with-station, is_entry) (go (kind_in (drop (a.next + 1) line)))
          where
            go : (o : Option (Report Figure))
                → elim (by_station a.value o) [ none ↦ false | some e ↦ true ] ≡ given o
            go none = refl
            go (some a) = refl

        -- the part of the line that the end of the word was looked for in
        module _ (lent : List ℕ) (rest : lent ≡ take (length line - a.next) (drop a.next line)) (end : ℕ)
            (ends : WordEnd lent end) where
          word : WordEnd (drop a.next line) end
          word =
              subst (λ (l : List ℕ). WordEnd l end)
              (rest ∙ take_all (length line - a.next) (drop a.next line) (omega (arith, length-drop a.next line))) ends

          begins : drop 1 (drop a.next line) ≡ drop (a.next + 1) line
          begins = behind_first line a.next

          word_within : a.next + end ≤ length line
          word_within = omega (arith, word.inside, length-drop a.next line, word.behind)

          is_word : take (end - 1) (drop (a.next + 1) line) ≡ up_to_stop (drop (a.next + 1) line)
          is_word = rw begins at word.word

          word_length : length (up_to_stop (drop (a.next + 1) line)) ≡ end - 1
          word_length =
              ap length (sym is_word) ∙ simp (length-take, length-drop) (omega (arith, word_within, word.behind))

          fields_behind : drop (length (up_to_stop (drop (a.next + 1) line))) (drop (a.next + 1) line)
              ≡ drop (a.next + end) line
          fields_behind =
              let n : a.next + 1 + (end - 1) ≡ a.next + end = omega (arith, word.behind) in
              ap (λ (k : ℕ). drop k (drop (a.next + 1) line)) word_length ∙ drop-drop (end - 1) (a.next + 1) line
              ∙ ap (λ (k : ℕ). drop k line) n

          pub entry_kind : (part : List ℕ) → part ≡ take (a.next + end - (a.next + 1)) (drop (a.next + 1) line) → (t : Bool)
              → t ≡ given (by_row (row_in kind_rows part) (drop (a.next + end) line)) → t ≡ is_entry line
          entry_kind part bytes t h =
              let n : a.next + end - (a.next + 1) ≡ end - 1 = omega (arith, word.behind) in
              let w : part ≡ up_to_stop (drop (a.next + 1) line)
              = bytes ∙ ap (λ (k : ℕ). take k (drop (a.next + 1) line)) n ∙ is_word in
              h ∙ rw (w, ← fields_behind) (sym (kind_given (drop (a.next + 1) line)))
              ∙ sym behind_station
