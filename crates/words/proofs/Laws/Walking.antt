-- The store word by word: where a word's letters stand, and how far a search for a text has come.
-- Relies on the definitions of the store; the proofs of word_of and letters_of rely on it.
use Rattle.model.proofs.Kit.{◌≡◌, refl, sym, ap, ◌∙◌, Bool, true, false, cond, List, [], ℕ, suc, ◌+◌}
use Rattle.model.proofs.Kit.{◌-◌, ◌≤◌, ◌<◌, length, take, drop, get_or, drop_of_length-le, add-one, arith}
use lib.Seq.{take-suc, drop-cons}
use lib.Pointwise.{pointwise}
use Rattle.std.specs.Prelude.{nat_eq, sum}
use Rattle.std.proofs.lemmas.Slice.Eq.{slice_eq-Decides}
use Rattle.std.proofs.lemmas.Bool.Decides.{Decides-eqb}
use Rattle.std.proofs.lemmas.List.Sums.{sum_by_push, sum_by-take-le}
use Rattle.model.specs.Forms.{same}
use Rattle.model.specs.Show.{text, text_from}
use Rattle.model.proofs.Sheet.SameTexts.{same_says}
use Rattle.words.specs.Store.{index_in, Packed, words}

pub words_count : length words ≡ 22
unfolding words text text_from
words_count = refl

sum_next : (xs : List ℕ) (i : ℕ) → i < length xs → sum (take (suc i) xs) ≡ sum (take i xs) + get_or xs i 0
sum_next xs i h = ap sum (take-suc xs i 0 h) ∙ sum_by_push (λ (x : ℕ). x) (take i xs) (get_or xs i 0)

-- word i of a packed store, whose letters begin at `from`
module _ {lengths letters : List ℕ} {ws : List (List ℕ)} (packed : Packed lengths letters ws) {i from : ℕ}
    (h : i < length ws) (at : from ≡ sum (take i lengths)) where
  next : sum (take (suc i) lengths) ≡ from + get_or lengths i 0
  next = sum_next lengths i (omega (arith, packed.counted)) ∙ omega (arith, at)

  pub begins_next : from + get_or lengths i 0 ≡ sum (take (i + 1) lengths)
  begins_next = sym next ∙ ap (λ (k : ℕ). sum (take k lengths)) (sym (add-one i))

  pub end_inside : from + get_or lengths i 0 ≤ length letters
  end_inside = omega (arith, next, sum_by-take-le (λ (x : ℕ). x) lengths (suc i), packed.ends)

  -- the part of the letters that the code takes is the word
  pub part_is : take (from + get_or lengths i 0 - from) (drop from letters) ≡ get_or ws i []
  part_is =
      let n : from + get_or lengths i 0 - from ≡ get_or lengths i 0 = omega arith in
      (λ j. take (n j) (drop (at j) letters)) ∙ packed.begins i h

  -- and the code's test of it is that of the word
  pub part_tested : (t : List ℕ) (r s : Bool)
      → r ≡ pointwise nat_eq t (take (from + get_or lengths i 0 - from) (drop from letters))
      → r ≡ s → same t (get_or ws i []) ≡ s
  part_tested t r s tested e =
      same_says t (get_or ws i []) r s
      (slice_eq-Decides Decides-eqb t (get_or ws i []) r (tested ∙ ap (pointwise nat_eq t) part_is)) e

-- ---- looking for a text

module _ (ws : List (List ℕ)) (t : List ℕ) where
  -- none of the first i words is the text
  pub record Missed (i : ℕ) : Type 0 where
    pub further : index_in ws t ≡ i + index_in (drop i ws) t

  pub none_missed : Missed 0
  none_missed = record { further = omega arith }

  module _ {i : ℕ} (missed : Missed i) where
    pub all_missed : i ≡ length ws → i ≡ index_in ws t
    unfolding index_in
    all_missed e =
        let none : index_in (drop i ws) t ≡ 0
        = ap (λ (l : List (List ℕ)). index_in l t) (drop_of_length-le ws {i = i} (omega arith)) in
        omega (arith, missed.further)

    module _ (h : i < length ws) where
      here : index_in (drop i ws) t ≡ cond (same t (get_or ws i [])) 0 (suc (index_in (drop (suc i) ws) t))
      unfolding index_in
      here = ap (λ (l : List (List ℕ)). index_in l t) (drop-cons ws i [] h)

      tested : (s : Bool) → same t (get_or ws i []) ≡ s
          → index_in (drop i ws) t ≡ cond s 0 (suc (index_in (drop (suc i) ws) t))
      tested s e = here ∙ ap (λ (x : Bool). cond x 0 (suc (index_in (drop (suc i) ws) t))) e

      pub found_here : same t (get_or ws i []) ≡ true → i ≡ index_in ws t
      found_here e = omega (arith, missed.further, tested true e)

      pub missed_here : same t (get_or ws i []) ≡ false → Missed (i + 1)
      missed_here e = record {
        further = rw (add-one i) (omega (arith, missed.further, tested false e));
      }
