-- Rows of words, as the model's readers have them, by the indices of their words in the store: a row is found by its
-- index alone.
-- Relies on the laws of indices; the proofs of the readers of forms and of tape lines rely on it.
use Rattle.model.proofs.Kit.{◌≡◌, refl, ap, ◌∙◌, Bool, cond, List, [], ◌∷◌, none, some, Option, ℕ, ◌<◌, length, eqb}
use Rattle.model.specs.Forms.{same, WordRow, row_in}
use Rattle.words.specs.Store.{words, word_text, index_in}
use Rattle.words.proofs.Laws.Indices.{word_tells}

module _ {A : Type 0} where
  -- the word of each row is the one with the index beside it
  abbrev pub Indexed : (indices : List ℕ) → List (WordRow A) → Type 0
  Indexed [] [] = Unit {0}
  Indexed [] (r ∷ rs) = ⊥
  Indexed (i ∷ is) [] = ⊥
  Indexed (i ∷ is) (r ∷ rs) = (i < length words) × (r.word ≡ word_text i) × Indexed is rs

  -- the row beside an index
  abbrev pub row_with : (indices : List ℕ) → List (WordRow A) → (index : ℕ) → Option (WordRow A)
  row_with [] rs k = none
  row_with (i ∷ is) [] k = none
  row_with (i ∷ is) (r ∷ rs) k = cond (eqb k i) (some r) (row_with is rs k)

  pub row_by_index : (is : List ℕ) (rs : List (WordRow A)) → Indexed is rs → (w : List ℕ)
      → row_in rs w ≡ row_with is rs (index_in words w)
  unfolding row_in
  row_by_index [] [] h w = refl
  row_by_index [] (r ∷ rs) h w = absurd h
  row_by_index (i ∷ is) [] h w = absurd h
  row_by_index (i ∷ is) (r ∷ rs) h w =
      ap (λ (t : Bool). cond t (some r) (row_in rs w)) (ap (same w) h.1 ∙ word_tells w i h.0)
      ∙ ap (cond (eqb (index_in words w) i) (some r)) (row_by_index is rs h.2 w)
