-- A text is the word with an index exactly where it has that index: a reader may test the index in the place of the
-- text.
-- Relies on the definitions of the store; the proofs of the readers of forms, of items and of tape lines rely on it.
use Rattle.model.proofs.Kit.{◌≡◌, refl, sym, ap, ◌∙◌, Bool, true, false, cond, List, [], ◌∷◌, ℕ, zero, suc, ◌<◌, length}
use Rattle.model.proofs.Kit.{get_or, eqb, eq-eqb, ne_eqb, arith}
use Rattle.model.specs.Forms.{same}
use Rattle.model.proofs.Basics.Tests.{clash}
use Rattle.model.proofs.Sheet.SameTexts.{same_equal}
use Rattle.words.specs.Store.{words, word_text, index_in, Packed}
use Rattle.words.proofs.Laws.Packing.{packed_store}

-- the index of a word that is there leads to it
index_leads : (ws : List (List ℕ)) (t : List ℕ) → index_in ws t < length ws → same t (get_or ws (index_in ws t) []) ≡ true
unfolding index_in
index_leads [] t h = absurd (omega arith)
index_leads (w ∷ ws) t h = go (same t w) refl h (index_leads ws t)
  where
    go : (s : Bool) → same t w ≡ s → cond s 0 (suc (index_in ws t)) < suc (length ws)
        → (index_in ws t < length ws → same t (get_or ws (index_in ws t) []) ≡ true)
        → same t (get_or (w ∷ ws) (cond s 0 (suc (index_in ws t))) []) ≡ true
    go true e l more = e
    go false e l more = more (omega arith)

-- and a word that is there has an index
index_below : (ws : List (List ℕ)) (t : List ℕ) (i : ℕ) → i < length ws → same t (get_or ws i []) ≡ true
    → index_in ws t < length ws
unfolding index_in
index_below [] t i h e = absurd (omega arith)
index_below (w ∷ ws) t zero h e = rw e (omega arith)
index_below (w ∷ ws) t (suc i) h e = go (same t w) (index_below ws t i (omega arith) e)
  where
    go : (s : Bool) → index_in ws t < length ws → cond s 0 (suc (index_in ws t)) < suc (length ws)
    go true l = omega arith
    go false l = omega arith

-- of packed words only one has a text, so that its index is the text's
module _ {lengths letters : List ℕ} {ws : List (List ℕ)} (packed : Packed lengths letters ws) (t : List ℕ) (i : ℕ)
    (h : i < length ws) where
  index_there : same t (get_or ws i []) ≡ true → index_in ws t ≡ i
  index_there e =
      let below = index_below ws t i h e in
      packed.once (index_in ws t) i below h
      (sym (same_equal t _ (index_leads ws t below)) ∙ same_equal t (get_or ws i []) e)

  pub index_tells : same t (get_or ws i []) ≡ eqb (index_in ws t) i
  index_tells = go (same t (get_or ws i [])) refl
    where
      other : same t (get_or ws i []) ≡ false → index_in ws t ≡ i → ⊥
      other e q = clash (sym (index_leads ws t (omega arith)) ∙ ap (λ (k : ℕ). same t (get_or ws k [])) q ∙ e)

      go : (s : Bool) → same t (get_or ws i []) ≡ s → s ≡ eqb (index_in ws t) i
      go true e = sym (eq-eqb _ _ (index_there e))
      go false e = sym (ne_eqb _ _ (other e))

-- of the store's words
pub word_tells : (t : List ℕ) (i : ℕ) → i < length words → same t (word_text i) ≡ eqb (index_in words t) i
unfolding word_text
word_tells t i h = index_tells (packed_store refl refl) t i h
