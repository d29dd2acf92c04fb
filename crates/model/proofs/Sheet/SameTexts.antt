-- The test of two texts: what it says of them, and that a test by the code is the model's.
-- Relies on the forms' test; the laws of the reader and of tapes, and all proofs of code that compares texts, rely on
-- it.
use Rattle.model.proofs.Kit.{◌≡◌, refl, sym, ap, ◌∙◌, Bool, true, false, ◌&&◌, List, [], ◌∷◌, ℕ, eq-eqb, eqb, T}
use Rattle.model.proofs.Kit.{eqb→eq}
use Rattle.model.specs.Forms.{same}
use Rattle.model.proofs.Basics.Tests.{true-T, and_l, and_r}

pub same_text : (k l : List ℕ) → T (same k l) → k ≡ l
unfolding same
same_text [] [] t = refl
same_text [] (b ∷ l) t = absurd t
same_text (a ∷ k) [] t = absurd t
same_text (a ∷ k) (b ∷ l) t =
    λ j. eqb→eq a b (and_l (eqb a b) (same k l) t) j ∷ same_text k l (and_r (eqb a b) (same k l) t) j

pub same_self : (a : List ℕ) → same a a ≡ true
unfolding same
same_self [] = refl
same_self (x ∷ a) = ap (λ (t : Bool). t && same a a) (eq-eqb x x refl) ∙ same_self a

pub same_equal : (a b : List ℕ) → same a b ≡ true → a ≡ b
same_equal a b e = same_text a b (true-T (same a b) e)

-- an answer that is true exactly where two texts are equal is the model's
pub same_is : (a b : List ℕ) (r : Bool) → (r ≡ true → a ≡ b) × (a ≡ b → r ≡ true) → r ≡ same a b
same_is a b r h = go r h (same a b) refl
  where
    go : (r : Bool) → (r ≡ true → a ≡ b) × (a ≡ b → r ≡ true) → (s : Bool) → s ≡ same a b → r ≡ same a b
    go true h s e = sym (ap (λ (x : List ℕ). same a x) (sym (h.0 refl)) ∙ same_self a)
    go false h true e = h.1 (same_equal a b (sym e)) ∙ e
    go false h false e = e

pub same_says : (a b : List ℕ) (r t : Bool) → (r ≡ true → a ≡ b) × (a ≡ b → r ≡ true) → r ≡ t → same a b ≡ t
same_says a b r t h e = sym (same_is a b r h) ∙ e
