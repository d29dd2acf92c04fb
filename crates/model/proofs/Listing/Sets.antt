-- Values in the order in which they were read, one more at the end: membership, the only value, the largest one.
-- Relies on the definitions of Collects; Page relies on it.
use Rattle.model.proofs.Kit.{◌≡◌, refl, sym, ◌∙◌, Bool, true, false, inl, inr, List, [], ◌∷◌, ◌++◌}
use Rattle.model.specs.Collects.{◌∈◌, Only, Max}
use Rattle.model.proofs.Basics.Tests.{clash, by_test}

module _ {A : Type 0} where
  pub in_before : (a : A) (S T : List A) → a ∈ S → a ∈ (S ++ T)
  unfolding ◌∈◌
  in_before a [] T h = absurd h
  in_before a (b ∷ S) T (inl e) = inl e
  in_before a (b ∷ S) T (inr h) = inr (in_before a S T h)

  pub in_last : (a : A) (S : List A) → a ∈ (S ++ (a ∷ []))
  unfolding ◌∈◌
  in_last a [] = inl refl
  in_last a (b ∷ S) = inr (in_last a S)

  -- what holds of the values of S, and of one more
  for_all : (P : A → Type 0) (b : A) (S : List A) → ((w : A) → w ∈ S → P w) → P b → (w : A) → w ∈ (S ++ (b ∷ [])) → P w
  unfolding ◌∈◌
  for_all P b [] f p w (inl e) = rw e p
  for_all P b [] f p w (inr h) = absurd h
  for_all P b (d ∷ S) f p w (inl e) = f w (inl e)
  for_all P b (d ∷ S) f p w (inr h) = for_all P b S (λ x g. f x (inr g)) p w h

  -- ---- S = {v}

  pub only_one : (a : A) → Only (a ∷ []) a
  unfolding ◌∈◌
  only_one a = record { among = inl refl; no_other = for_all (λ w. w ≡ a) a [] (λ w h. absurd h) refl }

  pub only_again : (a b : A) (S : List A) → Only S a → a ≡ b → Only (S ++ (b ∷ [])) a
  only_again a b S h e = record {
    among = in_before a S (b ∷ []) h.among;
    no_other = for_all (λ w. w ≡ a) b S h.no_other (sym e);
  }

  -- two different values
  abbrev pub Two : List A → Type 0
  Two S = (a b : A) × (a ∈ S) × (b ∈ S) × (a ≡ b → ⊥)

  pub two_more : (b : A) (S : List A) → Two S → Two (S ++ (b ∷ []))
  two_more b S (x, y, p, q, d) = (x, y, in_before x S (b ∷ []) p, in_before y S (b ∷ []) q, d)

  pub two_now : (a b : A) (S : List A) → a ∈ S → (a ≡ b → ⊥) → Two (S ++ (b ∷ []))
  two_now a b S h d = (a, b, in_before a S (b ∷ []) h, in_last b S, d)

  pub two_not_only : (S : List A) → Two S → (a : A) → Only S a → ⊥
  two_not_only S (x, y, p, q, d) a o = d (o.no_other x p ∙ sym (o.no_other y q))

  -- ---- v = max(S)

  pub record Ordering (above : A → A → Bool) : Type 0 where
    pub irreflexive : (x : A) → above x x ≡ false
    pub transitive : (x y z : A) → above x y ≡ true → above y z ≡ true → above x z ≡ true

  module _ (above : A → A → Bool) (o : Ordering above) where
    pub only_max : (a : A) (S : List A) → Only S a → Max above S a
    only_max a S h = record { among = h.among; none_above = λ w g. rw (h.no_other w g) (o.irreflexive a) }

    -- one more that is not above the largest
    pub max_stays : (a b : A) (S : List A) → Max above S a → above b a ≡ false → Max above (S ++ (b ∷ [])) a
    max_stays a b S h e = record {
      among = in_before a S (b ∷ []) h.among;
      none_above = for_all (λ w. above w a ≡ false) b S h.none_above e;
    }

    -- one more that is
    pub max_moves : (a b : A) (S : List A) → Max above S a → above b a ≡ true → Max above (S ++ (b ∷ [])) b
    max_moves a b S h e = record {
      among = in_last b S;
      none_above = for_all (λ w. above w b ≡ false) b S
          (λ w g. by_test (above w b) (λ f. clash (sym (o.transitive w b a f e) ∙ h.none_above w g)) (λ f. f))
          (o.irreflexive b);
    }

  pub max_unique : (above : A → A → Bool) → ((x y : A) → above x y ≡ false → above y x ≡ false → x ≡ y)
      → (S : List A) (a b : A) → Max above S a → Max above S b → a ≡ b
  max_unique above total S a b h g = total a b (g.none_above a h.among) (h.none_above b g.among)
