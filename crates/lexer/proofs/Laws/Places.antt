-- The byte at a place of a line, as the code reads it, by `get` too, and as the model's reader finds it in front of what
-- follows.
-- Relies on the kit's lists; the laws of numbers here, and those of items and forms above, rely on it.
use Rattle.model.proofs.Kit.{◌≡◌, sym, ap, ◌∙◌, List, ◌∷◌, ℕ, ◌+◌, ◌-◌, ◌<◌, length, drop, length-drop, get_or, drop-drop}
use Rattle.model.proofs.Kit.{add-one, ne_eqb, eqb, eqb-true, eqb-false, ltb-true, ltb-false, lt_of_not-le, Bool, true, false, not}
use Rattle.model.proofs.Kit.{◌≤◌, refl, arith}
use lib.ListN.{get_or-eq_default}
use Rattle.std.proofs.lemmas.List.{get_or_default}
use lib.Seq.{drop-cons, get_or-drop}
use Rattle.std.specs.Borrow.{Bor}
use Rattle.std.specs.Prelude.{Option, Some, None, is_some, IfSome, nat_lt}
use Rattle.std.specs.Option.{option_eq}
use Rattle.model.specs.Bytes.{byte}

module _ (line : List ℕ) (at : ℕ) where
  pub here : at < length line → drop at line ≡ get_or line at 0 ∷ drop (at + 1) line
  here h = drop-cons line at 0 h ∙ ap (λ (k : ℕ). get_or line at 0 ∷ drop k line) (sym (add-one at))

  pub first_byte : byte (drop at line) 0 ≡ get_or line at 0
  first_byte = get_or-drop at line 0 0 ∙ ap (λ (k : ℕ). get_or line k 0) (omega arith)

  pub behind_first : drop 1 (drop at line) ≡ drop (at + 1) line
  behind_first = drop-drop 1 at line

  pub left_over : length (drop at line) ≡ length line - at
  left_over = length-drop at line

  -- where something is left, the place lies inside
  pub some_byte : (b : ℕ) (l : List ℕ) → drop at line ≡ b ∷ l → at < length line
  some_byte b l e = omega (arith, left_over, ap length e)

-- the byte that `get` found
pub byte_found : (line : List ℕ) (at b : ℕ) → true ≡ nat_lt at (length line) → b ≡ get_or line at b
    → (at < length line) × (b ≡ get_or line at 0)
byte_found line at b in-line e =
    let inside = ltb-true at (length line) (sym in-line) in (inside, e ∙ get_or_default line at b 0 inside)

-- and compared with one that is not zero
module _ (line : List ℕ) (at : ℕ) (r : Option (Bor ℕ)) (there : is_some r ≡ nat_lt at (length line))
    (item : IfSome r (λ x. x.now ≡ get_or line at x.now)) (b : Bor ℕ) (some : 0 < b.now) where
  compared : Bool
  compared = option_eq (λ x y. eqb x.now y.now) r (Some b)

  tested : compared ≡ eqb (get_or line at 0) b.now
  unfolding compared
  tested = go r there item
    where
      go : (r : Option (Bor ℕ)) → is_some r ≡ nat_lt at (length line) → IfSome r (λ x. x.now ≡ get_or line at x.now)
          → option_eq (λ x y. eqb x.now y.now) r (Some b) ≡ eqb (get_or line at 0) b.now
      go None out item =
          sym (ne_eqb _ _ (λ e. omega (arith, get_or-eq_default line 0 (ltb-false at (length line) (sym out)))))
      go (Some x) out item = ap (λ k. eqb k b.now) (byte_found line at x.now out item).1

  pub is_byte : true ≡ option_eq (λ x y. eqb x.now y.now) r (Some b) → get_or line at 0 ≡ b.now
  unfolding compared
  is_byte e = eqb-true _ _ (sym (e ∙ tested))

  pub no_byte : false ≡ option_eq (λ x y. eqb x.now y.now) r (Some b) → get_or line at 0 ≡ b.now → ⊥
  unfolding compared
  no_byte e = eqb-false _ _ (sym (e ∙ tested))

-- so that what stands there is inside
pub stands_inside : (line : List ℕ) (at b : ℕ) → 0 < b → get_or line at 0 ≡ b → at < length line
stands_inside line at b some e =
    lt_of_not-le (λ (h : length line ≤ at). absurd (omega (arith, get_or-eq_default line 0 h)))

-- `!=` in place of `==`
pub not_not : (t u : Bool) → t ≡ not u → not t ≡ u
not_not true true e = sym e
not_not true false e = refl
not_not false true e = refl
not_not false false e = sym e
