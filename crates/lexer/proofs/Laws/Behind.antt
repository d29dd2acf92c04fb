-- A given word in front of some bytes, and at a place of a line.
-- Relies on Places, Answers, Given and the model's `behind`; the proof of word::word_at, and the laws of items above, rely on
-- it.
use Rattle.model.proofs.Kit.{◌≡◌, refl, sym, ap, ◌∙◌, Bool, true, false, List, [], ◌∷◌, ◌++◌, none, some, Option, ℕ, ◌+◌, ◌-◌}
use Rattle.model.proofs.Kit.{◌≤◌, ◌<◌, eqb-true, eq-eqb, eqb, length, length-append, take, drop, drop-drop, take_all, arith}
use Rattle.std.specs.Prelude.{nat_eq, slice_range}
use lib.Pointwise.{pointwise}
use Rattle.std.proofs.lemmas.Slice.Eq.{starts_is}
use Rattle.std.proofs.lemmas.Bool.Decides.{Decides-eqb}
use Rattle.model.specs.Forms.{behind}
use Rattle.model.proofs.Basics.Tests.{clash, never}
use Rattle.model.specs.Forms.{or_four}
use Rattle.std.specs.Prelude.{Ok, Err}
use Rattle.std.specs.declared.result.Result.{Result}
use Rattle.model.specs.declared.refusal.Refusal.{Refusal}
use Rattle.model.specs.declared.refusal.Refusal.TheVariants.{NoForm}
use Rattle.lexer.specs.Words.{word_at, WordIs}
use Rattle.lexer.proofs.Laws.Answers.{back, was_read}
use Rattle.lexer.proofs.Laws.Given.{passed}
use Rattle.lexer.proofs.Laws.Places.{left_over}

text_there : (w rest : List ℕ) → behind w (w ++ rest) ≡ some rest
unfolding behind
text_there [] rest = refl
text_there (a ∷ w) rest = rw (eq-eqb a a refl) (text_there w rest)

text_in_front : (w l rest : List ℕ) → behind w l ≡ some rest → l ≡ w ++ rest
unfolding behind
text_in_front [] l rest e = let same : l ≡ rest = cc in same
text_in_front (a ∷ w) [] rest e = never rest e
text_in_front (a ∷ w) (b ∷ l) rest e =
    let p = passed (eqb a b) (behind w l) rest e in
    let head : a ≡ b = eqb-true a b p.0 in
    let tail = text_in_front w l rest p.1 in
    cc

text_not_there : (w l : List ℕ) → ((rest : List ℕ) → l ≡ w ++ rest → ⊥) → behind w l ≡ none
text_not_there w l ne = go (behind w l) refl
  where
    go : (o : Option (List ℕ)) → behind w l ≡ o → o ≡ none
    go none e = refl
    go (some rest) e = absurd (ne rest (text_in_front w l rest e))

-- a text that was found in front
pub text_found : (w l rest : List ℕ) → behind w l ≡ some rest → (rest ≡ drop (length w) l) × (length w ≤ length l)
unfolding behind
text_found [] l rest e = let same : l ≡ rest = cc in (sym same, omega arith)
text_found (a ∷ w) [] rest e = never rest e
text_found (a ∷ w) (b ∷ l) rest e =
    let more = text_found w l rest (passed (eqb a b) (behind w l) rest e).1 in
    (more.0, omega (arith, more.1))

-- ---- at a place

module _ (line : List ℕ) (at : ℕ) (w : List ℕ) where
  no_word : behind w (drop at line) ≡ none → WordIs line at w (Err NoForm)
  unfolding word_at or_four
  no_word e = record { reads = ap or_four (sym e); inside = tt }

  pub word_past : 0 < length w → length line < at → WordIs line at w (Err NoForm)
  word_past one past =
      no_word (text_not_there w (drop at line) (λ rest e.
      omega (arith, left_over line at, ap length e, length-append w rest)))

  -- the bytes from `at` on, as the code tests them
  module _ (rest : List ℕ) (is : rest ≡ slice_range line at (length line)) (t : Bool)
      (tested : t ≡ pointwise nat_eq w (take (length w) rest)) where
    all_left : rest ≡ drop at line
    all_left = is ∙ take_all (length line - at) (drop at line) (omega (arith, left_over line at))

    says : (t ≡ true → drop at line ≡ w ++ drop (length w) (drop at line))
        × ((k : List ℕ) → drop at line ≡ w ++ k → t ≡ true)
    says = starts_is Decides-eqb (drop at line) w t (rw all_left at tested)

    pub word_other : t ≡ false → WordIs line at w (Err NoForm)
    word_other e = no_word (text_not_there w (drop at line) (λ k q. clash (sym (says.1 k q) ∙ e)))

    pub word_there : t ≡ true → WordIs line at w (Ok (at + length w))
    unfolding word_at or_four
    word_there e =
        let after : behind w (drop at line) ≡ some (drop (length w) (drop at line)) =
        ap (behind w) (says.0 e) ∙ text_there w (drop (length w) (drop at line)) in
        record { reads = sym (ap or_four (after ∙ ap some (drop-drop (length w) at line))); inside = omega arith }

-- ---- what an answer that was taken apart says

module _ (line : List ℕ) (at : ℕ) (w : List ℕ) (r : Result ℕ Refusal) (is : WordIs line at w r) where
  pub word_missed : (k : Refusal) → r ≡ Err k → behind w (drop at line) ≡ none
  unfolding word_at back
  word_missed k e = was_read (word_at line) _ r _ is.reads e

  pub word_found : (next : ℕ) → r ≡ Ok next → behind w (drop at line) ≡ some (drop next line)
  unfolding word_at back
  word_found next e = was_read (word_at line) _ r _ is.reads e

  pub word_inside : (next : ℕ) → r ≡ Ok next → at ≤ next
  word_inside next e = rw e at is.inside
