-- Laying: the answer and bytes at each return.
-- Relies on the model's refusals and on what the shape's function promises; the proof of `lay` relies on it.
use Rattle.model.proofs.Kit.{◌≡◌, refl, sym, ap, ◌∙◌, Bool, List, ◌∷◌, none, some, ℕ, suc, ◌-◌, ◌<◌}
use Rattle.model.proofs.Kit.{length, replicate, set, length-replicate, length-set, arith}
use Rattle.std.specs.Prelude.{Ok, Err}
use Rattle.std.specs.declared.result.Result.{Result}
use Rattle.model.specs.declared.refusal.Refusal as refusals
use Rattle.model.specs.Layout.{board_length, fresh_board}
use Rattle.model.specs.Calls.{Refusal, ranges, laid_ranges, shape_refusal, unless_refused, lay}
use Rattle.model.specs.Told.{verdict, number}
use Rattle.model.proofs.Calls.Refusals.{Shape, inside_laid, shape_of}
use Rattle.soundness.specs.Shaped.{Shaped}

-- a cleared board with n and K in front
two_set : (n K m : ℕ) → set (set (replicate (suc (suc m)) 0) 0 n) 1 K ≡ n ∷ K ∷ replicate m 0
two_set n K m = refl

fresh_set : (n K m : ℕ) → m ≡ board_length n K → set (set (replicate m 0) 0 n) 1 K ≡ fresh_board n K
unfolding fresh_board board_length
fresh_set n K m e =
    ap (λ (l : ℕ). set (set (replicate l 0) 0 n) 1 K) (e ∙ long) ∙ two_set n K (board_length n K - 2)
  where
    long : board_length n K ≡ suc (suc (board_length n K - 2))
    long = omega arith

module _ (n K : ℕ) (b : List ℕ) (s i : Bool) (es : s ≡ laid_ranges.stations_in n) (ei : i ≡ ranges.islands_in K)
    (r : Result (Unit {0}) refusals.Refusal) (sh : Shaped n K s i b r) where
  said : verdict r ≡ shape_refusal laid_ranges n K b none
  unfolding Shaped laid_ranges
  said = sh laid_ranges es ei

  by_shape : (q : Refusal) → verdict r ≡ q
      → (q ≡ (lay n K b).answer)
      × ((unless_refused q some b (record { answer = none; bytes = fresh_board n K })).bytes ≡ (lay n K b).bytes)
  unfolding lay unless_refused
  by_shape q e = (
    answers q
        ∙ ap (λ (r : Refusal). (unless_refused r some b (record { answer = none; bytes = fresh_board n K })).answer)
        (sym e ∙ said),
    ap (λ (r : Refusal). (unless_refused r some b (record { answer = none; bytes = fresh_board n K })).bytes)
        (sym e ∙ said),
  )
    where
      answers : (q : Refusal) → q ≡ (unless_refused q some b (record { answer = none; bytes = fresh_board n K })).answer
      answers none = refl
      answers (some k) = refl

  -- a refusal: its number, and the bytes as they were
  module _ (k : refusals.Refusal) (e : r ≡ Err k) where
    turned : (some (number k) ≡ (lay n K b).answer) × (b ≡ (lay n K b).bytes)
    unfolding verdict unless_refused
    turned = by_shape (some (number k)) (ap verdict e)

    pub refused_answer : verdict (Err k) ≡ (lay n K b).answer
    unfolding verdict
    refused_answer = turned.0

    pub refused_bytes : b ≡ (lay n K b).bytes
    refused_bytes = turned.1

  module _ (x : Unit {0}) (e : r ≡ Ok x) (c : List ℕ) (ec : c ≡ replicate (length b) 0) where
    free : verdict r ≡ none
    unfolding verdict
    free = ap verdict e

    shape : Shape n K b
    shape = (shape_of n K b laid_ranges inside_laid none (sym said ∙ free)).0

    pub first_byte : 0 < length c
    first_byte = omega (arith, ap length ec ∙ length-replicate (length b) 0, shape.long)

    pub second_byte : 1 < length (set c 0 n)
    second_byte = simp length-set (omega (arith, ap length ec ∙ length-replicate (length b) 0, shape.long))

    pub laid : (verdict (Ok tt) ≡ (lay n K b).answer) × (set (set c 0 n) 1 K ≡ (lay n K b).bytes)
    unfolding verdict unless_refused
    laid =
        let now = by_shape none free in (
          now.0,
          ap (λ (l : List ℕ). set (set l 0 n) 1 K) ec ∙ fresh_set n K (length b) shape.len ∙ now.1,
        )

-- what each step of a laying has to show
pub ruleset steps = (refused_answer, refused_bytes, first_byte, second_byte, laid)
