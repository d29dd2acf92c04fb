-- A comparison's numbers, as the calls for C promise them.
-- Relies on what the comparison promises and on the laws of its numbers; the proofs of `compared` rely on it.
use Rattle.model.proofs.Kit.{◌≡◌, ap, ◌∙◌, List, ℕ, length}
use Rattle.std.specs.declared.option.Option.{Option}
use Rattle.std.specs.declared.result.Result.{Result}
use Rattle.model.specs.declared.refusal.Refusal.{Refusal}
use Rattle.model.specs.declared.Difference.{Difference}
use Rattle.model.specs.Tape.{Compared, compare, culprit_part}
use Rattle.model.specs.Told.{comparison_told, start_told, length_told}
use Rattle.tapes.specs.Comparing.{Compares}
use Rattle.tape_numbers.specs.Numbers.{refusal_number, culprit_number, two_in, found_in, two_fit}
use Rattle.tape_numbers.specs.Compared.{found_of, culprit_of, start_of, length_of}
use Rattle.tape_numbers.proofs.Laws.Compared.{Promised, number_by_refusal, found_by_refusal, culprit_by_refusal}
use Rattle.tape_numbers.proofs.Laws.Compared.{start_by_refusal, length_by_refusal}
use Rattle.packing.proofs.Laws.Numbered.{Lists}

module _ (s a b : List ℕ) (r : Result (Option Difference) Refusal) (h : Compares s a b r) (l : List ℕ) where
  pub compared_refusal : (n : ℕ) → n ≡ two_fit l (refusal_number (comparison_told r)) 255
      → n ≡ two_fit l (refusal_number (compare s a b)) 255
  compared_refusal n e = e ∙ ap (λ (q : Compared). two_fit l (refusal_number q) 255) h.answer

  pub compared_found : (d : List ℕ) → d ≡ two_fit l (found_in (comparison_told r) l) l
      → d ≡ two_fit l (found_in (compare s a b) l) l
  compared_found d e = e ∙ ap (λ (q : Compared). two_fit l (found_in q l) l) h.answer

  pub compared_culprit : (n : ℕ) → n ≡ two_fit l (culprit_number (comparison_told r)) 255
      → n ≡ two_fit l (culprit_number (compare s a b)) 255
  compared_culprit n e = e ∙ ap (λ (q : Compared). two_fit l (culprit_number q) 255) h.answer

  pub compared_part : (d : List ℕ) → d ≡ two_fit l (two_in (start_told r) (length_told r) l) l
      → d
      ≡ two_fit l (two_in (culprit_part a b (compare s a b)).start (length (culprit_part a b (compare s a b)).bytes) l) l
  compared_part d e = e ∙ (λ j. two_fit l (two_in (h.start j) (h.len j) l) l)

  -- ---- the same from what `put_found` and `put_part` promise

  pub put_refusal : (n : ℕ) → Promised Lists r l n → n ≡ two_fit l (refusal_number (compare s a b)) 255
  put_refusal n e = compared_refusal n (number_by_refusal r l n e)

  pub put_list : (d : List ℕ) → d ≡ two_fit l (found_of r l) l → d ≡ two_fit l (found_in (compare s a b) l) l
  put_list d e = compared_found d (e ∙ ap (λ (k : List ℕ). two_fit l k l) (found_by_refusal r l))

  pub put_culprit : (n : ℕ) → n ≡ two_fit l (culprit_of r) 255 → n ≡ two_fit l (culprit_number (compare s a b)) 255
  put_culprit n e = compared_culprit n (e ∙ ap (λ (k : ℕ). two_fit l k 255) (culprit_by_refusal r))

  pub put_place : (d : List ℕ) → d ≡ two_fit l (two_in (start_of r) (length_of r) l) l
      → d
      ≡ two_fit l (two_in (culprit_part a b (compare s a b)).start (length (culprit_part a b (compare s a b)).bytes) l) l
  put_place d e =
      compared_part d (e ∙ (λ j. two_fit l (two_in (start_by_refusal r j) (length_by_refusal r j) l) l))
