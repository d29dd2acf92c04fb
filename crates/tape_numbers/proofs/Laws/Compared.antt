-- A comparison's numbers: what the crate's contracts say where the refusal is one of the list, and where it is a number already.
-- Relies on the laws of a refusal's number; the proofs of the calls for C rely on it.
use Rattle.model.proofs.Kit.{◌≡◌, refl, ap, ◌∙◌, Bool, true, false, cond, List, ℕ, leb, length}
use Rattle.std.specs.Prelude.{MatchBool, Ok, Err, Some, None}
use Rattle.std.specs.declared.option.Option as options
use Rattle.std.specs.declared.result.Result.{Result}
use Rattle.model.specs.declared.refusal.Refusal.{Refusal}
use Rattle.model.specs.declared.Difference.{Difference}
use Rattle.model.specs.Tape.{Compared}
use Rattle.model.specs.Told.{comparison_told, start_told, length_told}
use Rattle.packing.specs.Numbered.{Numbered}
use Rattle.packing.proofs.Laws.Numbered.{Lists, listed, by_refusal, by_number}
use Rattle.tape_numbers.specs.Numbers.{refusal_number, culprit_number, found_in, two_fit, TwoFit}
use Rattle.tape_numbers.specs.Compared.{comparison_of, found_of, culprit_of, start_of, length_of}

-- ---- what was found: the number

-- what `put_found` promises of it, beside a refusal that converts so
abbrev pub Promised : {E : Type 0} → (E → ℕ → Type 0) → Result (options.Option Difference) E → (old : List ℕ) → ℕ → Type 0
Promised converts r old n =
    TwoFit old (Numbered converts r (λ (a : Result (options.Option Difference) ℕ). n ≡ refusal_number (comparison_of a)))
    (n ≡ 255)

module _ {E : Type 0} (converts : E → ℕ → Type 0) (r : Result (options.Option Difference) E) (c : Compared) (old : List ℕ)
    (n : ℕ)
    (told : Numbered converts r (λ (a : Result (options.Option Difference) ℕ). n ≡ refusal_number (comparison_of a))
    → n ≡ refusal_number c) where
  put : Promised converts r old n → n ≡ two_fit old (refusal_number c) 255
  unfolding TwoFit two_fit
  put = go (leb 2 (length old))
    where
      go : (t : Bool)
          → MatchBool t
          (Numbered converts r (λ (a : Result (options.Option Difference) ℕ). n ≡ refusal_number (comparison_of a)))
          (n ≡ 255)
          → n ≡ cond t (refusal_number c) 255
      go true h = told h
      go false h = h

-- any number that a byte holds
pub number_by_number : (r : Result (options.Option Difference) ℕ) (old : List ℕ) (n : ℕ)
    → Promised (λ (e k : ℕ). k ≡ e) r old n
    → n ≡ two_fit old (refusal_number (comparison_of r)) 255
number_by_number r old n =
    put (λ (e k : ℕ). k ≡ e) r (comparison_of r) old n
    (by_number r (λ (a : Result (options.Option Difference) ℕ). n ≡ refusal_number (comparison_of a)))

comparison_listed : (r : Result (options.Option Difference) Refusal) → comparison_of (listed r) ≡ comparison_told r
unfolding comparison_of listed comparison_told
comparison_listed (Ok None) = refl
comparison_listed (Ok (Some d)) = refl
comparison_listed (Err e) = refl

-- a refusal of the list
pub number_by_refusal : (r : Result (options.Option Difference) Refusal) (old : List ℕ) (n : ℕ)
    → Promised Lists r old n
    → n ≡ two_fit old (refusal_number (comparison_told r)) 255
number_by_refusal r old n =
    put Lists r (comparison_told r) old n
    (λ h. by_refusal r (λ (a : Result (options.Option Difference) ℕ). n ≡ refusal_number (comparison_of a)) h
    ∙ ap refusal_number (comparison_listed r))

-- ---- what was found: the list

pub found_by_number : (r : Result (options.Option Difference) ℕ) (old : List ℕ)
    → found_of r old ≡ found_in (comparison_of r) old
unfolding found_of found_in comparison_of
found_by_number (Ok None) old = refl
found_by_number (Ok (Some d)) old = refl
found_by_number (Err e) old = refl

pub found_by_refusal : (r : Result (options.Option Difference) Refusal) (old : List ℕ)
    → found_of r old ≡ found_in (comparison_told r) old
unfolding found_of found_in comparison_told
found_by_refusal (Ok None) old = refl
found_by_refusal (Ok (Some d)) old = refl
found_by_refusal (Err e) old = refl

-- ---- the culprit's part

pub culprit_by_number : (r : Result (options.Option Difference) ℕ) → culprit_of r ≡ culprit_number (comparison_of r)
unfolding culprit_of culprit_number comparison_of
culprit_by_number (Ok None) = refl
culprit_by_number (Ok (Some d)) = refl
culprit_by_number (Err e) = refl

pub culprit_by_refusal : (r : Result (options.Option Difference) Refusal)
    → culprit_of r ≡ culprit_number (comparison_told r)
unfolding culprit_of culprit_number comparison_told
culprit_by_refusal (Ok None) = refl
culprit_by_refusal (Ok (Some d)) = refl
culprit_by_refusal (Err e) = refl

pub start_by_refusal : (r : Result (options.Option Difference) Refusal) → start_of r ≡ start_told r
unfolding start_of start_told
start_by_refusal (Ok None) = refl
start_by_refusal (Ok (Some d)) = refl
start_by_refusal (Err e) = refl

pub length_by_refusal : (r : Result (options.Option Difference) Refusal) → length_of r ≡ length_told r
unfolding length_of length_told
length_by_refusal (Ok None) = refl
length_by_refusal (Ok (Some d)) = refl
length_by_refusal (Err e) = refl
