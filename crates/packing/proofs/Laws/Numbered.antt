-- Answers whose refusal converts to a number: what shows that something holds of the answer with that number, and what that says
-- where the refusal is one of the list, and where it is a number already.
-- Relies on the packing's definitions; the proofs of the packing, of a comparison's numbers and of the calls for C rely on it.
use Rattle.model.proofs.Kit.{◌≡◌, refl, sym, ap, subst, ◌∙◌, ℕ}
use Rattle.std.specs.Prelude.{Ok, Err}
use Rattle.std.specs.declared.result.Result.{Result}
use Rattle.model.specs.declared.refusal.Refusal.{Refusal}
use Rattle.model.specs.declared.Ran.{Ran}
use Rattle.model.specs.declared.RoundsPlayed.{RoundsPlayed}
use Rattle.model.specs.declared.Effort.{Effort}
use Rattle.model.specs.Told.{number, verdict, run_told, rounds_told, standing_answered}
use Rattle.packing.specs.Packing.{pack_verdict, pack_run, pack_rounds, pack_standing}
use Rattle.packing.specs.Numbered.{Numbered, verdict_of, run_of, rounds_of, standing_of}

module _ {A E : Type 0} (converts : E → ℕ → Type 0) (r : Result A E) (P : Result A ℕ → Type 0) where
  pub numbered_ok : (a : A) → r ≡ Ok a → P (Ok a) → Numbered converts r P
  unfolding Numbered
  numbered_ok a is p = subst (λ (x : Result A E). Numbered converts x P) (sym is) p

  pub numbered_err : (e : E) → r ≡ Err e → (k : ℕ) → converts e k → P (Err k) → Numbered converts r P
  unfolding Numbered
  numbered_err e is k c p = subst (λ (x : Result A E). Numbered converts x P) (sym is) (k, c, p)

-- ---- a refusal that is a number already: any number

pub by_number : {A : Type 0} (r : Result A ℕ) (P : Result A ℕ → Type 0) → Numbered (λ (e k : ℕ). k ≡ e) r P → P r
unfolding Numbered
by_number (Ok a) P h = h
by_number (Err e) P h = subst (λ (k : ℕ). P (Err k)) h.1 h.2

-- ---- a refusal of the list: its number there

abbrev pub Lists : Refusal → ℕ → Type 0
Lists e k = k ≡ number e

-- the answer with that number in its place
unfoldable pub listed : {A : Type 0} → Result A Refusal → Result A ℕ
listed (Ok a) = Ok a
listed (Err e) = Err (number e)

pub by_refusal : {A : Type 0} (r : Result A Refusal) (P : Result A ℕ → Type 0) → Numbered Lists r P → P (listed r)
unfolding Numbered listed
by_refusal (Ok a) P h = h
by_refusal (Err e) P h = subst (λ (k : ℕ). P (Err k)) h.1 h.2

verdict_listed : (r : Result (Unit {0}) Refusal) → verdict_of (listed r) ≡ verdict r
unfolding verdict_of listed verdict
verdict_listed (Ok a) = refl
verdict_listed (Err e) = refl

run_listed : (r : Result Ran Refusal) → run_of (listed r) ≡ run_told r
unfolding run_of listed run_told
run_listed (Ok a) = refl
run_listed (Err e) = refl

rounds_listed : (r : Result RoundsPlayed Refusal) → rounds_of (listed r) ≡ rounds_told r
unfolding rounds_of listed rounds_told
rounds_listed (Ok a) = refl
rounds_listed (Err e) = refl

standing_listed : (r : Result Effort Refusal) → standing_of (listed r) ≡ standing_answered r
unfolding standing_of listed standing_answered
standing_listed (Ok a) = refl
standing_listed (Err e) = refl

pub verdict_packed : (r : Result (Unit {0}) Refusal) (n : ℕ)
    → Numbered Lists r (λ (a : Result (Unit {0}) ℕ). n ≡ pack_verdict (verdict_of a))
    → n ≡ pack_verdict (verdict r)
verdict_packed r n h =
    by_refusal r (λ (a : Result (Unit {0}) ℕ). n ≡ pack_verdict (verdict_of a)) h ∙ ap pack_verdict (verdict_listed r)

pub run_packed : (r : Result Ran Refusal) (n : ℕ) → Numbered Lists r (λ (a : Result Ran ℕ). n ≡ pack_run (run_of a))
    → n ≡ pack_run (run_told r)
run_packed r n h = by_refusal r (λ (a : Result Ran ℕ). n ≡ pack_run (run_of a)) h ∙ ap pack_run (run_listed r)

pub rounds_packed : (r : Result RoundsPlayed Refusal) (n : ℕ)
    → Numbered Lists r (λ (a : Result RoundsPlayed ℕ). n ≡ pack_rounds (rounds_of a))
    → n ≡ pack_rounds (rounds_told r)
rounds_packed r n h =
    by_refusal r (λ (a : Result RoundsPlayed ℕ). n ≡ pack_rounds (rounds_of a)) h ∙ ap pack_rounds (rounds_listed r)

pub standing_packed : (r : Result Effort Refusal) (n : ℕ)
    → Numbered Lists r (λ (a : Result Effort ℕ). n ≡ pack_standing (standing_of a))
    → n ≡ pack_standing (standing_answered r)
standing_packed r n h =
    by_refusal r (λ (a : Result Effort ℕ). n ≡ pack_standing (standing_of a)) h ∙ ap pack_standing (standing_listed r)
