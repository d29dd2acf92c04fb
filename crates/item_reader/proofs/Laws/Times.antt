-- "(times k " at a place of a line.
-- Relies on the lexer's Places, Behind and Answers and the model's `times_in`; the proof of `times` and the run of
-- items rely on it.
use Rattle.model.proofs.Kit.{◌≡◌, refl, sym, ap, ◌∙◌, cond, List, none, some, Option, ℕ, ◌+◌, ◌≤◌, eq-eqb, ne_eqb, eqb}
use Rattle.model.proofs.Kit.{length, drop, get_or, drop-drop, arith}
use Rattle.model.specs.Bytes.{byte}
use Rattle.model.specs.Show.{text, text_from}
use Rattle.model.specs.Forms.{Read, found, and_then, number_in, behind, times_in}
use Rattle.std.specs.Prelude.{Ok, Err}
use Rattle.std.specs.declared.result.Result.{Result}
use Rattle.model.specs.declared.refusal.Refusal.{Refusal}
use Rattle.model.specs.declared.refusal.Refusal.TheVariants.{NoForm}
use Rattle.lexer.specs.declared.At.{At}
use Rattle.model.specs.Forms.{or_four}
use Rattle.lexer.specs.Placed.{placed_as, NumberIs}
use Rattle.lexer.specs.Words.{WordIs}
use Rattle.lexer.proofs.Laws.Behind.{text_found, word_missed, word_found, word_inside}
use Rattle.model.proofs.Basics.Tests.{never}
use Rattle.lexer.proofs.Laws.Given.{passed, through}
use Rattle.lexer.proofs.Laws.Places.{first_byte, left_over}
use Rattle.lexer.proofs.Laws.Answers.{missed, there, number_inside}
use Rattle.item_reader.specs.Counts.{TimesIs}

module _ (line : List ℕ) (at : ℕ) where
  no_times : times_in (drop at line) ≡ none → TimesIs line at (Err NoForm)
  unfolding placed_as or_four
  no_times e = record { reads = ap or_four (sym e); inside = tt }

  module _ (word : Result ℕ Refusal) (times : WordIs line at (text "(times ") word) where
    pub times_other : (k : Refusal) → word ≡ Err k → TimesIs line at (Err NoForm)
    unfolding times_in
    times_other k e = no_times (rw (word_missed line at _ word times k e, times_in))

    module _ (digits : ℕ) (d : word ≡ Ok digits) (r : Result (At ℕ) Refusal) (is : NumberIs line digits 1 99999 r) where
      pub times_unnumbered : (k : Refusal) → r ≡ Err k → TimesIs line at (Err NoForm)
      unfolding times_in and_then
      times_unnumbered k e =
          no_times (rw (word_found line at _ word times digits d, times_in, missed (λ v. v) line r _ is.reads k e))

      module _ (a : At ℕ) (e : r ≡ Ok a) where
        numbered : times_in (drop at line) ≡ cond (eqb (get_or line a.next 0) 32) (found a.value (drop a.next line)) none
        unfolding times_in and_then found
        numbered =
            rw (
              word_found line at _ word times digits d,
              times_in,
              there (λ v. v) line r _ is.reads a e,
              first_byte line a.next,
            )

        pub times_unspaced : (get_or line a.next 0 ≡ 32 → ⊥) → TimesIs line at (Err NoForm)
        times_unspaced ne = no_times (numbered ∙ rw (ne_eqb (get_or line a.next 0) 32 ne))

        pub times_read : get_or line a.next 0 ≡ 32 → TimesIs line at (Ok a)
        unfolding placed_as or_four found
        times_read q =
            let in-line = number_inside line digits 1 99999 r is.inside a e in
            record {
              reads = rw (numbered, eq-eqb (get_or line a.next 0) 32 q);
              inside = (
                omega (arith, in-line.0, word_inside line at _ word times digits d),
                in-line.1,
                in-line.2,
                in-line.3,
              );
            }

-- ---- a `times` that was read: its number stands behind the seven bytes of the word

pub times_number : (line : List ℕ) (at : ℕ) (r : Read ℕ) → times_in (drop at line) ≡ some r
    → (number_in 1 99999 (drop (at + 7) line) ≡ some r) × (at + 7 ≤ length line)
unfolding times_in text text_from
times_number line at r e = by (behind (text "(times ") (drop at line)) refl e
  where
    by : (o : Option (List ℕ)) → behind (text "(times ") (drop at line) ≡ o
        → elim o [
          | none ↦ none
          | some rest ↦ and_then (number_in 1 99999 rest) (λ k rest. cond (eqb (byte rest 0) 32) (found k rest) none)
        ] ≡ some r
        → (number_in 1 99999 (drop (at + 7) line) ≡ some r) × (at + 7 ≤ length line)
    by none b q = never r q
    by (some rest) b q =
        let there = text_found (text "(times ") (drop at line) rest b in
        let t = through (number_in 1 99999 rest) (λ k rest. cond (eqb (byte rest 0) 32) (found k rest) none) r q in
        let p = passed (eqb (byte t.rest 0) 32) (found t.value t.rest) r t.goes in
        let place : rest ≡ drop (at + 7) line = there.0 ∙ drop-drop 7 at line in
        (ap (number_in 1 99999) (sym place) ∙ t.read ∙ p.1, omega (arith, there.1, left_over line at))
