-- The fields behind a kind's word: a number from 0 to 99 that lies in a narrower range, a figure, and the bracket.
-- Relies on the lexer's laws of numbers and figures behind a space; the proofs of src/reading.rt rely on it.
use Rattle.model.proofs.Kit.{◌≡◌, refl, ◌∙◌, Bool, true, false, cond, ◌&&◌, List, none, some, Option, ℕ, ◌≤◌, ◌<◌}
use Rattle.model.proofs.Kit.{le-leb, lt-leb, leb-false, eqb, leb, ℤ, length, drop, arith}
use Rattle.model.proofs.Basics.Tests.{and_false}
use Rattle.model.specs.Bytes.{byte}
use Rattle.model.specs.Show.{text}
use Rattle.model.specs.Forms.{Read, found, and_then, spaced, natural, number_in, figure_in, same, closing}
use Rattle.model.specs.Tape.{end_in, read_in}
use Rattle.std.specs.Prelude.{Ok, Err}
use Rattle.std.specs.declared.result.Result.{Result}
use Rattle.model.specs.declared.refusal.Refusal.{Refusal}
use Rattle.lexer.specs.declared.At.{At}
use Rattle.lexer.specs.Placed.{SpacedIs, FigureIs}
use Rattle.lexer.proofs.Laws.Answers.{missed, there, number_inside}
use Rattle.tape_reader.specs.Reading.{given, EndsIs}

-- ---- a number in a narrower range

module _ (low high : ℕ) where
  -- a number that was read, if it lies in the range
  unfoldable within : ℕ → List ℕ → Option (Read ℕ)
  within v rest = cond (leb low v && leb v high) (found v rest) none

  above_none : (v : ℕ) (rest : List ℕ) → high < v → within v rest ≡ none
  unfolding within
  above_none v rest h = rw (lt-leb v high h, and_false (leb low v))

  module _ (small : high ≤ 99) where
    narrowed : (l : List ℕ) → number_in low high l ≡ and_then (number_in 0 99 l) within
    unfolding number_in and_then found within
    narrowed l = go (natural l)
      where
        by : (v : ℕ) (rest : List ℕ) (t : Bool) → leb v 99 ≡ t
            → within v rest ≡ and_then (cond (leb 0 v && t) (found v rest) none) within
        by v rest true e = rw (le-leb 0 v (omega arith))
        by v rest false e = above_none v rest (omega (arith, leb-false v 99 e)) ∙ rw (le-leb 0 v (omega arith))

        go : (o : Option (Read ℕ)) → and_then o within
            ≡ and_then (and_then o λ v rest. cond (leb 0 v && leb v 99) (found v rest) none) within
        go none = refl
        go (some r) = by r.value r.rest (leb r.value 99) refl

    spaced_narrowed : (l : List ℕ) → spaced (number_in low high) l ≡ and_then (spaced (number_in 0 99) l) within
    unfolding spaced and_then
    spaced_narrowed l = go (eqb (byte l 0) 32)
      where
        go : (t : Bool) → cond t (number_in low high (drop 1 l)) none
            ≡ and_then (cond t (number_in 0 99 (drop 1 l)) none) within
        go true = narrowed (drop 1 l)
        go false = refl

    module _ (line : List ℕ) (at : ℕ) (first : Result (At ℕ) Refusal) (is : SpacedIs line at first) where
      pub in_range_missed : (k : Refusal) → first ≡ Err k → spaced (number_in low high) (drop at line) ≡ none
      unfolding and_then
      in_range_missed k e = rw (spaced_narrowed (drop at line), missed (λ v. v) line first _ is.reads k e)

      pub in_range : (a : At ℕ) → first ≡ Ok a → spaced (number_in low high) (drop at line)
          ≡ cond (leb low a.value && leb a.value high) (found a.value (drop a.next line)) none
      unfolding and_then found within
      in_range a e =
          rw (
            spaced_narrowed (drop at line),
            there (λ v. v) line first (spaced (number_in 0 99) (drop at line)) is.reads a e,
          )

-- ---- the closing bracket, and what follows such a number

pub closes_given : {A : Type 0} (a : A) (l : List ℕ) → same l (text ")") ≡ given (closing a l)
unfolding closing given
closes_given a l = go (same l (text ")"))
  where
    go : (s : Bool) → s ≡ given (cond s (some a) none)
    go true = refl
    go false = refl

module _ {A : Type 0} (v : ℕ) (l : List ℕ) (more : ℕ → List ℕ → Option A) where
  broken : (t : Bool) → more v l ≡ none → false ≡ given (and_then (cond t (found v l) none) more)
  unfolding and_then found given
  broken true e = rw e
  broken false e = refl

  closed : (a : A) (rest : List ℕ) → more v l ≡ closing a rest → (t : Bool)
      → t && same rest (text ")") ≡ given (and_then (cond t (found v l) none) more)
  unfolding and_then found given
  closed a rest e true = rw e (closes_given a rest)
  closed a rest e false = refl

-- ---- the field of `read`

module _ (line : List ℕ) (at : ℕ) (first : Result (At ℕ) Refusal) (is : SpacedIs line at first) where
  pub read_missed : (k : Refusal) → first ≡ Err k → false ≡ given (read_in (drop at line))
  unfolding read_in and_then given
  read_missed k e = rw (in_range_missed 0 1 (omega arith) line at first is k e)

  module _ (a : At ℕ) (e : first ≡ Ok a) where
    pub number_within : a.next ≤ length line
    number_within = (number_inside line at 0 99 first is.inside a e).1

    read_given : leb a.value 1 && same (drop a.next line) (text ")") ≡ given (read_in (drop at line))
    unfolding read_in
    read_given =
        rw (in_range 0 1 (omega arith) line at first is a e, le-leb 0 a.value (omega arith))
        (closed _ _ _ _ _ refl (leb a.value 1))

    pub read_closes : a.value ≤ 1 → (t : Bool) → t ≡ same (drop a.next line) (text ")") → t ≡ given (read_in (drop at line))
    read_closes h t q = q ∙ rw (le-leb a.value 1 h) at read_given

    pub read_above : 1 < a.value → leb a.value 1 ≡ given (read_in (drop at line))
    read_above h = lt-leb a.value 1 h ∙ rw (lt-leb a.value 1 h) at read_given

-- ---- the fields of an answer that ends a collect

module _ (line : List ℕ) (at low high : ℕ) (small : high ≤ 99) (first : Result (At ℕ) Refusal) (is : SpacedIs line at first)
  where
    pub ends_missed : (k : Refusal) → first ≡ Err k → EndsIs line at low high false
    unfolding end_in and_then given
    ends_missed k e = record { ends = λ answer. rw (in_range_missed low high small line at first is k e) }

    module _ (a : At ℕ) (e : first ≡ Ok a) (second : Result (At ℤ) Refusal) (figure : FigureIs line a.next second) where
      pub ends_no_figure : (k : Refusal) → second ≡ Err k → EndsIs line at low high false
      unfolding end_in and_then
      ends_no_figure k q = record {
        ends = λ answer. rw (in_range low high small line at first is a e)
            (broken a.value (drop a.next line) _ (leb low a.value && leb a.value high)
            (rw (missed (λ v. v) line second _ figure.reads k q)));
      }

      module _ (x : At ℤ) (q : second ≡ Ok x) (third : Result (At ℕ) Refusal) (total : SpacedIs line x.next third) where
        pub ends_no_total : (k : Refusal) → third ≡ Err k → EndsIs line at low high false
        unfolding end_in and_then found
        ends_no_total k p = record {
          ends = λ answer. rw (in_range low high small line at first is a e)
              (broken a.value (drop a.next line) _ (leb low a.value && leb a.value high)
              (rw (
                there (λ v. v) line second (spaced figure_in (drop a.next line)) figure.reads x q,
                missed (λ v. v) line third _ total.reads k p,
              )));
        }

        module _ (b : At ℕ) (p : third ≡ Ok b) where
          ends_given : EndsIs line at low high ((leb low a.value && leb a.value high) && same (drop b.next line) (text ")"))
          unfolding end_in and_then found
          ends_given = record {
            ends = λ answer. rw (in_range low high small line at first is a e)
                (closed a.value (drop a.next line) _ (record { did = answer a.value x.value; met = b.value }) (drop b.next line)
                (rw (
                  there (λ v. v) line second (spaced figure_in (drop a.next line)) figure.reads x q,
                  there (λ v. v) line third (spaced (number_in 0 99) (drop x.next line)) total.reads b p,
                ))
                (leb low a.value && leb a.value high));
          }

          pub ends_closes : low ≤ a.value → a.value ≤ high → (t : Bool) → t ≡ same (drop b.next line) (text ")")
              → EndsIs line at low high t
          ends_closes h l t c = rw c (rw (le-leb low a.value h, le-leb a.value high l) at ends_given)

          pub ends_outside : (t : Bool) → t ≡ false → leb low a.value && leb a.value high ≡ false → EndsIs line at low high t
          ends_outside t c out = rw c (rw out at ends_given)
