-- A number and a figure behind a single space.
-- Relies on Places, Answers and the model's `spaced` and `figure_in`; the proofs of src/number.rt, and those of the
-- readers above, rely on it.
use Rattle.model.proofs.Kit.{◌≡◌, sym, ap, ◌∙◌, List, none, Option, ℕ, suc, ◌+◌, ◌-◌, ◌≤◌, eq-eqb, ne_eqb}
use Rattle.model.proofs.Kit.{pos, negsuc, length, drop, get_or, drop-drop, w32, to_z}
use Rattle.model.proofs.Kit.{SFits, arith}
use lib.ListN.{get_or-eq_default}
use mir.ValLaws.{to_z_pos, to_z-neg}
use Rattle.model.specs.Forms.{Read, found, and_then, spaced, number_in, figure_in}
use Rattle.std.specs.Prelude.{Ok, Err}
use Rattle.std.specs.declared.result.Result.{Result}
use Rattle.model.specs.declared.refusal.Refusal.{Refusal}
use Rattle.model.specs.declared.refusal.Refusal.TheVariants.{NoForm}
use Rattle.lexer.specs.declared.At.{At}
use Rattle.model.specs.Forms.{or_four}
use Rattle.lexer.specs.Placed.{placed_as, NumberInside, NumberIs, SpacedIs, FigureIs}
use Rattle.lexer.proofs.Laws.Answers.{missed, there, number_inside}
use Rattle.lexer.proofs.Laws.Places.{first_byte, behind_first}

-- ---- a space in front

module _ {A : Type 0} (read : List ℕ → Option (Read A)) (line : List ℕ) (at : ℕ) where
  pub space_read : get_or line at 0 ≡ 32 → spaced read (drop at line) ≡ read (drop (at + 1) line)
  unfolding spaced
  space_read e = rw (first_byte line at, eq-eqb (get_or line at 0) 32 e, behind_first line at)

  pub no_space : (get_or line at 0 ≡ 32 → ⊥) → spaced read (drop at line) ≡ none
  unfolding spaced
  no_space ne = rw (first_byte line at, ne_eqb (get_or line at 0) 32 ne)

  -- past the end there is no space either
  pub no_space_left : length line ≤ at → spaced read (drop at line) ≡ none
  no_space_left h = no_space (λ e. omega (arith, get_or-eq_default line 0 h))

-- ---- a number

module _ (line : List ℕ) (at : ℕ) where
  unspaced : spaced (number_in 0 99) (drop at line) ≡ none → SpacedIs line at (Err NoForm)
  unfolding placed_as or_four
  unspaced e = record { reads = ap or_four (sym e); inside = tt }

  pub number_unspaced : (get_or line at 0 ≡ 32 → ⊥) → SpacedIs line at (Err NoForm)
  number_unspaced ne = unspaced (no_space (number_in 0 99) line at ne)

  nearer : (r : Result (At ℕ) Refusal) → NumberInside line (at + 1) 0 99 r → NumberInside line at 0 99 r
  nearer (Ok a) h = (omega (arith, h.0), h.1, h.2, h.3)
  nearer (Err e) h = tt

  pub number_spaced : get_or line at 0 ≡ 32 → (r : Result (At ℕ) Refusal) → NumberIs line (at + 1) 0 99 r → SpacedIs line at r
  number_spaced e r is =
      record {
        reads = is.reads ∙ ap or_four (sym (space_read (number_in 0 99) line at e));
        inside = nearer r is.inside;
      }

-- ---- a figure

-- the complement of a number is one below its negative
below_zero : (v : ℕ) → 1 ≤ v → v ≤ 2147483648 → to_z w32 (4294967295 - (v - 1)) ≡ negsuc (v - 1)
below_zero v h l = ap (to_z w32) same ∙ to_z-neg w32 (v - 1) (omega arith)
  where
    same : 4294967295 - (v - 1) ≡ 4294967296 - suc (v - 1)
    same = omega arith

pub positive_fits : (n : ℕ) → n ≤ 2147483647 → SFits w32 (pos n)
positive_fits n h = record { sfits = omega arith }

module _ (line : List ℕ) (at : ℕ) where
  no_figure : spaced figure_in (drop at line) ≡ none → FigureIs line at (Err NoForm)
  unfolding placed_as or_four
  no_figure e = record { reads = ap or_four (sym e); inside = tt }

  pub figure_unspaced : (get_or line at 0 ≡ 32 → ⊥) → FigureIs line at (Err NoForm)
  figure_unspaced ne = no_figure (no_space figure_in line at ne)

  module _ (space : get_or line at 0 ≡ 32) where
    -- behind the space, by the sign
    pub minus_read : get_or line (at + 1) 0 ≡ 45
        → spaced figure_in (drop at line) ≡ and_then (number_in 1 2147483648 (drop (at + 2) line))
        (λ v rest. found (negsuc (v - 1)) rest)
    unfolding figure_in
    minus_read e =
        let both : at + 1 + 1 ≡ at + 2 = omega arith in
        let two : drop 1 (drop (at + 1) line) ≡ drop (at + 2) line =
        drop-drop 1 (at + 1) line ∙ ap (λ (k : ℕ). drop k line) both in
        space_read figure_in line at space ∙ rw (first_byte line (at + 1), eq-eqb (get_or line (at + 1) 0) 45 e, two)

    pub plain_read : (get_or line (at + 1) 0 ≡ 45 → ⊥)
        → spaced figure_in (drop at line) ≡ and_then (number_in 0 2147483647 (drop (at + 1) line))
        (λ v rest. found (pos v) rest)
    unfolding figure_in
    plain_read ne =
        space_read figure_in line at space ∙ rw (first_byte line (at + 1), ne_eqb (get_or line (at + 1) 0) 45 ne)

    module _ (minus : get_or line (at + 1) 0 ≡ 45) (r : Result (At ℕ) Refusal) (is : NumberIs line (at + 2) 1 2147483648 r)
      where
        pub minus_missed : (k : Refusal) → r ≡ Err k → FigureIs line at (Err NoForm)
        unfolding and_then
        minus_missed k e = no_figure (minus_read minus ∙ rw (missed (λ v. v) line r _ is.reads k e))

        pub minus_found : (a : At ℕ) → r ≡ Ok a
            → FigureIs line at (Ok (record { value = to_z w32 (4294967295 - (a.value - 1)); next = a.next }))
        unfolding and_then placed_as found or_four
        minus_found a e =
            let in-line = number_inside line (at + 2) 1 2147483648 r is.inside a e in
            record {
              reads =
                  rw (
                    below_zero a.value in-line.2 in-line.3,
                    minus_read minus,
                    there (λ v. v) line r (number_in 1 2147483648 (drop (at + 2) line)) is.reads a e,
                  );
              inside = (omega (arith, in-line.0), in-line.1);
            }

    module _ (plain : get_or line (at + 1) 0 ≡ 45 → ⊥) (r : Result (At ℕ) Refusal)
        (is : NumberIs line (at + 1) 0 2147483647 r) where
      pub plain_missed : (k : Refusal) → r ≡ Err k → FigureIs line at (Err NoForm)
      unfolding and_then
      plain_missed k e = no_figure (plain_read plain ∙ rw (missed (λ v. v) line r _ is.reads k e))

      pub plain_found : (a : At ℕ) → r ≡ Ok a
          → FigureIs line at (Ok (record { value = to_z w32 a.value; next = a.next }))
      unfolding and_then placed_as found or_four
      plain_found a e =
          let in-line = number_inside line (at + 1) 0 2147483647 r is.inside a e in
          record {
            reads =
                rw (
                  to_z_pos w32 a.value (omega (arith, in-line.3)),
                  plain_read plain,
                  there (λ v. v) line r (number_in 0 2147483647 (drop (at + 1) line)) is.reads a e,
                );
            inside = (omega (arith, in-line.0), in-line.1);
          }
