-- A figure that is known to stand behind a space: its sign, and its size as a number that is known to stand there.
-- Relies on Given, Answers, Known and Spaced; the proof of src/known.rt and the proposals of a line above rely on it.
use Rattle.model.proofs.Kit.{◌≡◌, refl, sym, ap, ◌∙◌, List, ℕ, ◌+◌, ◌-◌, ◌≤◌, ◌<◌, pos, negsuc, length, drop}
use Rattle.model.proofs.Kit.{drop_of_length-le, get_or, lt_of_not-le, eqb, eqb-true, eqb-false, w32, to_z, SFits, arith}
use Rattle.model.specs.Figure.{Figure}
use Rattle.model.specs.Forms.{found, and_then, spaced, natural, number_in, figure_in, or_four}
use Rattle.model.proofs.Basics.Tests.{by_test, never}
use Rattle.std.specs.Prelude.{Ok}
use Rattle.lexer.specs.declared.At.{At}
use Rattle.lexer.specs.Placed.{placed_as, NumberIs, FigureIs}
use Rattle.lexer.specs.Known.{NumberStands, KnownIs, FigureStands, KnownFigureIs}
use Rattle.lexer.proofs.Laws.Given.{found_one, through}
use Rattle.lexer.proofs.Laws.Known.{stands_there, known_found, known_range}
use Rattle.lexer.proofs.Laws.Spaced.{space_read, no_space, minus_read, plain_read, minus_found, plain_found, positive_fits}
use Rattle.lexer.proofs.Laws.Answers.{there}

-- a number that was found before in its range is read again in that range
module _ (line : List ℕ) (at low high : ℕ) (small : high ≤ 2147483648) (v : ℕ) (rest : List ℕ)
    (read : number_in low high (drop at line) ≡ found v rest) where
  pub number_stands : NumberStands line at
  unfolding found
  number_stands = stands_there line at low high small _ read

  module _ (n : At ℕ) (is : KnownIs line at n) where
    pub read_again : NumberIs line at low high (Ok n)
    unfolding placed_as or_four found
    read_again =
        let range = known_range line at low high small _ read n is in
        record {
          reads = ap or_four (sym (known_found line at low high small _ read n is));
          inside = (is.inside.0, is.inside.1, range.0, range.1);
        }

module _ (line : List ℕ) (at : ℕ) (stands : FigureStands line at) where
  space : get_or line at 0 ≡ 32
  unfolding FigureStands
  space =
      by_test (eqb (get_or line at 0) 32) (λ e. eqb-true _ _ e)
      (λ e. never stands.0 (sym (no_space figure_in line at (eqb-false _ _ e)) ∙ stands.1))

  pub sign_inside : at + 1 < length line
  unfolding FigureStands figure_in number_in natural and_then
  sign_inside =
      lt_of_not-le (λ (h : length line ≤ at + 1). never stands.0
      (rw (drop_of_length-le line h) at (sym (space_read figure_in line at space) ∙ stands.1)))

  module _ (minus : get_or line (at + 1) 0 ≡ 45) where
    size_below : (v : ℕ) × (rest : List ℕ) × (number_in 1 2147483648 (drop (at + 2) line) ≡ found v rest)
    unfolding FigureStands
    size_below =
        let t =
        through (number_in 1 2147483648 (drop (at + 2) line)) (λ v rest. found (negsuc (v - 1)) rest) stands.0
        (sym (minus_read line at space minus) ∙ stands.1) in
        (t.value, t.rest, t.read)

    pub minus_stands : NumberStands line (at + 2)
    minus_stands = number_stands line (at + 2) 1 2147483648 (omega arith) _ _ size_below.2

    module _ (n : At ℕ) (is : KnownIs line (at + 2) n) where
      again_below : NumberIs line (at + 2) 1 2147483648 (Ok n)
      again_below = read_again line (at + 2) 1 2147483648 (omega arith) _ _ size_below.2 n is

      pub minus_some : 1 ≤ n.value
      minus_some = again_below.inside.2

      pub minus_known : FigureIs line at (Ok (record { value = to_z w32 (4294967295 - (n.value - 1)); next = n.next }))
      minus_known = minus_found line at space minus _ again_below n refl

  module _ (plain : get_or line (at + 1) 0 ≡ 45 → ⊥) where
    size_above : (v : ℕ) × (rest : List ℕ) × (number_in 0 2147483647 (drop (at + 1) line) ≡ found v rest)
    unfolding FigureStands
    size_above =
        let t =
        through (number_in 0 2147483647 (drop (at + 1) line)) (λ v rest. found (pos v) rest) stands.0
        (sym (plain_read line at space plain) ∙ stands.1) in
        (t.value, t.rest, t.read)

    pub plain_stands : NumberStands line (at + 1)
    plain_stands = number_stands line (at + 1) 0 2147483647 (omega arith) _ _ size_above.2

    module _ (n : At ℕ) (is : KnownIs line (at + 1) n) where
      again_above : NumberIs line (at + 1) 0 2147483647 (Ok n)
      again_above = read_again line (at + 1) 0 2147483647 (omega arith) _ _ size_above.2 n is

      pub plain_fits : SFits w32 (pos n.value)
      plain_fits = positive_fits n.value again_above.inside.3

      pub plain_known : FigureIs line at (Ok (record { value = to_z w32 n.value; next = n.next }))
      plain_known = plain_found line at space plain _ again_above n refl

-- what a known figure is, where one was read before
pub figure_known : (line : List ℕ) (at : ℕ) (v : Figure) (rest : List ℕ) → spaced figure_in (drop at line) ≡ found v rest
    → (n : At Figure) → KnownFigureIs line at n → (n.value ≡ v) × (drop n.next line ≡ rest)
unfolding found
figure_known line at v rest e n is =
    found_one _ _ _ _
    (sym (there (λ v. v) line (Ok n) _ is.reads n refl) ∙ e)
