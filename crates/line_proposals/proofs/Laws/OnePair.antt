-- One pair as it stands in a line: its number, and its figure behind a space.
-- Relies on the model's written pairs and on numbers and figures that are known to stand at a place; the proof of
-- `pair_at` relies on it.
use Rattle.model.proofs.Kit.{◌≡◌, sym, ap, subst, ◌∙◌, List, ◌∷◌, ◌++◌, ℕ, ◌+◌, ◌<◌, length, drop, w8, w64, Fits, arith}
use Rattle.model.specs.Show.{signed}
use Rattle.model.specs.Figure.{Figure}
use Rattle.model.specs.Forms.{found, spaced, number_in, figure_in, pair_in}
use Rattle.model.specs.Grammar.{written_pair, PairInRange}
use Rattle.model.specs.Proposals.{Proposal}
use Rattle.model.proofs.Sheet.Readers.{Always}
use Rattle.model.proofs.Sheet.Numbers.{figure_signed}
use Rattle.model.proofs.Sheet.NumbersBack.{Stood}
use Rattle.model.proofs.Sheet.Lists.{station_read, space_stops, bracket_stops}
use Rattle.model.proofs.Sheet.Pairs.{pair_regrouped, pair_stood}
use Rattle.lexer.specs.declared.At.{At}
use Rattle.lexer.specs.Known.{NumberStands, KnownIs, FigureStands, KnownFigureIs}
use Rattle.lexer.proofs.Laws.Given.{found_one}
use Rattle.lexer.proofs.Laws.Known.{known_inside, known_found}
use Rattle.lexer.proofs.Laws.KnownFigures.{number_stands, figure_known}
use Rattle.lexer.proofs.Laws.Places.{behind_first, some_byte}
use Rattle.line_proposals.specs.LinePairs.{PairStands, PairRead, PairIs}

-- ---- a pair that was read stands there as it is written

module _ (line : List ℕ) (at : ℕ) (p : Proposal) (rest : List ℕ) (read : pair_in (drop at line) ≡ found p rest) where
  stood : (drop at line ≡ written_pair p ++ rest) × PairInRange p
  unfolding Always Stood found
  stood = subst (Always (Stood written_pair PairInRange (drop at line))) read (pair_stood (drop at line))

  -- behind the number
  Behind : List ℕ
  Behind = 32 ∷ (signed p.figure ++ (41 ∷ rest))

  number_there : number_in 0 99 (drop (at + 1) line) ≡ found p.station Behind
  unfolding PairInRange Behind
  number_there =
      ap (number_in 0 99) (sym (behind_first line at) ∙ ap (drop 1) (stood.0 ∙ pair_regrouped p rest))
      ∙ station_read p.station stood.1.0 _ (space_stops _)

  module _ (n : At ℕ) (is : KnownIs line (at + 1) n) where
    station_is : (n.value ≡ p.station) × (drop n.next line ≡ Behind)
    unfolding found
    station_is =
        found_one _ _ _ _ (sym (known_found line (at + 1) 0 99 (omega arith) _ number_there n is) ∙ number_there)

    figure_there : spaced figure_in (drop n.next line) ≡ found p.figure (41 ∷ rest)
    unfolding spaced Behind PairInRange
    figure_there =
        ap (spaced figure_in) station_is.1 ∙ figure_signed p.figure stood.1.1 _ (bracket_stops rest)

    module _ (f : At Figure) (has : KnownFigureIs line n.next f) where
      figure_is : (f.value ≡ p.figure) × (drop f.next line ≡ 41 ∷ rest)
      figure_is = figure_known line n.next p.figure (41 ∷ rest) figure_there f has

      bracket_inside : f.next < length line
      bracket_inside = some_byte line f.next 41 rest figure_is.1

      read_so : (v : Figure) → v ≡ f.value
          → PairRead line at p rest (record { value = record { station = n.value; figure = v }; next = f.next + 1 })
      read_so v e = record {
        station = station_is.0;
        figure = e ∙ figure_is.0;
        follows = sym (behind_first line f.next) ∙ ap (drop 1) figure_is.1;
        behind = omega (arith, is.inside.0, has.inside.0);
        inside = omega (arith, bracket_inside);
      }

-- ---- as the code finds it

module _ (line : List ℕ) (at : ℕ) (h : PairStands line at) where
  pub number_stands_there : NumberStands line (at + 1)
  number_stands_there = number_stands line (at + 1) 0 99 (omega arith) _ _ (number_there line at _ _ h.read)

  pub pair_inside : at + 1 < length line
  pair_inside = known_inside line (at + 1) number_stands_there

  module _ (n : At ℕ) (is : KnownIs line (at + 1) n) where
    pub figure_stands : FigureStands line n.next
    unfolding FigureStands found
    figure_stands = (_, figure_there line at _ _ h.read n is)

    pub station-fits : Fits w8 n.value
    unfolding PairInRange
    station-fits = record {
      fits = omega (arith, (station_is line at _ _ h.read n is).0, (stood line at _ _ h.read).1.0);
    }

    module _ (f : At Figure) (has : KnownFigureIs line n.next f) where
      pub next_fits : Fits w64 (length line) → Fits w64 (f.next + 1)
      next_fits long = record { fits = omega (arith, long.fits, bracket_inside line at _ _ h.read n is f has) }

      pub pair_is : (v : Figure) → v ≡ f.value
          → PairIs line at (record { value = record { station = n.value; figure = v }; next = f.next + 1 })
      unfolding PairIs
      pair_is v e p rest read = read_so line at p rest read n is f has v e

-- what the code finds by itself
pub ruleset steps = (number_stands_there, next_fits, pair_is)
