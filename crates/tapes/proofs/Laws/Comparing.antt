-- The comparison at each return: refusals 1 and 21, none, and the culprit's line on the first tape or on the second.
-- Relies on the model's comparison and on the place of a line on its tape; the proofs of `comparing` rely on it.
use Rattle.model.proofs.Kit.{◌≡◌, refl, sym, ap, subst, ◌∙◌, Bool, true, false, ◌&&◌, List, some}
use Rattle.model.proofs.Kit.{ℕ, zero, suc, ◌-◌, ◌≤◌, ◌<◌, le-leb, lt-leb, length, take, drop, length-drop, arith}
use lib.Seq.{length-take-le}
use Rattle.model.specs.declared.Tap as taps
use Rattle.model.specs.declared.Tap.TheVariants as tap
use Rattle.model.specs.declared.refusal.Refusal as refusals
use Rattle.model.specs.declared.refusal.Refusal.TheVariants.{SheetTooLong, NoTape}
use Rattle.model.specs.declared.Difference.{Difference}
use Rattle.std.specs.Prelude.{Ok, Err, Some, None}
use Rattle.std.specs.declared.option.Option.{Option}
use Rattle.std.specs.declared.result.Result.{Result}
use Rattle.model.specs.Sheet.{lines_of}
use Rattle.model.specs.Tape.{Tap, first, second, differs, TapePart, empty_part, part_of}
use Rattle.model.specs.Tape.{own_lines, line_at, line_start, culprit, taped, compare, culprit_part}
use Rattle.model.specs.Told.{tap_told, comparison_told, start_told, length_told}
use Rattle.model.proofs.Basics.Tests.{never}
use Rattle.tapes.specs.declared.difference.Gap.{Gap}
use Rattle.tapes.specs.Differences.{Stands, DifferAt, GapIs}
use Rattle.tapes.specs.Tested.{Tested}
use Rattle.tapes.specs.Comparing.{Fits, Inside, Compares}
use Rattle.tape_laws.specs.TwoTapes.{tape_by}
use Rattle.tape_laws.proofs.Compared.{no_zeroth}

-- a line with a number is no line before the first
counted : (ls : List (List ℕ)) (k : ℕ) (l : List ℕ) → line_at k ls ≡ some l → 1 ≤ k
counted ls zero l e = never l (sym (no_zeroth ls) ∙ e)
counted ls (suc k) l e = omega arith

-- an answer with the part that stands on a tape from one place up to another
located : (s a b : List ℕ) (r : Result (Option Difference) refusals.Refusal) (k : ℕ) (t : Tap) (tape : List ℕ) (start end : ℕ) → Stands tape k start end
    → comparison_told r ≡ compare s a b → culprit_part a b (compare s a b) ≡ part_of k t tape
    → start_told r ≡ start → length_told r ≡ end - start → Inside a b r → Compares s a b r
unfolding part_of
located s a b r k t tape start end stands e part_is starts len inside =
    let part : culprit_part a b (compare s a b)
    ≡ (record { tap = t; start = line_start k (lines_of tape); bytes = take (end - start) (drop start tape) }) =
    part_is ∙ rw stands.line in
    record {
      answer = e;
      start = starts ∙ sym stands.begins ∙ sym (ap (λ (p : TapePart). p.start) part);
      len =
          len
          ∙ sym (length-take-le (end - start) (drop start tape)
          (omega (arith, length-drop start tape, stands.order, stands.inside)))
          ∙ sym (ap (λ (p : TapePart). length p.bytes) part);
      inside = inside;
    }

module _ (s a b : List ℕ) where
  -- an answer without a part
  empty_handed : (r : Result (Option Difference) refusals.Refusal) → comparison_told r ≡ compare s a b
      → culprit_part a b (comparison_told r) ≡ empty_part → start_told r ≡ 0 → length_told r ≡ 0 → Inside a b r
      → Compares s a b r
  unfolding empty_part
  empty_handed r e no_part start len inside =
      let part : culprit_part a b (compare s a b) ≡ empty_part = ap (culprit_part a b) (sym e) ∙ no_part in
      record {
        answer = e;
        start = start ∙ sym (ap (λ (p : TapePart). p.start) part);
        len = len ∙ sym (ap (λ (p : TapePart). length p.bytes) part);
        inside = inside;
      }

  pub too_long : 32768 < length s → Compares s a b (Err SheetTooLong)
  unfolding compare comparison_told start_told length_told culprit_part Inside
  too_long h = empty_handed (Err SheetTooLong) (rw (lt-leb (length s) 32768 h)) refl refl refl tt

  module _ (short : length s ≤ 32768) where
    untaped : taped (lines_of a) && taped (lines_of b) ≡ false → Compares s a b (Err NoTape)
    unfolding compare comparison_told start_told length_told culprit_part Inside
    untaped e = empty_handed (Err NoTape) (rw (le-leb (length s) 32768 short, e)) refl refl refl tt

    pub first_untaped : (p : ℕ) → Tested a p → p < length a → Compares s a b (Err NoTape)
    first_untaped p tested h = untaped (ap (λ (t : Bool). t && taped (lines_of b)) (tested.broken h))

    module _ (p : ℕ) (tested-first : Tested a p) (whole-first : length a ≤ p) where
      pub second_untaped : (q : ℕ) → Tested b q → q < length b → Compares s a b (Err NoTape)
      second_untaped q tested h = untaped (λ j. tested-first.whole whole-first j && tested.broken h j)

      module _ (q : ℕ) (tested-second : Tested b q) (whole-second : length b ≤ q) where
        both : taped (lines_of a) && taped (lines_of b) ≡ true
        both = (λ j. tested-first.whole whole-first j && tested-second.whole whole-second j)

        pub never_differ : (found : Option Gap) → GapIs a b found → found ≡ None → Compares s a b (Ok None)
        unfolding compare comparison_told start_told length_told culprit_part Inside GapIs
        never_differ found is e =
            empty_handed (Ok None) (rw (le-leb (length s) 32768 short, both, subst (GapIs a b) e is)) refl refl refl tt

module _ (a b : List ℕ) (found : Option Gap) (is : GapIs a b found) (g : Gap) (at : found ≡ Some g) where
  abbrev k : ℕ
  k = g.number

  abbrev start : ℕ
  start = g.start

  abbrev e : ℕ
  e = g.first

  abbrev f : ℕ
  f = g.second

  gap : DifferAt a b g
  unfolding GapIs
  gap = subst (GapIs a b) at is

  first_stands : Stands a k start e
  first_stands = gap.first

  second_stands : Stands b k start f
  second_stands = gap.second

  -- the lines that both tapes have there
  pub first_order : start ≤ e
  first_order = first_stands.order

  pub first_inside : e ≤ length a
  first_inside = first_stands.inside

  pub second_order : start ≤ f
  second_order = second_stands.order

  second_inside : f ≤ length b
  second_inside = second_stands.inside

  pub some_number : 1 ≤ k
  some_number = counted (lines_of a) k _ first_stands.line

  module _ (s : List ℕ) (short : length s ≤ 32768) (p q : ℕ) (tested-first : Tested a p) (whole-first : length a ≤ p)
      (tested-second : Tested b q) (whole-second : length b ≤ q) (t : taps.Tap)
      (says : tap_told t ≡ culprit (line_at k (own_lines s)) (some (take (e - start) (drop start a)))) where
    answers : compare s a b ≡ differs k (tap_told t)
    unfolding compare
    answers =
        rw (
          le-leb (length s) 32768 short,
          both s a b short p tested-first whole-first q tested-second whole-second,
          gap.number,
          first_stands.line,
        ) (ap (differs k) (sym says))

    -- the answer with the line that ends there
    abbrev pub until : ℕ → Result (Option Difference) refusals.Refusal
    until end = Ok (Some (record { line = k; tap = t; start = start; len = end - start }))

    pub culprit_first : t ≡ tap.First → Compares s a b (until e)
    unfolding comparison_told start_told length_told culprit_part Inside Fits tape_by tap_told
    culprit_first named =
        let says_so : compare s a b ≡ differs k first = answers ∙ ap (λ (u : taps.Tap). differs k (tap_told u)) named in
        located s a b (until e) k first a start e first_stands (sym answers)
        (ap (culprit_part a b) says_so) refl refl (rw named (omega (arith, first_order, first_inside)))

    pub culprit_second : t ≡ tap.Second → Compares s a b (until f)
    unfolding comparison_told start_told length_told culprit_part Inside Fits tape_by tap_told
    culprit_second named =
        let says_so : compare s a b ≡ differs k second = answers ∙ ap (λ (u : taps.Tap). differs k (tap_told u)) named in
        located s a b (until f) k second b start f second_stands (sym answers)
        (ap (culprit_part a b) says_so) refl refl (rw named (omega (arith, second_order, second_inside)))
