-- What the two calls that compare tapes promise: the answer by value, and the part of a tape with its place.
-- Relies on the model's comparison; the contracts of the public calls cite it.
use Rattle.std.specs.Prelude.{◌≡◌, List, ℕ, ◌+◌, ◌≤◌, length, take, drop, Ok, Err, Some, None}
use Rattle.std.specs.declared.result.Result.{Result}
use Rattle.std.specs.declared.option.Option.{Option}
use Rattle.std.specs.Borrow.{Bor}
use Rattle.model.specs.declared.refusal.Refusal.{Refusal}
use Rattle.model.specs.declared.Difference.{Difference}
use Rattle.model.specs.Tape.{TapePart, compare, culprit_part}
use Rattle.model.specs.Told.{tap_told, comparison_told, start_told, length_told}
use Rattle.tape_laws.specs.TwoTapes.{tape_by}

-- the line lies inside its tape
unfoldable pub Fits : (a b : List ℕ) → Difference → Type 0
Fits a b d = d.start + d.len ≤ length (tape_by (tap_told d.tap) a b)

unfoldable pub Inside : (a b : List ℕ) → Result (Option Difference) Refusal → Type 0
Inside a b (Ok None) = Unit {0}
Inside a b (Ok (Some d)) = Fits a b d
Inside a b (Err r) = Unit {0}

-- the answer, and where the culprit's line is on its tape
pub record Compares (s a b : List ℕ) (r : Result (Option Difference) Refusal) : Type 0 where
  pub answer : comparison_told r ≡ compare s a b
  pub start : start_told r ≡ (culprit_part a b (compare s a b)).start
  pub len : length_told r ≡ length (culprit_part a b (compare s a b)).bytes
  pub inside : Inside a b r

-- "returned as a part of that tape": the bytes, and the place on the tape that they are a part of
pub record PartIs (a b part : Bor (List ℕ)) (p : TapePart) : Type 0 where
  pub bytes : part.now ≡ p.bytes
  pub tape : part.ref_ptr.0 ≡ (tape_by p.tap a b).ref_ptr.0
  pub place : part.ref_ptr.1 ≡ (tape_by p.tap a b).ref_ptr.1 + p.start

-- the part by its place and length alone
abbrev pub PartTaken : (a b : Bor (List ℕ)) → Difference → (part : Bor (List ℕ)) → Type 0
PartTaken a b d part =
    PartIs a b part
    (record {
      tap = tap_told d.tap;
      start = d.start;
      bytes = take d.len (drop d.start (tape_by (tap_told d.tap) a b).now);
    })
