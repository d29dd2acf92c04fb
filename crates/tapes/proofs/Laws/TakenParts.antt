-- A part of one of two tapes: where it lies, and what it is.
-- Relies on what is promised of a part; the proofs of `part_of` and `culprit_line` rely on it.
use Rattle.model.proofs.Kit.{◌≡◌, refl, sym, ap, subst, ◌∙◌, List, [], ℕ, ◌+◌, ◌-◌, ◌≤◌, length, take, drop, arith}
use denote.Ref.{Bor}
use Rattle.model.specs.declared.Tap as taps
use Rattle.model.specs.declared.Tap.TheVariants as tap
use Rattle.model.specs.Told.{tap_told, comparison_told, start_told, length_told}
use Rattle.std.specs.Prelude.{Ok, Err, Some, None}
use Rattle.std.specs.declared.result.Result.{Result}
use Rattle.std.specs.declared.option.Option.{Option}
use Rattle.model.specs.declared.refusal.Refusal.{Refusal}
use Rattle.model.specs.declared.Difference.{Difference}
use Rattle.model.specs.Tape.{Tap, first, second, Compared, differs, TapePart, empty_part, compare, culprit_part}
use Rattle.tape_laws.specs.TwoTapes.{tape_by, PartStands, CulpritStands}
use Rattle.tape_laws.proofs.Parts.{culprit_stands}
use Rattle.tapes.specs.Comparing.{Fits, Inside, Compares, PartIs, PartTaken}

module _ (a b : List ℕ) (d : Difference) (fits : Fits a b d) where
  pub inside_first : d.tap ≡ tap.First → d.start + d.len ≤ length a
  unfolding Fits tape_by tap_told
  inside_first e = subst (λ (u : taps.Tap). d.start + d.len ≤ length (tape_by (tap_told u) a b)) e fits

  pub inside_second : d.tap ≡ tap.Second → d.start + d.len ≤ length b
  unfolding Fits tape_by tap_told
  inside_second e = subst (λ (u : taps.Tap). d.start + d.len ≤ length (tape_by (tap_told u) a b)) e fits

module _ (a b part : Bor (List ℕ)) (k : ℕ) (t : taps.Tap) (start len : ℕ) where
  abbrev pub taken : taps.Tap → Type 0
  taken u = PartTaken a b (record { line = k; tap = u; start = start; len = len }) part

  width : (l : List ℕ) → take (start + len - start) (drop start l) ≡ take len (drop start l)
  width l = let w : start + len - start ≡ len = omega arith in ap (λ (k : ℕ). take k (drop start l)) w

  pub part_first : t ≡ tap.First → part.now ≡ take (start + len - start) (drop start a.now)
      → part.ref_ptr.0 ≡ a.ref_ptr.0 → part.ref_ptr.1 ≡ a.ref_ptr.1 + start → taken t
  unfolding tape_by tap_told
  part_first e now there place =
      subst taken (sym e)
      (record { bytes = now ∙ width a.now; tape = there; place = place })

  pub part_second : t ≡ tap.Second → part.now ≡ take (start + len - start) (drop start b.now)
      → part.ref_ptr.0 ≡ b.ref_ptr.0 → part.ref_ptr.1 ≡ b.ref_ptr.1 + start → taken t
  unfolding tape_by tap_told
  part_second e now there place =
      subst taken (sym e)
      (record { bytes = now ∙ width b.now; tape = there; place = place })

-- ---- what is handed back

abbrev Answer : Type 0
Answer = Result (Option Difference) Refusal

pub compared_fits : (s a b : List ℕ) (r : Answer) → Compares s a b r → (d : Difference) → r ≡ Ok (Some d) → Fits a b d
unfolding Inside
compared_fits s a b r c d e = subst (Inside a b) e c.inside

module _ (s : List ℕ) (a b part : Bor (List ℕ)) (r : Answer) (c : Compares s a.now b.now r) where
  -- no line: an empty part of the first tape
  empty_part_lem : culprit_part a.now b.now (comparison_told r) ≡ empty_part → part.now ≡ []
      → part.ref_ptr.0 ≡ a.ref_ptr.0 → part.ref_ptr.1 ≡ a.ref_ptr.1
      → PartIs a b part (culprit_part a.now b.now (compare s a.now b.now))
  unfolding empty_part tape_by
  empty_part_lem e now there place =
      subst (PartIs a b part) (sym (ap (culprit_part a.now b.now) (sym c.answer) ∙ e))
      (record { bytes = now; tape = there; place = place ∙ omega arith })

  pub part_refused : (k : Refusal) → r ≡ Err k → part.now ≡ [] → part.ref_ptr.0 ≡ a.ref_ptr.0 → part.ref_ptr.1 ≡ a.ref_ptr.1
      → PartIs a b part (culprit_part a.now b.now (compare s a.now b.now))
  unfolding comparison_told culprit_part
  part_refused k e = empty_part_lem (ap (λ (q : Answer). culprit_part a.now b.now (comparison_told q)) e)

  pub part_alike : r ≡ Ok None → part.now ≡ [] → part.ref_ptr.0 ≡ a.ref_ptr.0 → part.ref_ptr.1 ≡ a.ref_ptr.1
      → PartIs a b part (culprit_part a.now b.now (compare s a.now b.now))
  unfolding comparison_told culprit_part
  part_alike e = empty_part_lem (ap (λ (q : Answer). culprit_part a.now b.now (comparison_told q)) e)

  -- the culprit's line
  module _ (d : Difference) (is : r ≡ Ok (Some d)) where
    abbrev k : ℕ
    k = d.line

    abbrev t : taps.Tap
    t = d.tap

    abbrev start : ℕ
    start = d.start

    abbrev len : ℕ
    len = d.len

    p : TapePart
    p = culprit_part a.now b.now (compare s a.now b.now)

    answer : compare s a.now b.now ≡ differs k (tap_told t)
    unfolding comparison_told
    answer = sym c.answer ∙ ap comparison_told is

    stands : PartStands (tap_told t) (tape_by (tap_told t) a.now b.now) k p
    unfolding CulpritStands p
    stands =
        subst (λ (q : Compared). PartStands (tap_told t) (tape_by (tap_told t) a.now b.now) k
        (culprit_part a.now b.now q)) (sym answer) (culprit_stands s a.now b.now k (tap_told t) answer)

    starts : start ≡ p.start
    unfolding start_told p
    starts = sym (ap start_told is) ∙ c.start

    long : len ≡ length p.bytes
    unfolding length_told p
    long = sym (ap length_told is) ∙ c.len

    named : (u : Tap) → (tape_by u a b).now ≡ tape_by u a.now b.now
    unfolding tape_by
    named first = refl
    named second = refl

    pub part_differs : PartTaken a b d part
        → PartIs a b part (culprit_part a.now b.now (compare s a.now b.now))
    unfolding p
    part_differs taken = record {
      bytes =
          taken.bytes ∙ (λ j. take (long j) (drop (starts j) (named (tap_told t) j))) ∙ stands.there;
      tape = taken.tape ∙ ap (λ (u : Tap). (tape_by u a b).ref_ptr.0) (sym stands.of);
      place = taken.place ∙ (λ j. (tape_by (sym stands.of j) a b).ref_ptr.1 + starts j);
    }
