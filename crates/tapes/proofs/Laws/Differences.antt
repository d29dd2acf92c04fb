-- Two tapes line by line: what is known where the next lines begin, as long as all lines were alike.
-- Relies on where a line ends; the proof of `first_difference` relies on it.
use Rattle.model.proofs.Kit.{◌≡◌, refl, sym, ap, subst, ◌∙◌, Bool, true, false, not, cond, List, [], ◌∷◌, none, some}
use Rattle.model.proofs.Kit.{ℕ, suc, ◌+◌, ◌-◌, ◌≤◌, ◌<◌, length, take, drop, length-drop, zero-add, arith}
use lib.Seq.{length-take-le}
use borrow.Author.Tests.{not-true, not-false}
use Rattle.std.specs.Prelude.{Some, None}
use Rattle.model.specs.Sheet.{lines_of}
use Rattle.model.specs.Tape.{line_at, line_start, differ_from}
use Rattle.model.proofs.Basics.Ended.{no_parts}
use Rattle.model.proofs.Sheet.SameTexts.{same_says}
use Rattle.lines.specs.Ends.{LineEnd}
use Rattle.tapes.specs.Differences.{Stands, GapIs}

-- ---- one tape

-- so many lines stand before the place `at`
pub record Numbered (tape : List ℕ) (number at : ℕ) : Type 0 where
  pub lines : (k : ℕ) → line_at (number + suc k) (lines_of tape) ≡ line_at (suc k) (lines_of (drop at tape))
  pub starts : (k : ℕ) → line_start (number + suc k) (lines_of tape) ≡ at + line_start (suc k) (lines_of (drop at tape))

none_before : (tape : List ℕ) → Numbered tape 0 0
none_before tape = record {
  lines = λ k. ap (λ (j : ℕ). line_at j (lines_of tape)) (zero-add (suc k));
  starts = λ k. ap (λ (j : ℕ). line_start j (lines_of tape)) (zero-add (suc k)) ∙ sym (zero-add _);
}

module _ (tape : List ℕ) (number at end : ℕ) (before : Numbered tape number at) (ends : LineEnd tape at end)
    (inside : at < length tape) where
  line : List ℕ
  line = take (end - at) (drop at tape)

  long : length line ≡ end - at
  unfolding line
  long = length-take-le (end - at) (drop at tape) (omega (arith, length-drop at tape, ends.behind, ends.inside))

  here : lines_of (drop at tape) ≡ line ∷ lines_of (drop (end + 1) tape)
  unfolding line
  here = ends.lines inside

  one_more : Numbered tape (number + 1) (end + 1)
  unfolding line_at line_start
  one_more = record {
    lines = λ k.
        ap (λ (j : ℕ). line_at j (lines_of tape)) (omega arith) ∙ before.lines (suc k) ∙ ap (line_at (suc (suc k))) here;
    starts = λ k.
        ap (λ (j : ℕ). line_start j (lines_of tape)) (omega arith) ∙ before.starts (suc k)
        ∙ ap (λ (ls : List (List ℕ)). at + line_start (suc (suc k)) ls) here
        ∙ omega (arith, long, ends.behind);
  }

  stands : Stands tape (number + 1) at end
  unfolding line_at line_start line
  stands = record {
    line = before.lines 0 ∙ ap (line_at 1) here;
    begins = before.starts 0 ∙ ap (λ (ls : List (List ℕ)). at + line_start 1 ls) here ∙ omega arith;
    order = ends.behind;
    inside = ends.inside;
  }

-- ---- both

-- all lines before `at` are alike on both tapes
pub record Alike (a b : List ℕ) (number at : ℕ) : Type 0 where
  pub rest : differ_from 0 (lines_of a) (lines_of b) ≡ differ_from number (lines_of (drop at a)) (lines_of (drop at b))
  pub first : Numbered a number at
  pub second : Numbered b number at
  pub few : number ≤ at

pub alike_begun : (a b : List ℕ) → Alike a b 0 0
alike_begun a b = record { rest = refl; first = none_before a; second = none_before b; few = omega arith }

module _ (a b : List ℕ) (number at : ℕ) (so_far : Alike a b number at) where
  -- the first tape ends
  pub first_ended : length a ≤ at → GapIs a b None
  unfolding differ_from GapIs
  first_ended h =
      so_far.rest ∙ ap (λ (ls : List (List ℕ)). differ_from number ls (lines_of (drop at b))) (no_parts 10 a at h)

  -- the second one does
  pub second_ended : length b ≤ at → GapIs a b None
  unfolding differ_from GapIs
  second_ended h =
      so_far.rest ∙ ap (differ_from number (lines_of (drop at a))) (no_parts 10 b at h) ∙ by (lines_of (drop at a))
    where
      by : (ls : List (List ℕ)) → differ_from number ls [] ≡ none
      by [] = refl
      by (l ∷ ls) = refl

  module _ (e f : ℕ) (ends-a : LineEnd a at e) (ends-b : LineEnd b at f) (in_a_lem : at < length a) (in_b : at < length b)
      (r : Bool)
      (says : (r ≡ true → take (e - at) (drop at a) ≡ take (f - at) (drop at b))
      × (take (e - at) (drop at a) ≡ take (f - at) (drop at b) → r ≡ true)) where
    both : differ_from 0 (lines_of a) (lines_of b)
        ≡ cond r (differ_from (suc number) (lines_of (drop (e + 1) a)) (lines_of (drop (f + 1) b))) (some (suc number))
    unfolding differ_from
    both =
        so_far.rest ∙ (λ j. differ_from number (ends-a.lines in_a_lem j) (ends-b.lines in_b j))
        ∙ ap (λ (t : Bool). cond t (differ_from (suc number) (lines_of (drop (e + 1) a)) (lines_of (drop (f + 1) b)))
        (some (suc number))) (same_says _ _ r r says refl)

    pub differ_here : not r ≡ true
        → GapIs a b (Some (record { number = number + 1; start = at; first = e; second = f }))
    unfolding GapIs
    differ_here q = record {
      number = both ∙ rw (not-true r q) (ap some (omega arith));
      first = stands a number at e so_far.first ends-a in_a_lem;
      second = stands b number at f so_far.second ends-b in_b;
    }

    pub alike_more : not r ≡ false → Alike a b (number + 1) (e + 1)
    alike_more q = record {
      rest =
          both ∙ rw (not-false r q) ((λ j. differ_from (one j) (lines_of (drop (e + 1) a)) (lines_of (drop (place j + 1) b))));
      first = one_more a number at e so_far.first ends-a in_a_lem;
      second =
          subst (λ (k : ℕ). Numbered b (number + 1) (k + 1)) place
          (one_more b number at f so_far.second ends-b in_b);
      few = omega (arith, so_far.few, ends-a.behind);
    }
      where
        one : suc number ≡ number + 1
        one = omega arith

        place : f ≡ e
        place =
            omega (
              arith,
              ap length (says.0 (not-false r q)),
              length-take-le (e - at) (drop at a) (omega (arith, length-drop at a, ends-a.inside, ends-a.behind)),
              length-take-le (f - at) (drop at b) (omega (arith, length-drop at b, ends-b.inside, ends-b.behind)),
              ends-a.behind,
              ends-b.behind,
            )
