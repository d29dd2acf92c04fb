-- A tape tested line by line, and the blame by the algorithm's own line.
-- Relies on where a line ends; the proofs of `entries_end` and `blamed` rely on it.
use Rattle.model.proofs.Kit.{◌≡◌, refl, sym, ap, ◌∙◌, Bool, true, false, not, ◌&&◌, cond, List, some, ℕ, ◌+◌, ◌-◌, ◌≤◌}
use Rattle.model.proofs.Kit.{◌<◌, length, take, drop, arith}
use borrow.Author.Tests.{not-true, not-false}
use Rattle.model.specs.declared.Tap.TheVariants as tap
use Rattle.model.specs.Sheet.{lines_of}
use Rattle.model.specs.Tape.{first, second, is_entry, taped, culprit}
use Rattle.model.specs.Told.{tap_told}
use Rattle.model.proofs.Basics.Ended.{no_parts}
use Rattle.model.proofs.Sheet.SameTexts.{same_says}
use Rattle.lines.specs.Ends.{LineEnd}
use Rattle.tapes.specs.Tested.{Tested}

-- the lines before `at` are step answers
unfoldable pub Checked : (tape : List ℕ) (at : ℕ) → Type 0
Checked tape at = taped (lines_of tape) ≡ taped (lines_of (drop at tape))

pub checked_begun : (tape : List ℕ) → Checked tape 0
unfolding Checked
checked_begun tape = refl

module _ (tape : List ℕ) (at : ℕ) (so_far : Checked tape at) where
  pub checked_all : length tape ≤ at → Tested tape (length tape)
  unfolding Checked taped
  checked_all h = record {
    whole = λ all. so_far ∙ ap taped (no_parts 10 tape at h);
    broken = λ short. absurd (omega (arith, short));
  }

  module _ (end : ℕ) (ends : LineEnd tape at end) (inside : at < length tape) (r : Bool)
      (says : r ≡ is_entry (take (end - at) (drop at tape))) where
    one : taped (lines_of tape) ≡ r && taped (lines_of (drop (end + 1) tape))
    unfolding Checked taped
    one =
        so_far ∙ ap taped (ends.lines inside)
        ∙ ap (λ (t : Bool). t && taped (lines_of (drop (end + 1) tape))) (sym says)

    pub checked_more : not r ≡ false → Checked tape (end + 1)
    unfolding Checked
    checked_more q = one ∙ ap (λ (t : Bool). t && taped (lines_of (drop (end + 1) tape))) (not-false r q)

    pub not_checked : not r ≡ true → Tested tape at
    not_checked q = record {
      whole = λ all. absurd (omega (arith, all, inside));
      broken = λ short. one ∙ ap (λ (t : Bool). t && taped (lines_of (drop (end + 1) tape))) (not-true r q);
    }

-- ---- the blame

module _ (l o : List ℕ) (r : Bool) (says : (r ≡ true → l ≡ o) × (l ≡ o → r ≡ true)) where
  pub blames_second : not r ≡ false → tap_told tap.Second ≡ culprit (some o) (some l)
  unfolding tap_told culprit
  blames_second e = sym (ap (λ (t : Bool). cond t second first) (same_says l o r true says (not-false r e)))

  pub blames_first : not r ≡ true → tap_told tap.First ≡ culprit (some o) (some l)
  unfolding tap_told culprit
  blames_first e = sym (ap (λ (t : Bool). cond t second first) (same_says l o r false says (not-true r e)))
