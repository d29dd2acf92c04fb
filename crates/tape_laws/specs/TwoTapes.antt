-- Two tapes of one run compared: what the answer says of their lines, and which tape's line is returned.
-- Relies on the model's tape; Compared, Culprits and Parts of proofs/ prove the claims.
use Rattle.std.specs.Prelude.{true, List, ℕ, ◌≤◌, length, take, drop, ◌≡◌, ◌<◌}
use Rattle.std.proofs.Math.Option.{some}
use Rattle.model.specs.Bytes.{Each}
use Rattle.model.specs.Sheet.{lines_of}
use Rattle.model.specs.Tape.{line_at, own_lines, taped, Tap, first, second, not_compared, alike, differs, compare}
use Rattle.model.specs.Tape.{tape_text, TapePart, culprit_part}

-- ---- "find the first line number, counted from 1, at which both have a line and these differ"

-- at no number both have a line and these differ
unfoldable pub NeverDiffer : (first second : List ℕ) → Type 0
NeverDiffer a b =
    (k : ℕ) (l m : List ℕ) → line_at k (lines_of a) ≡ some l → line_at k (lines_of b) ≡ some m → l ≡ m

-- both have a line with the number k, these differ, and those with a lower number do not
pub record FirstDifference (a b : List (List ℕ)) (k : ℕ) : Type 0 where
  pub line : List ℕ
  pub other : List ℕ
  pub in_first : line_at k a ≡ some line
  pub in_second : line_at k b ≡ some other
  pub differ : line ≡ other → ⊥
  pub before : (j : ℕ) → j < k → (l m : List ℕ) → line_at j a ≡ some l → line_at j b ≡ some m → l ≡ m

unfoldable pub DiffersFirst : Type 0
DiffersFirst =
    (s a b : List ℕ) (k : ℕ) (t : Tap) → compare s a b ≡ differs k t → FirstDifference (lines_of a) (lines_of b) k

-- "If they never differ so, the answer is none": exactly then, where it is no refusal
pub record AlikeExactly (s a b : List ℕ) : Type 0 where
  pub says : compare s a b ≡ alike → NeverDiffer a b
  pub said : ((number : ℕ) → compare s a b ≡ not_compared number → ⊥) → NeverDiffer a b → compare s a b ≡ alike

unfoldable pub AlikeIsNever : Type 0
AlikeIsNever = (s a b : List ℕ) → AlikeExactly s a b

-- a tape against itself, if it and the sheet are not refused
unfoldable pub AlikeItself : Type 0
AlikeItself = (s a : List ℕ) → length s ≤ 32768 → taped (lines_of a) ≡ true → compare s a a ≡ alike

-- ---- tapes that keep to the algorithm

-- At every number at which the tape has a line, the algorithm has that same line. A tape that ends before the
-- algorithm's is one too.
unfoldable pub Own : (sheet tape : List ℕ) → Type 0
Own s t = (k : ℕ) (l : List ℕ) → line_at k (lines_of t) ≡ some l → line_at k (own_lines s) ≡ some l

-- The algorithm's own tape as it is written is one.
unfoldable pub WrittenOwn : Type 0
WrittenOwn = (s : List ℕ) → Own s (tape_text (own_lines s))

-- Of two tapes that keep to the algorithm none is named, whatever is refused ..
unfoldable pub NoCulprit : Type 0
NoCulprit = (s a b : List ℕ) → Own s a → Own s b → (k : ℕ) (t : Tap) → compare s a b ≡ differs k t → ⊥

-- .. and they are alike: no line of theirs is refused.
unfoldable pub OwnAlike : Type 0
OwnAlike = (s a b : List ℕ) → length s ≤ 32768 → Own s a → Own s b → compare s a b ≡ alike

-- Where one of the two keeps to the algorithm, the line of the other is returned.
unfoldable pub FirstIsOwn : Type 0
FirstIsOwn = (s a b : List ℕ) → Own s a → (k : ℕ) (t : Tap) → compare s a b ≡ differs k t → t ≡ second

unfoldable pub SecondIsOwn : Type 0
SecondIsOwn = (s a b : List ℕ) → Own s b → (k : ℕ) (t : Tap) → compare s a b ≡ differs k t → t ≡ first

-- ---- "The culprit's line is returned as a part of that tape"

-- one of two, by the tape
unfoldable pub tape_by : {A : Type 0} → Tap → (first second : A) → A
tape_by first a b = a
tape_by second a b = b

-- The part is of the tape t that holds these bytes: its line with the number k, which is not empty and without an LF,
-- at the place where it starts.
pub record PartStands (t : Tap) (tape : List ℕ) (k : ℕ) (p : TapePart) : Type 0 where
  pub of : p.tap ≡ t
  pub line : line_at k (lines_of tape) ≡ some p.bytes
  pub not_empty : 0 < length p.bytes
  pub there : take (length p.bytes) (drop p.start tape) ≡ p.bytes
  pub no_end : Each (λ b. b ≡ 10 → ⊥) p.bytes

unfoldable pub CulpritStands : Type 0
CulpritStands =
    (s a b : List ℕ) (k : ℕ) (t : Tap) → compare s a b ≡ differs k t
    → PartStands t (tape_by t a b) k (culprit_part a b (differs k t))
