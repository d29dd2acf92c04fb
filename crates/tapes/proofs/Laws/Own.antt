-- The algorithm's own line with a number, looked for on one line of a sheet after another: how many lines are still to
-- be passed over where the next line begins.
-- Relies on the entries of a taped line; the proof of `culprit_of` relies on it.
use Rattle.model.proofs.Kit.{◌≡◌, refl, sym, ap, ◌∙◌, List, [], ◌∷◌, ◌++◌, map, none, some, Option, ℕ, zero, suc}
use Rattle.model.proofs.Kit.{◌+◌, ◌-◌, ◌≤◌, ◌<◌, length, take, drop, replicate, append_assoc, length-append, zero-add}
use Rattle.model.proofs.Kit.{ne_eqb, arith}
use mathlib.Core.List.{map-append}
use lib.Seq.{take-append_seam, length-take-le}
use Rattle.model.specs.declared.Tap.TheVariants as tap
use Rattle.model.specs.Bytes.{splice}
use Rattle.model.specs.Layout.{board_length}
use Rattle.model.specs.Sheet.{play_line, lines_of}
use Rattle.model.specs.Tape.{Entry, entry_text, lines_tape, begun, sheet_tape, own_lines, line_at, Tap, culprit}
use Rattle.model.specs.Told.{tap_told}
use Rattle.model.proofs.Basics.Tests.{never}
use Rattle.model.proofs.Basics.Ended.{no_parts}
use Rattle.tape_writer.proofs.Laws.WritingLength.{line_short}
use Rattle.taping.specs.Taping.{Taping, tape_line, line_taken, slot}
use Rattle.taped_line.specs.declared.TapedLine.{TapedLine}
use Rattle.taped_line.specs.TapedLines.{entry_taped, entries_taped, Room, line_tape, LineTaped}
use Rattle.taped_line.proofs.Laws.Entries.{entries_full}
use Rattle.taped_line.proofs.Laws.Sheets.{standing, first_line}
use Rattle.lines.specs.Ends.{LineEnd}

-- the buffer has room for one line
pub own_room : (own : List ℕ) (k : ℕ) → length own ≡ 56 → Room own (record { left = k; room = 1; len = 0 })
unfolding Room slot
own_room own k h = omega arith

-- ---- one line wanted

-- one line is wanted behind k others
abbrev wanting : (out : List ℕ) (k : ℕ) → Taping
wanting out k = record { board = []; out = out; left = k; room = 1; len = 0 }

-- it has been put in
abbrev holding : (out : List ℕ) → Entry → Taping
holding out e =
    record { board = []; out = splice 0 (tape_line e) out; left = 0; room = 0; len = length (tape_line e) }

-- Of some entries: the line that is wanted is none of them, and so many fewer are to be passed over; or it is one.
pub data Looked (es : List Entry) (k : ℕ) (out : List ℕ) : Type 0 where
  later : length es ≤ k → entries_taped es (wanting out k) ≡ wanting out (k - length es) → Looked es k out
  here : (e : Entry) → line_at (suc k) (map entry_text es) ≡ some (entry_text e)
      → entries_taped es (wanting out k) ≡ holding out e → Looked es k out

looked : (es : List Entry) (k : ℕ) (out : List ℕ) → Looked es k out
unfolding entries_taped entry_taped line_taken line_at
looked [] k out = later (omega arith) (ap (wanting out) (omega arith))
looked (e ∷ es) zero out =
    here e refl (entries_full es put refl ∙ (λ j. record {
      board = [];
      out = splice 0 (tape_line e) out;
      left = 0;
      room = 0;
      len = zero-add (length (tape_line e)) j;
    }))
  where
    put : Taping
    put = record {
      board = [];
      out = splice 0 (tape_line e) out;
      left = 0;
      room = 0;
      len = 0 + length (tape_line e);
    }
looked (e ∷ es) (suc k) out = by (looked es k out)
  where
    less : suc k - 1 ≡ k
    less = omega arith

    one : entry_taped e (wanting out (suc k)) ≡ wanting out k
    one = rw (ne_eqb (suc k) 0 (λ z. omega arith)) (ap (wanting out) less)

    by : Looked es k out → Looked (e ∷ es) (suc k) out
    by (later l q) = later (omega arith) (ap (entries_taped es) one ∙ q ∙ ap (wanting out) (omega arith))
    by (here f r q) = here f r (ap (entries_taped es) one ∙ q)

-- ---- the lines of entries in two parts

-- the line is in the first part
in_first : (ls ms : List (List ℕ)) (k : ℕ) (l : List ℕ) → line_at (suc k) ls ≡ some l
    → line_at (suc k) (ls ++ ms) ≡ some l
unfolding line_at
in_first [] ms k l e = never l e
in_first (m ∷ ls) ms zero l e = e
in_first (m ∷ ls) ms (suc k) l e = in_first ls ms k l e

-- or behind it
in_second : (es fs : List Entry) (k : ℕ) → length es ≤ k
    → line_at (suc k) (map entry_text (es ++ fs)) ≡ line_at (suc (k - length es)) (map entry_text fs)
unfolding line_at
in_second [] fs k h = ap (λ (j : ℕ). line_at (suc j) (map entry_text fs)) (omega arith)
in_second (e ∷ es) fs zero h = absurd (omega arith)
in_second (e ∷ es) fs (suc k) h =
    in_second es fs k (omega arith) ∙ ap (λ (j : ℕ). line_at (suc j) (map entry_text fs)) (omega arith)

-- ---- along the sheet

-- the line that is looked for is the one behind k others of the tape from `at` on
unfoldable pub Looking : (s : List ℕ) (number at laid : ℕ) (m : List ℕ) (k : ℕ) → Type 0
Looking s number at laid m k =
    line_at number (own_lines s) ≡ line_at (suc k) (map entry_text (lines_tape (lines_of (drop at s)) (standing laid m)))

pub looking_begun : (s : List ℕ) (number : ℕ) → 1 ≤ number → Looking s number 0 0 (replicate 16904 0) (number - 1)
unfolding Looking own_lines sheet_tape begun board_length
looking_begun s number h =
    let same : number ≡ suc (number - 1) = omega arith in ap (λ (k : ℕ). line_at k (own_lines s)) same

module _ (s : List ℕ) (number at laid : ℕ) (m : List ℕ) (k : ℕ) (looking : Looking s number at laid m k) where
  looking_ended : length s ≤ at → line_at number (own_lines s) ≡ none
  unfolding Looking lines_tape line_at
  looking_ended h =
      looking ∙ ap (λ (ls : List (List ℕ)). line_at (suc k) (map entry_text (lines_tape ls (standing laid m))))
      (no_parts 10 s at h)

  -- the algorithm has no such line
  pub own_missing : length s ≤ at → (l : List ℕ) → tap_told tap.First ≡ culprit (line_at number (own_lines s)) (some l)
  unfolding tap_told culprit
  own_missing h l = sym (ap (λ (q : Option (List ℕ)). culprit q (some l)) (looking_ended h))

  module _ (end : ℕ) (ends : LineEnd s at end) (inside : at < length s) (own : List ℕ) (r : TapedLine) (d o : List ℕ)
      (line_taped : LineTaped (take (end - at) (drop at s)) laid m own (record { left = k; room = 1; len = 0 }) r d o)
    where
      line : List ℕ
      line = take (end - at) (drop at s)

      entries : List Entry
      entries = line_tape laid m line

      split : line_at number (own_lines s)
          ≡ line_at (suc k) (map entry_text (entries ++ lines_tape (lines_of (drop (end + 1) s))
          (standing (play_line laid m line).laid (play_line laid m line).memory)))
      unfolding Looking entries line
      split =
          looking ∙ ap (λ (es : List Entry). line_at (suc k) (map entry_text es))
          (first_line (lines_of (drop at s)) laid m line (lines_of (drop (end + 1) s)) (ends.lines inside))

      put : record { board = []; out = o; left = r.taped.left; room = r.taped.room; len = r.taped.len }
          ≡ entries_taped entries (wanting own k)
      unfolding entries line
      put = line_taped.taped

      -- the line was put in
      own_found : r.taped.room ≡ 0
          → (1 ≤ r.taped.len) × (r.taped.len ≤ 56)
          × (line_at number (own_lines s) ≡ some (take (r.taped.len - 1) o))
      own_found full = by (looked entries k own)
        where
          by : Looked entries k own → (1 ≤ r.taped.len) × (r.taped.len ≤ 56)
              × (line_at number (own_lines s) ≡ some (take (r.taped.len - 1) o))
          by (later l q) = absurd (let w = ap (λ (t : Taping). t.room) (put ∙ q) in omega arith)
          by (here e is q) =
              let len = ap (λ (t : Taping). t.len) (put ∙ q) in
              let long : length (tape_line e) ≡ length (entry_text e) + 1 =
              unfold tape_line in length-append (entry_text e) (10 ∷ []) in (
                omega arith,
                omega (arith, line_short e, length-append (entry_text e) (10 ∷ [])),
                split ∙ ap (line_at (suc k)) (map-append entry_text entries _)
                    ∙ in_first (map entry_text entries) _ k (entry_text e) is
                    ∙ ap some (sym (taken e r.taped.len len (ap (λ (t : Taping). t.out) (put ∙ q)))),
              )
            where
              taken : (e : Entry) (n : ℕ) → n ≡ length (tape_line e) → o ≡ splice 0 (tape_line e) own
                  → take (n - 1) o ≡ entry_text e
              taken e n h q = unfold splice tape_line in
                  (λ j. take (width j) (q j)) ∙ ap (take (length (entry_text e)))
                  (append_assoc (entry_text e) (10 ∷ []) _) ∙ take-append_seam (entry_text e) _
                where
                  width : n - 1 ≡ length (entry_text e)
                  width = unfold tape_line in omega (arith, h, length-append (entry_text e) (10 ∷ []))

      pub own_some : r.taped.room ≡ 0 → 1 ≤ r.taped.len
      own_some full = (own_found full).0

      pub own_fits : r.taped.room ≡ 0 → length o ≡ 56 → r.taped.len - 1 ≤ length o
      own_fits full size = omega (arith, (own_found full).1)

      pub own_width : r.taped.room ≡ 0 → length o ≡ 56 → r.taped.len - 1 ≡ length (take (r.taped.len - 1) o)
      own_width full size = sym (length-take-le (r.taped.len - 1) o (own_fits full size))

      pub own_blamed : r.taped.room ≡ 0 → (t : Tap) (l : List ℕ)
          → t ≡ culprit (some (take (r.taped.len - 1) o)) (some l)
          → t ≡ culprit (line_at number (own_lines s)) (some l)
      own_blamed full t l e = e ∙ ap (λ (q : Option (List ℕ)). culprit q (some l)) (sym (own_found full).2)

      -- or it is to be looked for behind this line
      pub own_later : (r.taped.room ≡ 0 → ⊥) → Looking s number (end + 1) r.laid d r.taped.left
      own_later wanted = by (looked entries k own)
        where
          by : Looked entries k own → Looking s number (end + 1) r.laid d r.taped.left
          by (later l q) = unfold Looking line entries in
              let some_room : 1 ≤ r.taped.room = omega arith in
              split ∙ in_second entries _ k l
              ∙ (λ j. line_at (suc (ap (λ (t : Taping). t.left) (sym (put ∙ q)) j))
              (map entry_text (lines_tape (lines_of (drop (end + 1) s))
              (standing (sym (line_taped.board some_room) j) (sym (line_taped.memory some_room) j)))))
          by (here e is q) = absurd (wanted (ap (λ (t : Taping). t.room) (put ∙ q)))
