-- The parts of a tape one after another are the tape of the sheet, and each part leads on.
-- Relies on the definition of a part; it proves `TapeWritten`; by `falls` a loop over the parts ends.
use Rattle.model.proofs.Kit.{◌≡◌, refl, sym, ap, subst, ◌∙◌, cond, List, [], ◌∷◌, ◌++◌, append_assoc, ℕ, zero, suc}
use Rattle.model.proofs.Kit.{◌+◌, ◌*◌, ◌-◌, ◌≤◌, ◌<◌, leb, leb-true, leb-false, ltb, ltb-true, ltb-false, lt-ltb}
use Rattle.model.proofs.Kit.{le-ltb, length, take, drop}
use Rattle.model.proofs.Kit.{replicate, length-append, length-drop, take-append-drop, drop-drop, arith}
use lib.Seq.{drop-nil, drop-append-le, take-append-le}
use Rattle.model.specs.Layout.{board_length}
use Rattle.model.specs.Sheet.{play_line, lines_of}
use Rattle.model.specs.Tape.{Entry, entry_text, lines_tape, begun, sheet_tape, tape_text}
use Rattle.model.proofs.Basics.Ended.{front, parts_at, no_parts}
use Rattle.model.proofs.Basics.Tests.{by_test, cond_case}
use Rattle.taped_line.specs.TapedLines.{line_tape}
use Rattle.taped_line.proofs.Laws.Sheets.{standing, first_line}
use Rattle.taped_sheet.specs.SheetParts.{text_of, Part, line_parts, part_at, most_steps, tape_all, TapeWritten}
use Rattle.taped_sheet.proofs.Laws.Few.{line_few}

text_append : (es fs : List Entry) → text_of (es ++ fs) ≡ text_of es ++ text_of fs
unfolding tape_text
text_append [] fs = refl
text_append (e ∷ es) fs =
    ap (λ (l : List ℕ). entry_text e ++ (10 ∷ l)) (text_append es fs)
    ∙ sym (append_assoc (entry_text e) (10 ∷ text_of es) (text_of fs))

-- ---- one part

module _ (rooms : ℕ) (s : List ℕ) (at done laid : ℕ) (m : List ℕ) (inside : at < length s) where
  abbrev line : List ℕ
  line = front 10 (drop at s)

  abbrev entries : List Entry
  entries = line_tape laid m line

  abbrev left : List Entry
  left = drop done entries

  abbrev whole : Part
  whole = record {
    text = text_of left;
    next = at + length line + 1;
    done = 0;
    laid = (play_line laid m line).laid;
    memory = (play_line laid m line).memory;
  }

  abbrev partial : Part
  partial = record { text = text_of (take rooms left); next = at; done = done + rooms; laid = laid; memory = m }

  by_part : (P : Part → Type 0) → (length left < rooms → P whole) → (rooms ≤ length left → P partial)
      → P (part_at rooms s at done laid m)
  by_part P w q =
      subst P (sym is)
      (cond_case P (ltb (length left) rooms) whole partial (λ e. w (ltb-true _ _ e)) (λ e. q (ltb-false _ _ e)))
    where
      is : part_at rooms s at done laid m ≡ cond (ltb (length left) rooms) whole partial
      is = unfold part_at line_parts in rw (parts_at 10 s at inside)

  few : length entries ≤ most_steps
  few = line_few laid m line

  gone : length left ≡ length entries - done
  gone = length-drop done entries

  -- what is left of the sheet, and of the tape of its next line, falls
  pub falls : 1 ≤ rooms → done ≤ most_steps
      → (length s - (part_at rooms s at done laid m).next) * 69633 + (69632 - (part_at rooms s at done laid m).done)
      < (length s - at) * 69633 + (69632 - done)
  unfolding most_steps
  falls some_room h =
      by_part (λ p. (length s - p.next) * 69633 + (69632 - p.done) < (length s - at) * 69633 + (69632 - done))
      (λ l. omega arith)
      (λ l. omega (arith, gone, few))

-- ---- all of them

-- the tape from a line on
abbrev rest : (s : List ℕ) (at laid : ℕ) (m : List ℕ) → List Entry
rest s at laid m = lines_tape (lines_of (drop at s)) (standing laid m)

-- some lines of the tape of the next line are written
abbrev Within : (s : List ℕ) (at done laid : ℕ) (m : List ℕ) → Type 0
Within s at done laid m = at < length s → done ≤ length (line_tape laid m (front 10 (drop at s)))

module _ (rooms : ℕ) (some_room : 1 ≤ rooms) (s : List ℕ) where
  all_written : (fuel at done laid : ℕ) (m : List ℕ) → (length s ≤ at → done ≡ 0) → Within s at done laid m
      → length s - at + (length (rest s at laid m) - done) < fuel
      → tape_all fuel rooms s at done laid m ≡ text_of (drop done (rest s at laid m))
  unfolding tape_all
  all_written zero at done laid m z w f = absurd (omega arith)
  all_written (suc k) at done laid m z w f =
      by_test (leb (length s) at) (λ e. ended (leb-true _ _ e)) (λ e. going (leb-false _ _ e) (all_written k))
    where
      ended : length s ≤ at → tape_all (suc k) rooms s at done laid m ≡ text_of (drop done (rest s at laid m))
      ended h = unfold lines_tape tape_text in
          rw (le-ltb at (length s) h)
          (sym (ap (λ (ls : List (List ℕ)). text_of (drop done (lines_tape ls (standing laid m)))) (no_parts 10 s at h)
          ∙ ap text_of (drop-nil done)))

      going : at < length s
          → ((at' done' laid' : ℕ) (m' : List ℕ) → (length s ≤ at' → done' ≡ 0) → Within s at' done' laid' m'
          → length s - at' + (length (rest s at' laid' m') - done') < k
          → tape_all k rooms s at' done' laid' m' ≡ text_of (drop done' (rest s at' laid' m')))
          → tape_all (suc k) rooms s at done laid m ≡ text_of (drop done (rest s at laid m))
      going h more = rw (lt-ltb at (length s) h)
          (by_part rooms s at done laid m h
          (λ p. p.text ++ tape_all k rooms s p.next p.done p.laid p.memory
          ≡ text_of (drop done (rest s at laid m)))
          finished full)
        where
          l : List ℕ
          l = front 10 (drop at s)

          es : List Entry
          es = line_tape laid m l

          later : List Entry
          later = rest s (at + length l + 1) (play_line laid m l).laid (play_line laid m l).memory

          both : rest s at laid m ≡ es ++ later
          both = first_line (lines_of (drop at s)) laid m l _ (parts_at 10 s at h)

          small : done ≤ length es
          small = w h

          left_is : drop done (rest s at laid m) ≡ drop done es ++ later
          left_is = ap (drop done) both ∙ drop-append-le done es later small

          many : length (rest s at laid m) ≡ length es + length later
          many = ap length both ∙ length-append es later

          finished : length (drop done es) < rooms
              → text_of (drop done es) ++ tape_all k rooms s (at + length l + 1) 0 (play_line laid m l).laid
              (play_line laid m l).memory
              ≡ text_of (drop done (rest s at laid m))
          finished _ =
              ap (λ (t : List ℕ). text_of (drop done es) ++ t)
              (more (at + length l + 1) 0 (play_line laid m l).laid (play_line laid m l).memory (λ _. refl)
              (λ _. omega arith) (omega (arith, many, small)))
              ∙ sym (text_append (drop done es) later) ∙ ap text_of (sym left_is)

          full : rooms ≤ length (drop done es)
              → text_of (take rooms (drop done es)) ++ tape_all k rooms s at (done + rooms) laid m
              ≡ text_of (drop done (rest s at laid m))
          full r =
              let some : done + rooms ≤ length es = omega (arith, length-drop done es) in
              ap (λ (t : List ℕ). text_of (take rooms (drop done es)) ++ t)
              (more at (done + rooms) laid m (λ q. absurd (omega arith)) (λ _. some)
              (omega (arith, many))
              ∙ ap text_of (sym (drop-drop rooms done (rest s at laid m)) ∙ ap (drop rooms) left_is))
              ∙ ap (λ (x : List Entry). text_of x ++ text_of (drop rooms (drop done es ++ later)))
              (sym (take-append-le rooms (drop done es) later r))
              ∙ sym (text_append (take rooms (drop done es ++ later)) (drop rooms (drop done es ++ later)))
              ∙ ap text_of (take-append-drop rooms (drop done es ++ later) ∙ sym left_is)

pub tape_written : TapeWritten
unfolding TapeWritten sheet_tape begun
tape_written s rooms fuel some_room f =
    all_written rooms some_room s fuel 0 0 0 _ (λ _. refl) (λ _. omega arith)
    (omega (arith, ap length same)) ∙ ap text_of same
  where
    same : rest s 0 0 (replicate (board_length 16 64) 0) ≡ sheet_tape s
    same = refl
