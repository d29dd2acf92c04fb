-- The next part of a tape at each return: the buffer is full, or the line's tape is written to its end.
-- Relies on what entries leave in the buffer; the proof of `next_part` relies on it.
use Rattle.model.proofs.Kit.{◌≡◌, refl, sym, ap, subst, ◌∙◌, List, ℕ, ◌+◌, ◌-◌, ◌/◌, ◌≤◌, ◌<◌}
use Rattle.model.proofs.Kit.{lt-ltb, le-ltb, length, take, drop, take_all, length-drop, zero-add, w64, Fits, arith}
use lib.Seq.{length-take-le, take-append_seam}
use Rattle.model.specs.Bytes.{splice}
use Rattle.model.specs.Sheet.{play_line}
use Rattle.model.specs.Tape.{Entry}
use Rattle.lines.specs.Ends.{LineEnd}
use Rattle.taping.specs.Taping.{slot}
use Rattle.taped_line.specs.declared.TapedLine.{TapedLine}
use Rattle.taped_line.specs.TapedLines.{window, Room, line_tape, LineTaped}
use Rattle.taped_sheet.specs.SheetParts.{text_of, Part, line_parts, part_at, most_steps, LineTried, PartIs}
use Rattle.taped_sheet.proofs.Laws.Windows.{Put, put}
use Rattle.taped_sheet.proofs.Laws.Few.{line_few}

-- the buffer has room for as many lines
pub rooms_fit : (out : List ℕ) (k : ℕ) → Room out (record { left = k; room = length out / 56; len = 0 })
unfolding Room slot
rooms_fit out k = omega arith

-- the front of a buffer after a splice there
at_front : (l out : List ℕ) → take (length l) (splice 0 l out) ≡ l
unfolding splice
at_front l out = take-append_seam l _

-- ---- one line taped

module _ (line : List ℕ) (done laid : ℕ) (m out : List ℕ) (rooms : ℕ) (r : TapedLine) (d o : List ℕ)
    (taped : LineTaped line laid m out (record { left = done; room = rooms; len = 0 }) r d o) where
  -- the entries that are not written yet
  abbrev es : List Entry
  es = drop done (line_tape laid m line)

  left_in : Put (line_tape laid m line) (window out (record { left = done; room = rooms; len = 0 }))
      (window o r.taped)
  left_in =
      subst (Put (line_tape laid m line) (window out (record { left = done; room = rooms; len = 0 })))
      (sym taped.taped) (put (line_tape laid m line) _)

  len_is : r.taped.len ≡ length (text_of (take rooms es))
  len_is = left_in.len ∙ zero-add _

  text_is : take r.taped.len o ≡ text_of (take rooms es)
  text_is =
      (λ j. take (len_is j) (left_in.out j)) ∙ at_front (text_of (take rooms (drop done (line_tape laid m line)))) out

  room_is : r.taped.room ≡ rooms - length es
  room_is = left_in.room

  many : length es ≡ length (line_tape laid m line) - done
  many = length-drop done (line_tape laid m line)

  pub done_few : 1 ≤ rooms → r.taped.room ≡ 0 → done + rooms ≤ most_steps
  done_few some_room full = omega (arith, room_is, many, line_few laid m line)

  pub done_fits : 1 ≤ rooms → r.taped.room ≡ 0 → Fits w64 (done + rooms)
  unfolding most_steps
  done_fits some_room full = record { fits = omega (arith, done_few some_room full) }

-- the buffer has room for some line
pub some_rooms : (out : List ℕ) → 56 ≤ length out → 1 ≤ length out / 56
some_rooms out h = omega arith

-- ---- the part at a place of the sheet

module _ (s : List ℕ) (at done laid : ℕ) (m out : List ℕ) (rooms end : ℕ) (ends : LineEnd s at end)
    (inside : at < length s) (r : TapedLine) (d o : List ℕ)
    (tried : LineTried (take (end - at) (drop at s)) laid m out (record { left = done; room = rooms; len = 0 }) r d o)
    (some_room : 1 ≤ rooms) where
  abbrev line : List ℕ
  line = take (end - at) (drop at s)

  abbrev taped : LineTaped line laid m out (record { left = done; room = rooms; len = 0 }) r d o
  taped = tried.taped

  long : length line ≡ end - at
  long = length-take-le (end - at) (drop at s) (omega (arith, length-drop at s, ends.behind, ends.inside))

  here : part_at rooms s at done laid m ≡ line_parts rooms s at done laid m line
  unfolding part_at
  here = rw (ends.lines inside)

  abbrev left : List Entry
  left = es line done laid m out rooms r d o taped

  left_room : r.taped.room ≡ rooms - length left
  left_room = room_is line done laid m out rooms r d o taped

  left_text : take r.taped.len o ≡ text_of (take rooms left)
  left_text = text_is line done laid m out rooms r d o taped

  left_long : r.taped.len ≡ length (text_of (take rooms left))
  left_long = len_is line done laid m out rooms r d o taped

  pub part_full : r.taped.room ≡ 0
      → PartIs (part_at rooms s at done laid m)
      (record { len = r.taped.len; next = at; done = done + rooms; laid = laid }) d o
  part_full full =
      subst (λ (p : Part). PartIs p (record { len = r.taped.len; next = at; done = done + rooms; laid = laid }) d o)
      (sym (here ∙ is))
      (record {
        text = left_text;
        len = left_long;
        next = refl;
        done = refl;
        laid = refl;
        memory = tried.back full;
        few = done_few line done laid m out rooms r d o taped some_room full;
      })
    where
      is : line_parts rooms s at done laid m line
          ≡ (record { text = text_of (take rooms left); next = at; done = done + rooms; laid = laid; memory = m })
      is = unfold line_parts in rw (le-ltb (length left) rooms (omega (arith, left_room)))

  pub part_whole : (r.taped.room ≡ 0 → ⊥)
      → PartIs (part_at rooms s at done laid m)
      (record { len = r.taped.len; next = end + 1; done = 0; laid = r.laid }) d o
  part_whole wanted =
      subst (λ (p : Part). PartIs p (record { len = r.taped.len; next = end + 1; done = 0; laid = r.laid }) d o)
      (sym (here ∙ is))
      (record {
        text = left_text ∙ ap text_of all;
        len = left_long ∙ ap (λ (l : List Entry). length (text_of l)) all;
        next = omega (arith, long, ends.behind);
        done = refl;
        laid = taped.board some_left;
        memory = taped.memory some_left;
        few = omega arith;
      })
    where
      some_left : 1 ≤ r.taped.room
      some_left = omega arith

      all : take rooms left ≡ left
      all = take_all rooms left (omega (arith, left_room))

      is : line_parts rooms s at done laid m line
          ≡ (record {
            text = text_of left;
            next = at + length line + 1;
            done = 0;
            laid = (play_line laid m line).laid;
            memory = (play_line laid m line).memory;
          })
      is = unfold line_parts in rw (lt-ltb (length left) rooms (omega (arith, left_room)))
