-- "The program lends boards that fit, so only library callers meet 7, 10 and 11.": no line of a sheet prints one of
-- them, nor 22. Relies on Printed and EachForm and on ListOfCalls' account of what stands between lines.
use Rattle.model.proofs.Kit.{◌≡◌, refl, sym, ap, subst, ◌∙◌, not, inl, inr, ◌⊎◌, List, [], ◌∷◌, none, some}
use Rattle.model.proofs.Kit.{Option, ℕ, ◌≤◌, leb-false, eqb-false, leb, length, take, length-drop}
use Rattle.model.proofs.Kit.{length-replicate, mul-le-mul, arith}
use lib.ListN.{length-take}
use Rattle.model.specs.Layout.{board_length}
use Rattle.model.specs.Calls.{Refusal, unless, ranges, laid_ranges, shape_refusal, lay}
use Rattle.model.specs.Show.{text, text_from}
use Rattle.model.specs.Forms.{Form, form_in, too_deep, or_four, Reading, reads, unread, read_line}
use Rattle.model.specs.Sheet.{Played, last_refusal, laid_text, turned_down, play_board, play_form, play_reading}
use Rattle.model.specs.Sheet.{play_line, lines_of}
use Rattle.model.specs.SheetList.{NotMet, EachPrints, NeverMet, board_of}
use Rattle.model.proofs.Basics.Tests.{true-T}
use Rattle.model.proofs.Calls.Refusals.{refusal_case, within, inside_laid, laid_not_two}
use Rattle.model.proofs.Sheet.Readers.{Always}
use Rattle.model.proofs.Sheet.WrittenBack.{LineStood, line_stood}
use Rattle.model.proofs.Sheet.Printed.{Other, refused_prints, answer_prints, unmet, other, always_unless}
use Rattle.model.proofs.Sheet.Printed.{answered}
use Rattle.model.proofs.Sheet.PlayedLines.{board_refused, board_lays, no_board, on_board_lem}
use Rattle.model.proofs.Sheet.EachForm.{OnLaid, each_form, form_leaves}
use Rattle.model.proofs.Sheet.ListOfCalls.{Stands, not_none, same_length, stands_after, fresh, laid_same_length}
use Rattle.model.proofs.Sheet.ListOfCalls.{start}

-- ---- what stands between lines

-- The memory has room for the largest board, and begins with none or with one that can be laid and that a list of calls
-- may have left.
record Fit (laid : ℕ) (m : List ℕ) : Type 0 where
  room : length m ≡ 16904
  stands : (laid ≡ 0)
      ⊎ ((n : ℕ) × (K : ℕ) × (n ≡ 2 → ⊥) × Stands n K (record { printed = []; laid = laid; memory = m }))

-- How the next line prints and where it leaves off.
Goes : Played → Type 0
Goes q = NotMet q.printed × Fit q.laid q.memory

bare : (n K : ℕ) (q : Played) → Stands n K q → Stands n K (record { printed = []; laid = q.laid; memory = q.memory })
unfolding board_of
bare n K q s = record { is_laid = s.is_laid; room = s.room; held = s.held }

module _ (laid : ℕ) (m : List ℕ) (f : Fit laid m) where
  refused_goes : (k : ℕ) → Other k → Goes (turned_down laid m k)
  unfolding Goes turned_down
  refused_goes k o = (refused_prints k o, f)

  -- a form on the board that was laid: 5 before there is one
  on_goes : (f : Form) → OnLaid f → (l : List ℕ) → LineStood l (reads f) → Goes (play_form laid m f)
  unfolding Goes board_of unmet last_refusal play_reading
  on_goes g o l stood = elim f.stands [
    | inl z ↦ subst Goes (sym (o.plays laid m ∙ no_board laid m o.say o.call z)) (refused_goes 5 (other 5 tt))
    | inr s ↦
        let at = s.3 in
        let on = not_none s.0 s.1 laid at.is_laid in
        let leaves = form_leaves laid m on g o in (
          subst NotMet (sym (ap (λ (q : Played). q.printed) (o.plays laid m ∙ on_board_lem laid m on o.say o.call)))
              (o.says (take laid m) at.held.board (rw at.held.is_n s.2)),
          record {
            room =
                omega (
                  arith,
                  same_length s.0 s.1 _ at l (reads g) leaves stood,
                  length-drop laid m,
                  f.room,
                  at.room,
                  at.is_laid,
                );
            stands =
                inr (s.0, s.1, s.2, bare s.0 s.1 _ (stands_after s.0 s.1 _ at l (reads g) leaves stood));
          },
        )
  ]

  -- a `board` line: the memory has room for every board that has a right n and K
  module _ (n K : ℕ) where
    part_long : 8 ≤ length (take (board_length n K) m)
    unfolding board_length
    part_long = omega (arith, length-take (board_length n K) m, f.room)

    part_fits : n ≤ 16 → K ≤ 64 → length (take (board_length n K) m) ≡ board_length n K
    unfolding board_length
    part_fits h k = omega (arith, length-take (board_length n K) m, f.room, mul-le-mul h k)

    eight_or_nine : Always Other (lay n K (take (board_length n K) m)).answer
    unfolding lay shape_refusal ranges laid_ranges unmet last_refusal
    eight_or_nine =
        answered _ _ _
        (always_unless _ 7 _ (λ e. absurd (omega (arith, leb-false 8 (length (take (board_length n K) m)) e, part_long)))
        (λ _. always_unless _ 8 _ (λ _. other 8 tt)
        (λ n-in. always_unless _ 9 _ (λ _. other 9 tt)
        (λ k-in. always_unless _ 10 none
        (λ e. absurd (eqb-false (length (take (board_length n K) m)) (board_length n K) e
        (part_fits (within 1 16 n (inside_laid.stations n (true-T _ n-in))).1 (within 2 64 K (true-T _ k-in)).1)))
        (λ _. unfold Always in tt)))))

    board_goes : Goes (play_board laid m n K)
    unfolding Goes
    board_goes = elim (refusal_case (lay n K (take (board_length n K) m)).answer) [
      | inl ok ↦ (
        subst NotMet (sym (ap (λ (q : Played). q.printed) (board_lays laid m n K ok)))
            (unfold laid_text text text_from in answer_prints (laid_text n K) (λ e. omega arith)),
        record {
          room = omega (
            arith,
            laid_same_length laid m n K ok,
            length-drop (board_length n K) m,
            length-take (board_length n K) m,
            f.room,
            (fresh laid m n K ok).0.len,
          );
          stands = inr (n, K, laid_not_two n K _ ok, bare n K _ (start laid m n K ok));
        },
      )
      | inr turned ↦
          subst Goes (sym (board_refused laid m n K turned.0 turned.1))
          (refused_goes turned.0 (unfold Always in subst (Always Other) turned.1 eight_or_nine))
    ]

  -- a line that is no form
  NoForm : Reading Form → Type 0
  NoForm (reads f) = Unit {0}
  NoForm (unread k) = Other k

  line_goes : (l : List ℕ) (r : Reading Form) → LineStood l r → NoForm r → Goes (play_reading laid m r)
  unfolding NoForm play_reading play_form
  line_goes l (reads g) s o =
      each_form (λ (g : Form). LineStood l (reads g) → Goes (play_form laid m g)) (λ n K h. board_goes n K)
      (λ g p. on_goes g p l) g s
  line_goes l (unread k) s o = refused_goes k o

  -- "2 .. 3 .. 4"
  no_form : (l : List ℕ) → NoForm (read_line l)
  unfolding read_line unmet last_refusal
  no_form l =
      go (unless (leb (length l) 255) 2 (unless (not (too_deep 0 0 l)) 3 none))
      (always_unless _ 2 _ (λ _. other 2 tt)
      (λ _. always_unless _ 3 none (λ _. other 3 tt) (λ _. unfold Always in tt)))
    where
      four : (o : Option Form) → NoForm (or_four o)
      four none = unfold or_four NoForm in other 4 tt
      four (some x) = unfold or_four NoForm in tt

      go : (r : Refusal) → Always Other r → NoForm (elim r [ none ↦ or_four (form_in l) | some k ↦ unread k ])
      go none o = four (form_in l)
      go (some k) o = unfold Always NoForm in o

-- ---- lines one after another

lines_go : (ls : List (List ℕ)) (p : Played) → Fit p.laid p.memory → EachPrints NotMet ls p
unfolding EachPrints play_line Goes
lines_go [] p f = tt
lines_go (l ∷ ls) p f =
    let g : Goes (play_reading p.laid p.memory (read_line l))
    = line_goes p.laid p.memory f l (read_line l) (line_stood l) (no_form p.laid p.memory f l) in
    (g.0, lines_go ls (play_line p.laid p.memory l) g.1)

-- No line of any sheet prints refusal 7, 10, 11 or 22.
pub never_met : NeverMet
unfolding NeverMet board_length
never_met s = lines_go (lines_of s) _ (record { room = length-replicate {A = ℕ} 16904 0; stands = inl refl })
