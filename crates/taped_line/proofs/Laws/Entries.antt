-- Steps taped are the entries of their single calls taped, and leave the board of those calls while lines are wanted.
-- Relies on steps of a sound board; the laws of a taped line rely on it.
use Rattle.model.proofs.Kit.{◌≡◌, refl, sym, ap, subst, ◌∙◌, Bool, true, false, cond, List, [], ◌∷◌, ◌++◌, map, none}
use Rattle.model.proofs.Kit.{some, ℕ}
use Rattle.model.proofs.Kit.{◌≤◌, eq-eqb, eqb, eqb-true, eqb-false, arith}
use Rattle.model.specs.Figure.{Figure}
use Rattle.model.specs.Listing.{accepted, outcome}
use Rattle.model.specs.Filled.{Report, refusal}
use Rattle.model.specs.Calls.{After, Refusal, board_refusal, unless_refused, step, step_on}
use Rattle.model.specs.AnyList.{stepping, called, after}
use Rattle.model.specs.Tape.{Entry, entry_of, tape_of}
use Rattle.model.proofs.Basics.Tests.{by_test}
use Rattle.model.proofs.Calls.Refusals.{Board, step_on_lem}
use Rattle.model.proofs.Calls.Refused.{step_on_refused}
use Rattle.model.proofs.Calls.CallsKeep.{step_keeps}
use Rattle.taping.specs.Taping.{Taping, line_taken, taped_one, taped_steps}
use Rattle.taped_line.specs.TapedLines.{entry_taped, entries_taped}

-- the buffer's side alone
abbrev pub blank : Taping → Taping
blank s = record { board = []; out = s.out; left = s.left; room = s.room; len = s.len }

pub entries_append : (es fs : List Entry) (s : Taping) → entries_taped (es ++ fs) s ≡ entries_taped fs (entries_taped es s)
unfolding entries_taped
entries_append [] fs s = refl
entries_append (e ∷ es) fs s = entries_append es fs (entry_taped e s)

-- where no more lines are wanted, nothing changes
pub entries_full : (es : List Entry) (s : Taping) → s.room ≡ 0 → entries_taped es s ≡ s
unfolding entries_taped entry_taped
entries_full [] s h = refl
entries_full (e ∷ es) s h = rw (eq-eqb s.room 0 h) (entries_full es s h)

steps_full : (is : List ℕ) (s : Taping) → s.room ≡ 0 → taped_steps is s ≡ s
unfolding taped_steps taped_one
steps_full [] s h = refl
steps_full (i ∷ is) s h = rw (eq-eqb s.room 0 h) (steps_full is s h)

-- ---- one step

module _ (i : ℕ) (s : Taping) (h : Board s.board) where
  entry : Entry
  entry = record { station = i; report = (step_on i s.board).answer }

  added : (t : Bool) → accepted (step_on i s.board).answer.did ≡ t
      → entry_of (stepping i) s.board ≡ cond t (entry ∷ []) []
  unfolding entry_of entry
  added t e = rw (step_on_lem i s.board h, e)

  -- it is taped as its entry, if it has one
  one_entry : blank (taped_one i s) ≡ entries_taped (entry_of (stepping i) s.board) (blank s)
  unfolding taped_one entries_taped entry_taped entry line_taken
  one_entry = by_test (accepted (step_on i s.board).answer.did) taken refused
    where
      taken : accepted (step_on i s.board).answer.did ≡ true
          → blank (taped_one i s) ≡ entries_taped (entry_of (stepping i) s.board) (blank s)
      taken e = rw (added true e, e)
          (by_test (eqb s.room 0) (λ r. rw r) (λ r. rw r (by_test (eqb s.left 0) (λ l. rw l) (λ l. rw l))))

      refused : accepted (step_on i s.board).answer.did ≡ false
          → blank (taped_one i s) ≡ entries_taped (entry_of (stepping i) s.board) (blank s)
      refused e = rw (added false e, e) (by_test (eqb s.room 0) (λ r. rw r) (λ r. rw r))

  -- and leaves the board of the call, where a line was wanted
  one_board : (s.room ≡ 0 → ⊥) → (taped_one i s).board ≡ called (stepping i) s.board
  unfolding taped_one called line_taken
  one_board w =
      by_test (eqb s.room 0) (λ r. absurd (w (eqb-true s.room 0 r)))
      (λ r. rw r (by_test (accepted (step_on i s.board).answer.did)
      (λ e. rw e (by_test (eqb s.left 0) (λ l. rw l same) (λ l. rw l same)))
      (λ e. rw e (sym (step_on_refused i s.board e) ∙ same))))
    where
      same : (step_on i s.board).bytes ≡ (step i s.board).bytes
      same = ap (λ (a : After (Report Figure)). a.bytes) (sym (step_on_lem i s.board h))

  one_keeps : Board (taped_one i s).board
  unfolding called taped_steps
  one_keeps = by_test (eqb s.room 0)
      (λ r. subst (λ (t : Taping). Board t.board) (sym (steps_full (i ∷ []) s (eqb-true s.room 0 r))) h)
      (λ r. subst Board (sym (one_board (eqb-false s.room 0 r))) (step_keeps i s.board h))

-- ---- and steps one after another

pub steps_entries : (is : List ℕ) (s : Taping) → Board s.board
    → blank (taped_steps is s) ≡ entries_taped (tape_of (map stepping is) s.board) (blank s)
unfolding taped_steps tape_of entries_taped
steps_entries [] s h = refl
steps_entries (i ∷ is) s h =
    by_test (eqb s.room 0) (λ r. full (eqb-true s.room 0 r))
    (λ r. going (eqb-false s.room 0 r) (steps_entries is (taped_one i s) (one_keeps i s h)))
  where
    full : s.room ≡ 0
        → blank (taped_steps (i ∷ is) s) ≡ entries_taped (tape_of (map stepping (i ∷ is)) s.board) (blank s)
    full r =
        ap blank (steps_full (i ∷ is) s r)
        ∙ sym (entries_full (tape_of (map stepping (i ∷ is)) s.board) (blank s) r)

    going : (s.room ≡ 0 → ⊥)
        → blank (taped_steps is (taped_one i s))
        ≡ entries_taped (tape_of (map stepping is) (taped_one i s).board) (blank (taped_one i s))
        → blank (taped_steps (i ∷ is) s) ≡ entries_taped (tape_of (map stepping (i ∷ is)) s.board) (blank s)
    going w rest =
        rest
        ∙ (λ j. entries_taped (tape_of (map stepping is) (one_board i s h w j)) (one_entry i s h j))
        ∙ sym (entries_append (entry_of (stepping i) s.board)
        (tape_of (map stepping is) (called (stepping i) s.board)) (blank s))

pub steps_board : (is : List ℕ) (s : Taping) → Board s.board → 1 ≤ (taped_steps is s).room
    → (taped_steps is s).board ≡ after (map stepping is) s.board
unfolding taped_steps after
steps_board [] s h l = refl
steps_board (i ∷ is) s h l =
    by_test (eqb s.room 0)
    (λ r. absurd (omega (
      arith,
      eqb-true s.room 0 r,
      ap (λ (t : Taping). t.room)
          (steps_full (i ∷ is) s (eqb-true s.room 0 r)),
    )))
    (λ r. steps_board is (taped_one i s) (one_keeps i s h) l
    ∙ ap (after (map stepping is)) (one_board i s h (eqb-false s.room 0 r)))

-- on a board that is turned down, no step is taken
pub steps_untaped : (is b : List ℕ) (k : ℕ) → board_refusal b none ≡ some k → tape_of (map stepping is) b ≡ []
unfolding tape_of entry_of called accepted outcome
steps_untaped [] b k e = refl
steps_untaped (i ∷ is) b k e =
    (λ j. cond (accepted (turned j).answer.did) (record { station = i; report = (turned j).answer } ∷ []) []
    ++ tape_of (map stepping is) (turned j).bytes)
    ∙ steps_untaped is b k e
  where
    turned : step i b ≡ (record { answer = refusal k; bytes = b })
    turned = unfold step unless_refused in ap (λ (r : Refusal). unless_refused r refusal b (step_on i b)) e
