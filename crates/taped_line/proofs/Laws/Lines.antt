-- What a line adds to the tape by its form, and the memory that it leaves.
-- Relies on steps and their entries and on the model's played lines; the proofs of a taped line rely on it.
use Rattle.model.proofs.Kit.{◌≡◌, refl, sym, ap, subst, ◌∙◌, List, [], ◌∷◌, ◌++◌, none}
use Rattle.model.proofs.Kit.{some, ℕ, leb, eqb, eqb-true, eqb-false, length, take}
use Rattle.model.proofs.Kit.{drop, Option}
use Prim.Native.Nat.{min}
use Rattle.model.specs.Figure.{Figure}
use Rattle.model.specs.Calls.{After, unless, unless_refused, shape_refusal, board_refusal, run}
use Rattle.model.specs.Rounds as byRound
use Rattle.model.specs.Rounds.{rounds_refusal}
use Rattle.model.specs.Proposals.{Proposal, proposals_refusal}
use Rattle.model.specs.Forms.{Form, Items, expand, Reading, reads, unread, read_line}
use Rattle.model.specs.Forms as forms
use Rattle.model.specs.Sheet.{Played, turned_down, on_board, play_form, play_reading, play_line}
use Rattle.model.specs.AnyList.{after}
use Rattle.model.specs.SheetList.{singles, form_calls, calls_of}
use Rattle.model.specs.Tape.{entry_of, tape_of}
use Rattle.model.proofs.Basics.Tests.{by_test}
use Rattle.model.proofs.Sheet.PlayedLines.{no_board, on_board_lem, run_leaves, rounds_leave}
use Rattle.player.proofs.Laws.Parts.{part_taken, part_left}
use Rattle.taping.specs.declared.Taped.{Taped}
use Rattle.taped_line.specs.TapedLines.{CallsTaped, LineCallsTaped, line_tape, LineTaped}

-- ---- a line on the board that was laid

module _ {A : Type 0} (laid : ℕ) (m : List ℕ) (say : A → List ℕ) (call : List ℕ → After A) where
  same_laid : (on_board laid m say call).laid ≡ laid
  unfolding turned_down
  same_laid =
      by_test (eqb laid 0) (λ e. ap (λ (p : Played). p.laid) (no_board laid m say call (eqb-true laid 0 e)))
      (λ e. ap (λ (p : Played). p.laid) (on_board_lem laid m (eqb-false laid 0 e) say call))

  -- also where no board was laid, if the call leaves no byte where it is lent none
  leaves : (call []).bytes ≡ [] → (on_board laid m say call).memory ≡ (call (take laid m)).bytes ++ drop laid m
  unfolding turned_down
  leaves h =
      by_test (eqb laid 0)
      (λ e. ap (λ (p : Played). p.memory) (no_board laid m say call (eqb-true laid 0 e))
      ∙ ap (λ (b : List ℕ). b ++ m) (sym h)
      ∙ ap (λ (k : ℕ). (call (take k m)).bytes ++ drop k m) (sym (eqb-true laid 0 e)))
      (λ e. ap (λ (p : Played). p.memory) (on_board_lem laid m (eqb-false laid 0 e) say call))

-- What a line leaves on any memory is what its single calls leave: so it is with lines of steps and of rounds.
pub record StepsOnly (line : List ℕ) : Type 0 where
  pub board : (laid : ℕ) (m : List ℕ) → (play_line laid m line).laid ≡ laid
  pub memory : (laid : ℕ) (m : List ℕ)
      → (play_line laid m line).memory ≡ after (calls_of (take laid m) (read_line line)) (take laid m) ++ drop laid m

module _ (line : List ℕ) where
  pub only_steps : (is : Items) → read_line line ≡ reads (forms.steps is) → StepsOnly line
  unfolding play_line play_reading play_form calls_of form_calls
  only_steps is e = record {
    board = λ laid m. ap (λ (r : Reading Form). (play_reading laid m r).laid) e ∙ same_laid laid m _ _;
    memory = λ laid m.
        ap (λ (r : Reading Form). (play_reading laid m r).memory) e ∙ leaves laid m _ (run (expand is)) empty
        ∙ ap (λ (b : List ℕ). b ++ drop laid m) (run_leaves (expand is) (take laid m))
        ∙ ap (λ (r : Reading Form). after (calls_of (take laid m) r) (take laid m) ++ drop laid m) (sym e);
  }
    where
      empty : (run (expand is) []).bytes ≡ []
      empty = unfold run unless_refused unless board_refusal shape_refusal in
          by_test (leb (length (expand is)) 65536) (λ t. rw t) (λ t. rw t)

  pub only_rounds : (k : ℕ) (rs : List (List ℕ)) → read_line line ≡ reads (forms.rounds k rs) → StepsOnly line
  unfolding play_line play_reading play_form calls_of form_calls
  only_rounds k rs e = record {
    board = λ laid m. ap (λ (r : Reading Form). (play_reading laid m r).laid) e ∙ same_laid laid m _ _;
    memory = λ laid m.
        ap (λ (r : Reading Form). (play_reading laid m r).memory) e ∙ leaves laid m _ (byRound.rounds k rs) empty
        ∙ ap (λ (b : List ℕ). b ++ drop laid m) (rounds_leave k rs (take laid m))
        ∙ ap (λ (r : Reading Form). after (calls_of (take laid m) r) (take laid m) ++ drop laid m) (sym e);
  }
    where
      empty : (byRound.rounds k rs []).bytes ≡ []
      empty = unfold byRound.rounds rounds_refusal unless_refused unless board_refusal shape_refusal in refl

  -- on the part of the memory that the board is
  module _ (laid : ℕ) (m out : List ℕ) (t r : Taped) (d o : List ℕ) (part : ℕ) (lent : part ≡ min laid (length m))
      (only : StepsOnly line) (calls : LineCallsTaped line (take part m) out t r d o) where
    pub on_part : LineTaped line laid m out t (record { laid = laid; taped = r }) (d ++ drop part m) o
    unfolding LineCallsTaped line_tape
    on_part =
        let there : CallsTaped (calls_of (take laid m) (read_line line)) (take laid m) out t r d o =
        subst (λ (b : List ℕ). CallsTaped (calls_of b (read_line line)) b out t r d o) (part_taken laid part m lent)
        calls in
        record {
          taped = there.taped;
          board = λ l. sym (only.board laid m);
          memory = λ l.
              (λ j. there.board l j ++ part_left laid part m lent j) ∙ sym (only.memory laid m);
        }

-- ---- calls that take no step

-- proposals one after another
untaped_proposals : (ps : List Proposal) (b : List ℕ) → tape_of (singles ps) b ≡ []
unfolding tape_of entry_of singles
untaped_proposals [] b = refl
untaped_proposals (p ∷ ps) b = untaped_proposals ps _

-- such a line adds nothing to the tape
unfoldable pub Untaped : (line : List ℕ) → Type 0
Untaped line = (laid : ℕ) (m : List ℕ) → line_tape laid m line ≡ []

module _ (line : List ℕ) where
  by_reading : (r : Reading Form) → read_line line ≡ r → ((b : List ℕ) → tape_of (calls_of b r) b ≡ []) → Untaped line
  unfolding Untaped line_tape
  by_reading r e h laid m =
      ap (λ (q : Reading Form). tape_of (calls_of (take laid m) q) (take laid m)) e ∙ h (take laid m)

  pub untaped_board : (n K : ℕ) → read_line line ≡ reads (forms.board n K) → Untaped line
  untaped_board n K e = by_reading _ e (λ b. unfold calls_of form_calls tape_of in refl)

  pub untaped_propose : (i : ℕ) (v : Figure) → read_line line ≡ reads (forms.propose i v) → Untaped line
  untaped_propose i v e = by_reading _ e (λ b. unfold calls_of form_calls tape_of entry_of in refl)

  pub untaped_show : read_line line ≡ reads forms.show → Untaped line
  untaped_show e = by_reading _ e (λ b. unfold calls_of form_calls tape_of in refl)

  pub untaped_refused : (k : ℕ) → read_line line ≡ unread k → Untaped line
  untaped_refused k e = by_reading _ e (λ b. unfold calls_of tape_of in refl)

  pub untaped_pairs : (ps : List Proposal) → read_line line ≡ reads (forms.proposals ps) → Untaped line
  untaped_pairs ps e = by_reading _ e pairs
    where
      pairs : (b : List ℕ) → tape_of (calls_of b (reads (forms.proposals ps))) b ≡ []
      pairs b = unfold calls_of form_calls in by (proposals_refusal ps b)
        where
          by : (q : Option ℕ) → tape_of (elim q [ none ↦ singles ps | some number ↦ [] ]) b ≡ []
          by none = untaped_proposals ps b
          by (some k) = unfold tape_of in refl
