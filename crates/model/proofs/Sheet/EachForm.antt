-- Each form of the sheet once: a form is `board`, or a call on the board that was laid, with all that the sheet's laws
-- ask of it. Relies on played lines and on what they print; lists of calls, what no line prints and the C interface
-- rely on `each_form`.
use Rattle.model.proofs.Kit.{◌≡◌, refl, sym, ap, ◌∙◌, inl, inr, List, [], ◌++◌, map, none, some, ℕ, leb, length}
use Rattle.model.proofs.Kit.{take, drop, take-append-drop}
use Rattle.model.specs.Layout.{board_length}
use Rattle.model.specs.Calls.{After, lay, run}
use Rattle.model.specs.Calls as calls
use Rattle.model.specs.Show as shows
use Rattle.model.specs.Rounds as byRound
use Rattle.model.specs.Rounds.{rounds_refusal, rounds_steps}
use Rattle.model.specs.Proposals.{Proposal, AllFit, proposals_refusal, propose_all}
use Rattle.model.specs.Forms.{Form, board, propose, steps, show, rounds, proposals, expand, Reading, reads}
use Rattle.model.specs.Forms.{unread}
use Rattle.model.specs.Grammar.{InRange}
use Rattle.model.specs.Sheet.{Played, or_refused, proposed_text, ran_text, played_text, shown_text, turned_down}
use Rattle.model.specs.Sheet.{together_text, on_board, play_form, play_reading}
use Rattle.model.specs.AnyList.{Call, stepping, called, after, Allowed, AllAllowed}
use Rattle.model.specs.SheetList.{singles, form_calls, calls_of, Stays, NotMet}
use Rattle.model.proofs.Basics.Tests.{cond_case}
use Rattle.model.proofs.Calls.Refusals.{Board, refusal_case}
use Rattle.model.proofs.Sheet.Pairs.{pairs_fit}
use Rattle.model.proofs.Sheet.WrittenBack.{LineStood}
use Rattle.model.proofs.Sheet.Printed.{propose_says, ran_says, rounds_say, together_says, show_says}
use Rattle.model.proofs.Bridge.RunCalls.{steps_allowed, singles_allowed}
use Rattle.model.proofs.Sheet.PlayedLines.{run_leaves, rounds_leave, together_leaves, board_refused, on_board_lem}

-- What the sheet's laws ask of a form that is a call on the board that was laid.
pub record OnLaid (f : Form) : Type 1 where
  pub A : Type 0
  pub say : A → List ℕ
  pub call : List ℕ → After A
  pub plays : (laid : ℕ) (m : List ℕ) → play_form laid m f ≡ on_board laid m say call
  -- it leaves the board as the form's single calls leave it, which a list of calls may hold
  pub leaves : (b : List ℕ) → (call b).bytes ≡ after (form_calls b f) b
  pub allowed : (b : List ℕ) → InRange f → AllAllowed (form_calls b f) b
  -- and prints no refusal that only library callers meet, on a board that is not of two stations
  pub says : (b : List ℕ) → Board b → (calls.stations b ≡ 2 → ⊥) → NotMet (say (call b).answer)

round_calls_allowed : (b is : List ℕ) (r : calls.Refusal)
    → AllAllowed (elim r [ none ↦ map stepping is | some j ↦ [] ]) b
unfolding AllAllowed
round_calls_allowed b is none = steps_allowed is b
round_calls_allowed b is (some j) = tt

together_allowed : (ps : List Proposal) → AllFit ps → (b : List ℕ) (r : calls.Refusal)
    → AllAllowed (elim r [ none ↦ singles ps | some j ↦ [] ]) b
unfolding AllAllowed
together_allowed ps h b none = singles_allowed ps h b
together_allowed ps h b (some j) = tt

-- What holds of a `board` and of every form that is a call on the board that was laid holds of each form.
pub each_form : (P : Form → Type 0) → ((n K : ℕ) → P (board n K)) → ((f : Form) → OnLaid f → P f) → (f : Form) → P f
unfolding play_form form_calls after called AllAllowed Allowed InRange
each_form P lays on (board n K) = lays n K
each_form P lays on (propose i v) = on (propose i v) (record {
  A = calls.Refusal;
  say = λ a. or_refused a (proposed_text i v);
  call = calls.propose i v;
  plays = λ laid m. refl;
  leaves = λ b. refl;
  allowed = λ b h. (h.1, tt);
  says = λ b h not_two. propose_says b h not_two i v;
})
each_form P lays on (steps is) = on (steps is) (record {
  A = calls.RunAnswer;
  say = ran_text;
  call = run (expand is);
  plays = λ laid m. refl;
  leaves = run_leaves (expand is);
  allowed = λ b h.
      cond_case (λ (cs : List Call). AllAllowed cs b) (leb (length (expand is)) 65536) (map stepping (expand is)) []
      (λ e. steps_allowed (expand is) b) (λ e. tt);
  says = λ b h not_two. ran_says b h (expand is);
})
each_form P lays on show = on show (record {
  A = shows.Shown;
  say = shown_text;
  call = λ b. record { answer = shows.show b; bytes = b };
  plays = λ laid m. refl;
  leaves = λ b. refl;
  allowed = λ b h. tt;
  says = λ b h not_two. show_says b h;
})
each_form P lays on (rounds k rs) = on (rounds k rs) (record {
  A = byRound.RoundsAnswer;
  say = played_text;
  call = byRound.rounds k rs;
  plays = λ laid m. refl;
  leaves = rounds_leave k rs;
  allowed = λ b h. round_calls_allowed b (rounds_steps (calls.stations b) rs) (rounds_refusal k rs b);
  says = λ b h not_two. rounds_say b h k rs;
})
each_form P lays on (proposals ps) = on (proposals ps) (record {
  A = calls.Refusal;
  say = λ a. or_refused a (together_text (length ps));
  call = propose_all ps;
  plays = λ laid m. refl;
  leaves = together_leaves ps;
  allowed = λ b h. together_allowed ps (pairs_fit ps h.1) b (proposals_refusal ps b);
  says = λ b h not_two. together_says b h not_two ps;
})

-- what a line that was read asks for is allowed in a list
pub calls_allowed : (l : List ℕ) (r : Reading Form) (b : List ℕ) → LineStood l r → AllAllowed (calls_of b r) b
unfolding calls_of form_calls LineStood AllAllowed
calls_allowed l (reads f) b h =
    each_form (λ (f : Form). InRange f → AllAllowed (form_calls b f) b) (λ n K g. tt) (λ f o. o.allowed b) f h.1
calls_allowed l (unread k) b h = tt

-- The memory after a line: the laid board as the line's single calls leave it, and the rest as it was.
module _ (laid : ℕ) (m : List ℕ) where
  pub record Leaves (r : Reading Form) : Type 0 where
    pub laid_stays : (play_reading laid m r).laid ≡ laid
    pub memory_is : (play_reading laid m r).memory ≡ after (calls_of (take laid m) r) (take laid m) ++ drop laid m

  turned_leaves : (r : Reading Form) (k : ℕ) → play_reading laid m r ≡ turned_down laid m k → calls_of (take laid m) r ≡ []
      → Leaves r
  unfolding turned_down after
  turned_leaves r k e none_made = record {
    laid_stays = ap (λ (p : Played). p.laid) e;
    memory_is =
        ap (λ (p : Played). p.memory) e ∙ sym (take-append-drop laid m)
        ∙ ap (λ (cs : List Call). after cs (take laid m) ++ drop laid m) (sym none_made);
  }

  module _ (on : laid ≡ 0 → ⊥) where
    pub form_leaves : (f : Form) → OnLaid f → Leaves (reads f)
    unfolding play_reading calls_of
    form_leaves f o =
        let e = o.plays laid m ∙ on_board_lem laid m on o.say o.call in
        record {
          laid_stays = ap (λ (p : Played). p.laid) e;
          memory_is =
              ap (λ (p : Played). p.memory) e ∙ ap (λ (b : List ℕ). b ++ drop laid m) (o.leaves (take laid m));
        }

    pub line_leaves : (r : Reading Form) → Stays m r → Leaves r
    unfolding play_reading play_form calls_of form_calls Stays
    line_leaves (unread k) s = turned_leaves (unread k) k refl refl
    line_leaves (reads f) s =
        each_form (λ (f : Form). Stays m (reads f) → Leaves (reads f)) board_leaves (λ f o s. form_leaves f o) f s
      where
        board_leaves : (n K : ℕ) → Stays m (reads (board n K)) → Leaves (reads (board n K))
        board_leaves n K s = elim (refusal_case (lay n K (take (board_length n K) m)).answer) [
          | inl ok ↦ absurd (s n K refl ok)
          | inr t ↦ turned_leaves (reads (board n K)) t.0 (board_refused laid m n K t.0 t.1) refl
        ]

    -- "a show alters nothing"
    pub show_leaves : (play_form laid m show).memory ≡ m
    unfolding play_form
    show_leaves = ap (λ (p : Played). p.memory) (on_board_lem laid m on shown_text _) ∙ take-append-drop laid m
