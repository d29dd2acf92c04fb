-- One line of a run sheet: what is printed, and what is left of the memory, at each return of its player.
-- Relies on the model's laws of a played line and on how long a printed line can be; the proofs of `line` rely on it.
use Rattle.model.proofs.Kit.{◌≡◌, refl, sym, ap, subst, ◌∙◌, List, ◌++◌, none, ℕ, ◌<◌, leb, length, take, drop}
use Rattle.model.proofs.Kit.{take-append-drop, arith}
use Prim.Native.Nat.{min}
use Rattle.std.specs.Prelude.{Ok, Err}
use Rattle.std.specs.declared.result.Result.{Result}
use Rattle.model.specs.declared.refusal.Refusal as refusals
use Rattle.model.specs.declared.refusal.Refusal.TheVariants.{NoBoardLaid}
use Rattle.model.specs.declared.Ran.{Ran}
use Rattle.model.specs.Figure.{Figure}
use Rattle.model.specs.Layout.{board_length}
use Rattle.model.specs.Calls as calls
use Rattle.model.specs.Calls.{After, ran, unless, board_refusal}
use Rattle.model.specs.Show.{Shown, shown_line, shown_as}
use Rattle.model.specs.Show as shows
use Rattle.model.specs.Told.{number, verdict, run_told, shown_told}
use Rattle.model.specs.Forms.{expand}
use Rattle.model.specs.Forms as forms
use Rattle.model.specs.Sheet as model
use Rattle.model.specs.Sheet.{refused_text, or_refused, laid_text, proposed_text, ran_text, shown_text, turned_down, on_board}
use Rattle.model.specs.Sheet.{play_form}
use Rattle.model.proofs.Calls.Refusals.{board_of_lem, board_passes}
use Rattle.model.proofs.Calls.Refused.{lay_refused}
use Rattle.model.proofs.Sheet.Printed.{shown_text_lem, refusal_of}
use Rattle.model.proofs.Sheet.PlayedLines.{board_refused, board_lays, no_board, on_board_lem}
use Rattle.answer_writer.proofs.Bounds.{refused_short, laid_short, proposed_short, ran_short}
use Rattle.calls.proofs.Laws.Showing as showing
use Rattle.line_run.specs.LineRuns.{RunsLine}
use Rattle.player.specs.declared.line.Played.{Played}
use Rattle.player.specs.Played.{printed, Plays, Prints, PlaysForm, PlaysSteps}
use Rattle.player.proofs.Laws.Parts.{part_inside, part_taken, part_left}

abbrev pub Answer : Type 0
Answer = Result (List ℕ) refusals.Refusal

-- what is told of a line is what it plays
pub told_plays : (p : model.Played) (laid : ℕ) (r : Answer) (d : List ℕ) (q : Played) → q.line ≡ printed r → q.laid ≡ laid
    → Prints p laid r d → Plays p q d
told_plays p laid r d q line same h =
    record { line = line ∙ h.line; laid = same ∙ h.stays; memory = h.memory; short = h.short }

-- a line that is turned down, whatever the memory holds
pub turned_prints : (k : refusals.Refusal) (laid : ℕ) (m : List ℕ) → Prints (turned_down laid m (number k)) laid (Err k) m
unfolding turned_down
turned_prints k laid m = record { line = refl; stays = refl; memory = refl; short = refused_short (number k) }

-- ---- laying

module _ (laid : ℕ) (m : List ℕ) (n K need part : ℕ) (d : List ℕ) (whole : need ≡ board_length n K)
    (lent : part ≡ min need (length m)) where
  taken : take part m ≡ take (board_length n K) m
  taken = part_taken need part m lent ∙ ap (λ (k : ℕ). take k m) whole

  left : drop part m ≡ drop (board_length n K) m
  left = part_left need part m lent ∙ ap (λ (k : ℕ). drop k m) whole

  abbrev Answered : Result (Unit {0}) refusals.Refusal → Type 0
  Answered v = (verdict v ≡ (calls.lay n K (take part m)).answer) × (d ≡ (calls.lay n K (take part m)).bytes)

  answer_is : (v : Result (Unit {0}) refusals.Refusal) → Answered v
      → verdict v ≡ (calls.lay n K (take (board_length n K) m)).answer
  answer_is v answered = answered.0 ∙ ap (λ (b : List ℕ). (calls.lay n K b).answer) taken

  turned : (k : refusals.Refusal) → Answered (Err k) → (r : Played) → r.line ≡ printed (Err k) → r.laid ≡ laid
      → Plays (play_form laid m (forms.board n K)) r (d ++ drop part m)
  unfolding verdict play_form
  turned k answered r line same =
      subst (λ (p : model.Played). Plays p r (d ++ drop part m))
      (sym (board_refused laid m n K (number k) (sym (answer_is (Err k) answered))))
      (subst (Plays (turned_down laid m (number k)) r) (sym unchanged)
      (told_plays _ laid (Err k) m r line same (turned_prints k laid m)))
    where
      unchanged : d ++ drop part m ≡ m
      unchanged =
          ap (λ (b : List ℕ). b ++ drop part m)
          (answered.1 ∙ lay_refused n K (take part m) (number k) (sym answered.0))
          ∙ take-append-drop part m

  -- by what the call answered
  pub board_turned : (v : Result (Unit {0}) refusals.Refusal) → Answered v → (k : refusals.Refusal) → v ≡ Err k
      → (r : Played) → r.line ≡ printed (Err k) → r.laid ≡ laid
      → Plays (play_form laid m (forms.board n K)) r (d ++ drop part m)
  board_turned v answered k e = turned k (subst Answered e answered)

  plays : (x : Unit {0}) → Answered (Ok x) → (line : List ℕ) → line ≡ laid_text n K
      → Plays (play_form laid m (forms.board n K)) (record { line = line; laid = need }) (d ++ drop part m)
  unfolding verdict play_form
  plays x answered line h =
      subst (λ (p : model.Played). Plays p (record { line = line; laid = need }) (d ++ drop part m))
      (sym (board_lays laid m n K (sym (answer_is (Ok x) answered))))
      (record {
        line = h;
        laid = whole;
        memory = (λ i. (answered.1 ∙ ap (λ (b : List ℕ). (calls.lay n K b).bytes) taken) i ++ left i);
        short = laid_short n K;
      })

  pub board_plays : (v : Result (Unit {0}) refusals.Refusal) → Answered v → (x : Unit {0}) → v ≡ Ok x
      → (line : List ℕ) → line ≡ laid_text n K
      → Plays (play_form laid m (forms.board n K)) (record { line = line; laid = need }) (d ++ drop part m)
  board_plays v answered x e = plays x (subst Answered e answered)

pub ruleset board = (part_inside, board_turned, board_plays)

-- ---- a call on the board that was laid

module _ {A : Type 0} (laid : ℕ) (m : List ℕ) (say : A → List ℕ) (call : List ℕ → After A) where
  -- "5. A form other than `board` comes before any accepted `board`."
  pub five : (k : refusals.Refusal) → (laid ≡ 0) × (k ≡ NoBoardLaid) → Prints (on_board laid m say call) laid (Err k) m
  five k e =
      subst (λ (p : model.Played). Prints p laid (Err k) m) (sym (no_board laid m say call e.0))
      (subst (λ (x : refusals.Refusal). Prints (turned_down laid m 5) laid (Err x) m) (sym e.1)
      (turned_prints NoBoardLaid laid m))

  -- what the call answered on the lent part is printed
  pub on_part : (part : ℕ) (a : A) (d : List ℕ) → (laid ≡ 0 → ⊥) × (part ≡ min laid (length m))
      → a ≡ (call (take part m)).answer → d ≡ (call (take part m)).bytes → (r : Answer) → say a ≡ printed r
      → length (printed r) < 512 → Prints (on_board laid m say call) laid r (d ++ drop part m)
  on_part part a d lent answer_is bytes_are r et short =
      subst (λ (p : model.Played). Prints p laid r (d ++ drop part m)) (sym (on_board_lem laid m lent.0 say call))
      (record {
        line = sym says;
        stays = refl;
        memory = (λ i. (bytes_are ∙ ap (λ (b : List ℕ). (call b).bytes) same) i ++ part_left laid part m lent.1 i);
        short = subst (λ (q : List ℕ). length q < 512) (sym says) short;
      })
    where
      same : take part m ≡ take laid m
      same = part_taken laid part m lent.1

      says : say (call (take laid m)).answer ≡ printed r
      says = ap say (sym (answer_is ∙ ap (λ (b : List ℕ). (call b).answer) same)) ∙ et

-- a refusal's line is short
turned_short : (k : refusals.Refusal) → length (printed (Err k)) < 512
turned_short k = refused_short (number k)

-- ---- proposing

module _ (laid : ℕ) (m : List ℕ) (i : ℕ) (v : Figure) where
  pub propose_five : (k : refusals.Refusal) → (laid ≡ 0) × (k ≡ NoBoardLaid)
      → PlaysForm (forms.propose i v) laid m (Err k) m
  unfolding PlaysForm play_form
  propose_five k e = five laid m _ _ k e

  module _ (part : ℕ) (d : List ℕ) (lent : (laid ≡ 0 → ⊥) × (part ≡ min laid (length m))) where
    abbrev Proposed : Result (Unit {0}) refusals.Refusal → Type 0
    Proposed w = (verdict w ≡ (calls.propose i v (take part m)).answer) × (d ≡ (calls.propose i v (take part m)).bytes)

    pub propose_turned : (k : refusals.Refusal) → Proposed (Err k)
        → PlaysForm (forms.propose i v) laid m (Err k) (d ++ drop part m)
    unfolding PlaysForm play_form or_refused verdict
    propose_turned k answered =
        on_part laid m _ _ part (verdict (Err k)) d lent answered.0 answered.1 (Err k) refl (turned_short k)

    pub propose_plays : (x : Unit {0}) → Proposed (Ok x) → (line : List ℕ) → line ≡ proposed_text i v
        → PlaysForm (forms.propose i v) laid m (Ok line) (d ++ drop part m)
    unfolding PlaysForm play_form or_refused verdict
    propose_plays x answered line h =
        on_part laid m _ _ part (verdict (Ok x)) d lent answered.0 answered.1 (Ok line) (sym h)
        (subst (λ (l : List ℕ). length l < 512) (sym h) (proposed_short i v))

-- a figure that is passed is the figure
pub same_figure_lem : (laid : ℕ) (m : List ℕ) (i : ℕ) (z v : Figure) (r : Answer) (d : List ℕ) → z ≡ v
    → PlaysForm (forms.propose i z) laid m r d → PlaysForm (forms.propose i v) laid m r d
same_figure_lem laid m i z v r d e h = subst (λ (x : Figure). PlaysForm (forms.propose i x) laid m r d) e h

-- ---- stepping

module _ (line : List ℕ) (laid : ℕ) (m : List ℕ) where
  pub steps_five : (k : refusals.Refusal) → (laid ≡ 0) × (k ≡ NoBoardLaid) → PlaysSteps line laid m (Err k) m
  unfolding PlaysSteps play_form
  steps_five k e = λ is q. five laid m _ _ k e

  module _ (part : ℕ) (d : List ℕ) (lent : (laid ≡ 0 → ⊥) × (part ≡ min laid (length m))) where
    pub steps_turned : (k : refusals.Refusal) → RunsLine line (take part m) (Err k) d
        → PlaysSteps line laid m (Err k) (d ++ drop part m)
    unfolding PlaysSteps RunsLine play_form ran_text run_told
    steps_turned k runs is q =
        on_part laid m ran_text (calls.run (expand is)) part (run_told (Err k)) d lent (runs is q).0 (runs is q).1 (Err k) refl
        (turned_short k)

    pub steps_play : (t : Ran) → RunsLine line (take part m) (Ok t) d → (l : List ℕ) → l ≡ ran_text (ran t.taken t.passed)
        → PlaysSteps line laid m (Ok l) (d ++ drop part m)
    unfolding PlaysSteps RunsLine play_form run_told
    steps_play t runs l h is q =
        on_part laid m ran_text (calls.run (expand is)) part (run_told (Ok t)) d lent (runs is q).0 (runs is q).1 (Ok l) (sym h)
        (subst (λ (x : List ℕ). length x < 512) (sym h) (ran_short t.taken t.passed))

pub ruleset proposal = (part_inside, propose_five, propose_turned, propose_plays)

pub ruleset steps = (part_inside, steps_five, steps_turned, steps_play)

-- ---- showing

-- what is handed back of a board that is shown is short
module _ (b l : List ℕ) (told : shown_told (Ok l) ≡ shows.show b) where
  shown_is : shown_as none l ≡ shows.show b
  unfolding shown_told
  shown_is = told

  sound : board_refusal b none ≡ none
  unfolding shows.show shown_as
  sound =
      board_passes b (board_of_lem b (unless (leb (length (shown_line b)) 512) 17 none) passes).0 none
    where
      passes : board_refusal b (unless (leb (length (shown_line b)) 512) 17 none) ≡ none
      passes = sym (refusal_of _ (shown_line b)) ∙ sym (ap (λ (q : Shown). q.refusal) shown_is)

  same_length : length l ≡ length (shown_line b)
  unfolding shown_as shown_told
  same_length = ap (λ (q : Shown). q.len) (shown_is ∙ sound_line)
    where
      sound_line : shows.show b ≡ shown_as none (shown_line b)
      sound_line = sym (showing.shows b sound)

  shown_short : length l < 512
  shown_short = omega (arith, same_length, showing.line_short b sound)

module _ (laid : ℕ) (m : List ℕ) where
  pub show_five : (k : refusals.Refusal) → (laid ≡ 0) × (k ≡ NoBoardLaid) → PlaysForm forms.show laid m (Err k) m
  unfolding PlaysForm play_form
  show_five k e = five laid m _ _ k e

  -- what is handed back is printed: the memory as it was is the part and the rest
  pub show_plays : (part : ℕ) (r : Answer) → (laid ≡ 0 → ⊥) × (part ≡ min laid (length m))
      → shown_told r ≡ shows.show (take part m) → PlaysForm forms.show laid m r m
  unfolding PlaysForm play_form shown_text shown_told shown_as or_refused
  show_plays part r lent told =
      subst (Prints (play_form laid m forms.show) laid r) (take-append-drop part m)
      (on_part laid m shown_text (λ b. record { answer = shows.show b; bytes = b }) part (shown_told r) (take part m) lent
      told refl r (says r) (short r told))
    where
      says : (q : Answer) → shown_text (shown_told q) ≡ printed q
      says (Ok l) = shown_text_lem l
      says (Err k) = refl

      short : (q : Answer) → shown_told q ≡ shows.show (take part m) → length (printed q) < 512
      short (Ok l) e = shown_short (take part m) l e
      short (Err k) e = turned_short k

pub ruleset shown = (part_inside, show_five, show_plays)
