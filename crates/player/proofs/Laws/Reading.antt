-- A line by its reading: the form that the code read is the model's, and what its player promises is what the line
-- promises. Relies on the readings of lines and on a line that is turned down; the proof of `play_line` relies on it.
use Rattle.model.proofs.Kit.{◌≡◌, sym, subst, ap, ◌∙◌, List, ℕ}
use Rattle.std.specs.Prelude.{Ok, Err}
use Rattle.std.specs.declared.result.Result.{Result}
use Rattle.model.specs.declared.refusal.Refusal.{Refusal}
use Rattle.model.specs.Figure.{Figure}
use Rattle.model.specs.Forms.{Form, word_place, Reading, reads, unread, read_line}
use Rattle.model.specs.Forms as forms
use Rattle.model.specs.Told.{number}
use Rattle.model.specs.Sheet.{play_form, play_reading, play_line}
use Rattle.sheet.specs.declared.form.LineForm.{LineForm}
use Rattle.sheet.specs.declared.form.LineForm.TheVariants as lines
use Rattle.sheet.specs.LineForms.{told, line_form}
use Rattle.sheet.proofs.Laws.Readings.{Tells, read_as_lem}
use Rattle.line_run.specs.LineRuns.{LineCounts}
use Rattle.line_rounds.specs.LineRounds.{LineHas}
use Rattle.line_proposals.specs.LinePairs as linePairs
use Rattle.player.specs.declared.line.Played.{Played}
use Rattle.player.specs.Played.{printed, Plays, PlaysForm, PlaysSteps, PlaysRounds, PlaysProposals}
use Rattle.player.proofs.Laws.Playing.{Answer, told_plays, turned_prints, same_figure_lem}

-- f is what the code answered
module _ (laid : ℕ) (m line : List ℕ) (f : Result LineForm Refusal)
    (read : told f ≡ line_form (word_place line) (read_line line)) where
  tells : (x : Result LineForm Refusal) → f ≡ x → Tells (told x) (read_line line)
  tells x e = read_as_lem (word_place line) (read_line line) (told x) (sym read ∙ ap told e)

  module _ (r : Played) (d : List ℕ) where
    as_read : (q : Reading Form) → read_line line ≡ q → Plays (play_reading laid m q) r d → Plays (play_line laid m line) r d
    unfolding play_line
    as_read q e h = subst (λ (p : Reading Form). Plays (play_reading laid m p) r d) (sym e) h

    pub line_board : (n K : ℕ) → f ≡ Ok (lines.Board n K) → Plays (play_form laid m (forms.board n K)) r d
        → Plays (play_line laid m line) r d
    unfolding play_reading
    line_board n K e h = as_read _ (tells (Ok (lines.Board n K)) e) h

    -- a line that lays no board, by what its player answers
    module _ (a : Answer) (is : r.line ≡ printed a) (stays : r.laid ≡ laid) where
      pub line_propose : (i : ℕ) (v : Figure) → f ≡ Ok (lines.Propose i v)
          → PlaysForm (forms.propose i v) laid m a d → Plays (play_line laid m line) r d
      unfolding play_reading PlaysForm
      line_propose i v e h = as_read _ (tells (Ok (lines.Propose i v)) e) (told_plays _ laid a d r is stays h)

      pub line_steps : (at c : ℕ) → f ≡ Ok (lines.Steps at c) → PlaysSteps line laid m a d → Plays (play_line laid m line) r d
      unfolding play_reading PlaysSteps
      line_steps at c e h =
          let s = tells (Ok (lines.Steps at c)) e in as_read _ s.1 (told_plays _ laid a d r is stays (h s.0 s.1))

      pub line_rounds : (at c s : ℕ) → f ≡ Ok (lines.Rounds at c s) → PlaysRounds line laid m a d
          → Plays (play_line laid m line) r d
      unfolding play_reading PlaysRounds
      line_rounds at c s e h =
          let t = tells (Ok (lines.Rounds at c s)) e in as_read _ t.2 (told_plays _ laid a d r is stays (h t.0 t.1 t.2))

      pub line_proposals : (at c : ℕ) → f ≡ Ok (lines.Proposals at c) → PlaysProposals line laid m a d
          → Plays (play_line laid m line) r d
      unfolding play_reading PlaysProposals
      line_proposals at c e h =
          let t = tells (Ok (lines.Proposals at c)) e in as_read _ t.1 (told_plays _ laid a d r is stays (h t.0 t.1))

      pub line_show : f ≡ Ok lines.Show → PlaysForm forms.show laid m a d → Plays (play_line laid m line) r d
      unfolding play_reading PlaysForm
      line_show e h = as_read _ (tells (Ok lines.Show) e) (told_plays _ laid a d r is stays h)

  -- the memory stays as it was
  pub line_turned : (r : Played) (k : Refusal) → f ≡ Err k → r.line ≡ printed (Err k) → r.laid ≡ laid
      → Plays (play_line laid m line) r m
  unfolding play_reading
  line_turned r k e is stays =
      as_read r m (unread (number k)) (tells (Err k) e) (told_plays _ laid (Err k) m r is stays (turned_prints k laid m))

module _ (line : List ℕ) (f : Result LineForm Refusal) (read : told f ≡ line_form (word_place line) (read_line line)) where
  pub line_counts : (at c : ℕ) → f ≡ Ok (lines.Steps at c) → LineCounts line at c
  unfolding LineCounts
  line_counts at c e = sym read ∙ ap told e

  pub line_has : (at c s : ℕ) → f ≡ Ok (lines.Rounds at c s) → LineHas line at c s
  unfolding LineHas
  line_has at c s e = sym read ∙ ap told e

  pub line_pairs : (at c : ℕ) → f ≡ Ok (lines.Proposals at c) → linePairs.LineCounts line at c
  unfolding linePairs.LineCounts
  line_pairs at c e = sym read ∙ ap told e

pub ruleset reading =
    (line_board, line_propose, line_steps, line_rounds, line_proposals, line_show, line_turned, line_counts, line_has, line_pairs, same_figure_lem)
