-- A line that takes no step: the tape stays as it is, and the memory is that of the line played.
-- Relies on the reading that a form of the code came from; the proof of `tape_read` relies on it.
use Rattle.model.proofs.Kit.{◌≡◌, refl, sym, ap, ◌∙◌, List, ℕ}
use Rattle.std.specs.Prelude.{Ok, Err}
use Rattle.std.specs.declared.result.Result.{Result}
use Rattle.model.specs.declared.refusal.Refusal.{Refusal}
use Rattle.model.specs.Told.{number}
use Rattle.model.specs.Forms.{word_place, read_line}
use Rattle.model.specs.Sheet.{play_line}
use Rattle.model.specs.Tape.{Entry}
use Rattle.sheet.specs.declared.form.LineForm.{LineForm}
use Rattle.sheet.specs.declared.form.LineForm.TheVariants.{Board, Propose, Steps, Show, Rounds, Proposals}
use Rattle.sheet.specs.LineForms.{told}
use Rattle.sheet.proofs.Laws.Readings.{Tells, read_as_lem}
use Rattle.taping.specs.declared.Taped.{Taped}
use Rattle.player.proofs.Laws.Reading.{line_counts, line_has}
use Rattle.taped_line.specs.declared.TapedLine.{TapedLine}
use Rattle.taped_line.specs.TapedLines.{entries_taped, window, IsRead, LineTaped}
use Rattle.taped_line.proofs.Laws.Lines.{Untaped, untaped_board, untaped_propose, untaped_show, untaped_refused}
use Rattle.taped_line.proofs.Laws.Lines.{untaped_pairs}

-- a line that takes no step
module _ (line : List ℕ) (f : Result LineForm Refusal) (read : IsRead f line) (laid : ℕ) (m out : List ℕ) (t : Taped)
    (r : TapedLine) (d : List ℕ)
    (same : r.taped ≡ t) (laid-is : r.laid ≡ (play_line laid m line).laid) (memory-is : d ≡ (play_line laid m line).memory)
  where
    told_as : (x : Result LineForm Refusal) → f ≡ x → Tells (told x) (read_line line)
    told_as x e = read_as_lem (word_place line) (read_line line) (told x) (sym read ∙ ap told e)

    idle_line : Untaped line → LineTaped line laid m out t r d out
    unfolding Untaped entries_taped
    idle_line untaped = record {
      taped =
          ap (window out) same
          ∙ sym (ap (λ (es : List Entry). entries_taped es (window out t)) (untaped laid m));
      board = λ l. laid-is;
      memory = λ l. memory-is;
    }

    -- neither steps nor rounds
    pub as_idle : (x : LineForm) → f ≡ Ok x → ((at c : ℕ) → x ≡ Steps at c → ⊥) → ((at n s : ℕ) → x ≡ Rounds at n s → ⊥)
        → LineTaped line laid m out t r d out
    as_idle (Board n K) e no-steps no-rounds = idle_line (untaped_board line n K (told_as (Ok (Board n K)) e))
    as_idle (Propose i v) e no-steps no-rounds = idle_line (untaped_propose line i v (told_as (Ok (Propose i v)) e))
    as_idle (Steps at c) e no-steps no-rounds = absurd (no-steps at c refl)
    as_idle Show e no-steps no-rounds = idle_line (untaped_show line (told_as (Ok Show) e))
    as_idle (Rounds at n s) e no-steps no-rounds = absurd (no-rounds at n s refl)
    as_idle (Proposals at c) e no-steps no-rounds =
        let q = told_as (Ok (Proposals at c)) e in idle_line (untaped_pairs line q.0 q.1)

    pub as_refused : (k : Refusal) → f ≡ Err k → LineTaped line laid m out t r d out
    as_refused k e = idle_line (untaped_refused line (number k) (told_as (Err k) e))

-- what the code finds by itself
pub ruleset reading = (line_counts, line_has)
