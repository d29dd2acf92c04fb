-- The memory before a line whose tape may fill the buffer: kept, and put back where it does.
-- Relies on what entries leave in the buffer; the proofs of a line that is tried rely on it.
use Rattle.model.proofs.Kit.{◌≡◌, ap, ◌∙◌, Bool, false, List, ℕ, ◌-◌, ◌≤◌, length}
use Rattle.model.proofs.Kit.{drop, length-drop, arith}
use Rattle.std.specs.declared.result.Result.{Result}
use Rattle.model.specs.declared.refusal.Refusal.{Refusal}
use Rattle.sheet.specs.declared.form.LineForm.{LineForm}
use Rattle.taping.specs.declared.Taped.{Taped}
use Rattle.taping.specs.Taping.{Taping}
use Rattle.taped_line.specs.declared.TapedLine.{TapedLine}
use Rattle.taped_line.specs.TapedLines.{IsRead, window, line_tape, LineTaped}
use Rattle.taped_sheet.specs.SheetParts.{MayFill, Kept, LineTried}
use Rattle.taped_sheet.proofs.Laws.Windows.{put}

module _ (rooms : ℕ) (f : Result LineForm Refusal) (m k : List ℕ) where
  pub kept : k ≡ m → Kept rooms f m k
  unfolding Kept
  kept e line laid read fills = e

  pub not_kept : (t : Bool) → MayFill rooms f t → t ≡ false → Kept rooms f m k
  unfolding MayFill Kept
  not_kept t h e line laid read fills = absurd (omega (arith, h e line laid m read))

module _ (line : List ℕ) (laid : ℕ) (m out : List ℕ) (t : Taped) (r : TapedLine) (d o : List ℕ)
    (taped : LineTaped line laid m out t r d o) where
  -- the buffer is full
  pub put_back : (f : Result LineForm Refusal) → IsRead f line → (k : List ℕ) → Kept t.room f m k
      → (b : List ℕ) → b ≡ k → r.taped.room ≡ 0 → LineTried line laid m out t r b o
  unfolding Kept
  put_back f read k kept b is full = record {
    taped = record { taped = taped.taped; board = taped.board; memory = λ l. absurd (omega arith) };
    back = λ _. is ∙ kept line laid read fills;
  }
    where
      room : r.taped.room ≡ t.room - length (drop t.left (line_tape laid m line))
      room = ap (λ (s : Taping). s.room) taped.taped ∙ (put (line_tape laid m line) (window out t)).room

      fills : t.room ≤ length (line_tape laid m line)
      fills = omega (arith, room, length-drop t.left (line_tape laid m line))

  -- more lines are wanted
  pub gone_on : (r.taped.room ≡ 0 → ⊥) → LineTried line laid m out t r d o
  gone_on wanted = record { taped = taped; back = λ e. absurd (wanted e) }

-- what the code finds by itself
pub ruleset keeping = (kept, not_kept)
