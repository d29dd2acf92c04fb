-- A line of steps none of which is wanted: it is run, and only the lines to pass over become fewer.
-- Relies on steps that are all passed over and on a line's items; the proofs of `pass_items` and `steps_on` rely on it.
use Rattle.model.proofs.Kit.{◌≡◌, List, [], none, ℕ, ◌-◌, ◌≤◌, ◌<◌, arith}
use Rattle.model.specs.Calls.{board_refusal}
use Rattle.item_walks.specs.ItemWalks.{PartDone}
use Rattle.lexer.specs.declared.At.{At}
use Rattle.line_run.specs.LineRuns.{ItemsRunnable, RunFrom, ItemsRun, LineCounts}
use Rattle.line_run.proofs.Laws.Counting.{counted, its_items, items_there, line_reads, taken_below}
use Rattle.taping.specs.declared.Taped.{Taped}
use Rattle.taping.proofs.Laws.Passed.{all_passed}
use Rattle.taped_line.specs.TapedLines.{Passable, LineCallsTaped, LinePassed}
use Rattle.taped_line.proofs.Laws.OnBoard.{steps_done}

pub passable : (line : List ℕ) (at c : ℕ) (t : Taped) → LineCounts line at c → c ≤ 65536 → c ≤ t.left → 0 < t.room
    → Passable line at t
passable line at c t counts few below wanted =
    record { count = c; counts = counts; few = few; below = below; wanted = wanted }

pub with_buffer : (line b out : List ℕ) (t r : Taped) (d : List ℕ) → LinePassed line b t r d
    → LineCallsTaped line b out t r d out
unfolding LinePassed
with_buffer line b out t r d h = h out

module _ (line : List ℕ) (at : ℕ) (t : Taped) (h : Passable line at t) where
  pub pass_runnable : ItemsRunnable line at
  pass_runnable = line_reads line at h.count h.counts h.few

  module _ (b : List ℕ) (w : At ℕ) (d : List ℕ) (run : ItemsRun line at b w d) where
    pub taken_left : w.value ≤ t.left
    taken_left = omega (arith, h.below, taken_below line at h.count h.counts h.few b w d run)

    pub line_passed : board_refusal b none ≡ none
        → LinePassed line b t (record { left = t.left - w.value; room = t.room; len = t.len }) d
    unfolding LinePassed PartDone RunFrom
    line_passed sound out =
        let s = its_items line at h.count h.counts in
        steps_done line at h.count h.counts b out t h.few sound _ d out
        (all_passed _ b out t (λ e. omega (arith, h.wanted))
        (omega (arith, h.few, h.below, (counted line at h.count h.counts s.0 s.1).1)) w.value d
        (run _ s.0 [] (items_there line at h.count h.counts s.0 s.1)).ran)
