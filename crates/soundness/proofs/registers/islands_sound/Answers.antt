-- `islands_sound`: each island is two tests one after another, at the place that the invariant gives.
use Rattle.model.proofs.Kit.{◌≡◌, sym, ◌∙◌, List, ℕ, ◌≤◌, ◌<◌, length, arith}
use Rattle.model.proofs.Basics.Loops.{every_none, every_more, every_fails}
use Rattle.model.specs.Layout.{board_length, register_at}
use Rattle.model.specs.Listing.{in_a}
use Rattle.record_soundness.proofs.Laws.Chains.{and_then, and_else}
use Rattle.soundness.proofs.Laws.Rows.{first_row, next_rows, array_a, array_b, a_inside, b_inside, Rows}
use Rattle.soundness.proofs.registers.islands_sound.Goals as goal
use Rattle.soundness.proofs.registers.islands_sound.Goals.{then-not-row_sound-via-then-not-row_sound, then-not-row_sound-via-else-not-row_sound+then-not-row_sound-2}

rows : {n k i start : ℕ} {s : List ℕ}
    → (length s ≡ board_length n k) × (1 ≤ n) × (n ≤ 16) × (k ≤ 64) → i < k → start ≡ register_at n (in_a i) 0
    → Rows n k i start s
rows asked inside place = record { len = asked.0; some = asked.1; island = inside; place = place }

pub loop-c-init : goal.loop-c-init
loop-c-init c = (first_row _, every_none _)

pub row_sound-requires : goal.row_sound-requires
row_sound-requires c = (a_inside (rows c.requires c.loop-c-test.true c.loop-c.invariant.0), c.requires.2)

pub overflow_add-start-else-not-row_sound : goal.overflow_add-start-else-not-row_sound
overflow_add-start-else-not-row_sound c = omega (arith, a_inside (rows c.requires c.loop-c-test.true c.loop-c.invariant.0))

pub row_sound-requires-else-not-row_sound : goal.row_sound-requires-else-not-row_sound
row_sound-requires-else-not-row_sound c = (b_inside (rows c.requires c.loop-c-test.true c.loop-c.invariant.0), c.requires.2)

pub returns-then-not-row_sound : goal.returns-then-not-row_sound
returns-then-not-row_sound c =
    let r = rows c.requires c.loop-c-test.true c.loop-c.invariant.0 in
    every_fails _ _ _ c.loop-c-test.true (elim c.then-not-row_sound.branch [
      | then-not-row_sound-via-then-not-row_sound w ↦
          sym (and_else _ _ _ (c.row_sound.ensures ∙ array_a r) w.if-not-row_sound.true) ∙ w.if-not-row_sound.true
      | then-not-row_sound-via-else-not-row_sound+then-not-row_sound-2 w ↦
          sym (and_then _ _ _ (c.row_sound.ensures ∙ array_a r) w.if-not-row_sound.false _
          (w.row_sound-else-not-row_sound.ensures ∙ array_b r)) ∙ w.if-not-row_sound-2.true
    ])

pub overflow_add-start-in-loop-c-2 : goal.overflow_add-start-in-loop-c-2
overflow_add-start-in-loop-c-2 c = omega (arith, b_inside (rows c.requires c.loop-c-test.true c.loop-c.invariant.0))

pub loop-c-preserved : goal.loop-c-preserved
loop-c-preserved c =
    let r = rows c.requires c.loop-c-test.true c.loop-c.invariant.0 in (
      omega (arith, next_rows c.args.n c.loop-c._c c.loop-c.start c.loop-c.invariant.0),
      every_more _ _ c.loop-c.invariant.1
          (sym (and_then _ _ _ (c.row_sound.ensures ∙ array_a r) c.if-not-row_sound.false _
          (c.row_sound-else-not-row_sound.ensures ∙ array_b r)) ∙ c.if-not-row_sound-2.false),
    )
