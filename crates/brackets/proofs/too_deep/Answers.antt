use Rattle.model.proofs.Kit.{◌≡◌, ◌+◌, get_or}
use Rattle.model.specs.Forms.{one}
use Rattle.brackets.proofs.Laws.Depth.{one_more, no_more, exceeds, passes, all_passed}
use Rattle.brackets.proofs.too_deep.Goals as goal
use Rattle.brackets.proofs.too_deep.Goals.{Joined-byte-eq40, Joined-byte-eq41, then-byte-eq40, else-byte-eq40, then-byte-eq41, else-byte-eq41}

-- the opening brackets behind the byte, and likewise the closing ones
opens : (c : Joined-byte-eq40)
    → c.if-byte-eq40.opened ≡ c.loop-byte.opened + one 40 (get_or c.args.line.now c.loop-byte.byte-index 0)
opens c = elim c.if-byte-eq40.branch [ then-byte-eq40 w ↦ one_more _ _ _ _ w.if-byte-eq40.true w.opened-is | else-byte-eq40 w ↦ no_more _ _ _ _ w.if-byte-eq40.false w.opened-is ]

closes : (c : Joined-byte-eq41)
    → c.if-byte-eq41.closed ≡ c.loop-byte.closed + one 41 (get_or c.args.line.now c.loop-byte.byte-index 0)
closes c = elim c.if-byte-eq41.branch [ then-byte-eq41 w ↦ one_more _ _ _ _ w.if-byte-eq41.true w.closed-is | else-byte-eq41 w ↦ no_more _ _ _ _ w.if-byte-eq41.false w.closed-is ]

pub returns-then-closed-opened : goal.returns-then-closed-opened
returns-then-closed-opened c =
    let at = goal.at.returns-then-closed-opened c in
    exceeds _ _ _ _ _ _ c.loop-byte.invariant c.loop-byte-test.true (opens at.Joined-byte-eq40) (closes at.Joined-byte-eq41)
    c.if-closed-opened.true

pub loop-byte-preserved : goal.loop-byte-preserved
loop-byte-preserved c =
    let at = goal.at.loop-byte-preserved c in
    passes _ _ _ _ _ _ c.loop-byte.invariant c.loop-byte-test.true (opens at.Joined-byte-eq40) (closes at.Joined-byte-eq41)
    c.if-closed-opened.false

pub returns : goal.returns
returns c = all_passed _ _ _ _ c.loop-byte.invariant c.loop-byte-test.false
