-- The program's loop: each answer leads on.
-- Relies on where an answer leads; the proof of `main` relies on it.
use mathlib.Core.Path.{◌≡◌}
use mathlib.Core.List.{List}
use Prim.Native.Nat.{ℕ, ◌-◌, ◌≤◌, ◌<◌}
use native.Mathlib.Omega.{arith}
use lib.ListN.{length, take}
use lib.Seq.{length-take-le}
use Rattle.answers.specs.Answered.{answer_at}
use Rattle.answers.proofs.Sheets.{behind}

-- what is left of the sheet falls
pub falls : (sheet : List ℕ) (len at next laid : ℕ) (m : List ℕ) → len ≤ length sheet → at < len
    → next ≡ (answer_at (take len sheet) at laid m).next
    → len - next < len - at
falls sheet len at next laid m h l e =
    let w = length-take-le len sheet h in
    let n = behind (take len sheet) at laid m (omega arith) in
    omega (arith, e)
