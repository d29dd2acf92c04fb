-- Numbers of two bytes, read where they stand.
-- Relies on the form of two bytes at a place; the functions' proofs rely on it.
use Rattle.model.proofs.Kit.{◌≡◌, sym, ap, ◌∙◌, List, ℕ, ◌+◌, ◌≤◌, ◌*◌, length, arith}
use Rattle.model.specs.Bytes.{byte, number, part}
use Rattle.figures.proofs.Laws.Zeros.{pair_form}

pub pair_read : (b : List ℕ) (at x y : ℕ) → at + 2 ≤ length b → x ≡ byte b at → y ≡ byte b (at + 1)
    → x + 256 * y ≡ number (part at 2 b)
unfolding number
pair_read b at x y h ex ey = omega arith ∙ sym (ap number (pair_form b at h))
