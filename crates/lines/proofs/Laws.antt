-- The end of a line is where the first LF is found.
-- Relies on the model's parts that a mark ends; the proof of `line_end` relies on it.
use Rattle.model.proofs.Kit.{◌≡◌, refl, List, ℕ, ◌+◌, ◌≤◌, length, drop, arith}
use Rattle.scan.specs.Scan.{index_of}
use Rattle.model.proofs.Basics.Ended.{parts_found}
use Rattle.lines.specs.Ends.{LineEnd}

pub found_end : (s : List ℕ) (at end : ℕ) → end ≤ length s
    → end ≡ at + index_of 10 (drop at s) → LineEnd s at end
unfolding index_of
found_end s at end l e = record {
  behind = omega arith;
  inside = l;
  lines = parts_found 10 (index_of 10) refl (λ b t q. rw q) (λ b t q. rw q) s at end e;
}
