-- The refusals of a shown board are numbers of a byte and not 0, which stands for none.
-- Relies on the model's refusals; the laws of lent lines and the unpacking of answers rely on it.
use Rattle.model.proofs.Kit.{sym, subst, Bool, true, false, List, none, some, ℕ, ◌≤◌, leb, length, arith}
use Rattle.model.specs.Calls.{Refusal, unless, shape_refusal, board_refusal}
use Rattle.model.specs.Show.{shown_line, show}
use Rattle.model.proofs.Sheet.Printed.{refusal_of}
use Rattle.packing.specs.Packing.{pack_verdict}

unfoldable pub Listed : Refusal → Type 0
Listed none = Unit {0}
Listed (some k) = (1 ≤ k) × (k ≤ 255)

listed_unless : (t : Bool) (k : ℕ) (later : Refusal) → 1 ≤ k → k ≤ 255 → Listed later → Listed (unless t k later)
unfolding unless Listed
listed_unless true k later h l g = g
listed_unless false k later h l g = (h, l)

listed_board : (b : List ℕ) (later : Refusal) → Listed later → Listed (board_refusal b later)
unfolding board_refusal shape_refusal
listed_board b later h =
    listed_unless _ 7 _ (omega arith) (omega arith)
    (listed_unless _ 8 _ (omega arith) (omega arith)
    (listed_unless _ 9 _ (omega arith) (omega arith)
    (listed_unless _ 10 _ (omega arith) (omega arith) (listed_unless _ 11 later (omega arith) (omega arith) h))))

pub listed : (b : List ℕ) → Listed (show b).refusal
unfolding show Listed
listed b =
    let later = unless (leb (length (shown_line b)) 512) 17 none in
    subst Listed (sym (refusal_of (board_refusal b later) (shown_line b)))
    (listed_board b later (listed_unless (leb (length (shown_line b)) 512) 17 none (omega arith) (omega arith) tt))

pub listed_high : (r : Refusal) → Listed r → pack_verdict r ≤ 255
unfolding Listed pack_verdict
listed_high none h = omega arith
listed_high (some k) h = h.1
