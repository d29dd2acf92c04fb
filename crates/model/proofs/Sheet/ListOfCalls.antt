-- The lines of a sheet from one accepted `board` to the next are a list of calls as demand 3 means it, and so demand 3
-- holds of them, and what is claimed of termination. Relies on EachForm, on what a read line holds, and on both theorems.
use Rattle.model.proofs.Kit.{◌≡◌, refl, sym, ap, subst, ◌∙◌, List, [], ◌∷◌, ◌++◌, none, ℕ, ◌+◌, ◌≤◌, length}
use Rattle.model.proofs.Kit.{take, drop, length-append, arith}
use lib.Seq.{take_at}
use Rattle.model.specs.Layout.{board_length, fresh_board}
use Rattle.model.specs.Calls.{lay}
use Rattle.model.specs.Forms.{Form, Reading, read_line}
use Rattle.model.specs.Sheet.{Played, play_board, play_reading, play_line}
use Rattle.model.specs.AnyList.{Call, called, after, AllAllowed, Demand3, AnyList}
use Rattle.model.specs.SheetList.{calls_of, play_lines, lines_calls, AllStay, board_of, SheetDemand3}
use Rattle.model.proofs.Board.Fresh.{length_fresh}
use Rattle.model.proofs.Calls.Refusals.{Shape, laid_fresh}
use Rattle.model.proofs.Bridge.Lists.{Held, held_after}
use Rattle.model.specs.LeftRunning.{Terminates, LeftRunning, SheetLeftRunning}
use Rattle.model.proofs.LeftRunning.{left_running}
use Rattle.model.proofs.Demand3.{fresh_held, demand3}
use Rattle.model.proofs.Sheet.WrittenBack.{LineStood, line_stood}
use Rattle.model.proofs.Sheet.PlayedLines.{board_lays}
use Rattle.model.proofs.Sheet.EachForm.{calls_allowed, Leaves, line_leaves}

-- ---- lists of calls put together

pub after_append : (cs ds : List Call) (b : List ℕ) → after (cs ++ ds) b ≡ after ds (after cs b)
unfolding after
after_append [] ds b = refl
after_append (c ∷ cs) ds b = after_append cs ds (called c b)

pub allowed_append : (cs ds : List Call) (b : List ℕ) → AllAllowed cs b → AllAllowed ds (after cs b)
    → AllAllowed (cs ++ ds) b
unfolding AllAllowed after
allowed_append [] ds b h g = g
allowed_append (c ∷ cs) ds b h g = (h.0, allowed_append cs ds (called c b) h.1 g)

-- ---- lines one after another

-- what holds between the lines: the memory begins with a board of n and K that a list of calls may have left
pub record Stands (n K : ℕ) (p : Played) : Type 0 where
  pub is_laid : p.laid ≡ board_length n K
  pub room : board_length n K ≤ length p.memory
  pub held : Held n K (board_of p)

module _ (n K : ℕ) where
  pub not_none : (laid : ℕ) → laid ≡ board_length n K → laid ≡ 0 → ⊥
  unfolding board_length
  not_none laid e f = omega arith

  held_length : (b : List ℕ) → Held n K b → length b ≡ board_length n K
  held_length b h = h.board.shape.len ∙ (λ j. board_length (h.is_n j) (h.is_k j))

  -- one line: the laid board is as its calls leave it
  module _ (p : Played) (s : Stands n K p) (l : List ℕ) (r : Reading Form) (leaves : Leaves p.laid p.memory r)
      (stood : LineStood l r) where
    cs : List Call
    cs = calls_of (board_of p) r

    memory_after : (play_reading p.laid p.memory r).memory ≡ after cs (board_of p) ++ drop p.laid p.memory
    unfolding board_of cs
    memory_after = leaves.memory_is

    after_held : Held n K (after cs (board_of p))
    unfolding cs
    after_held = held_after n K cs (board_of p) s.held (calls_allowed l r (board_of p) stood)

    after_length : length (after cs (board_of p)) ≡ p.laid
    after_length = held_length _ after_held ∙ sym s.is_laid

    -- the memory is no shorter
    pub same_length : length (play_reading p.laid p.memory r).memory ≡ p.laid + length
        (drop p.laid p.memory)
    same_length =
        ap length memory_after ∙ length-append (after cs (board_of p)) (drop p.laid p.memory)
        ∙ ap (λ (k : ℕ). k + length (drop p.laid p.memory)) after_length

    pub board_after_lem : board_of (play_reading p.laid p.memory r) ≡ after (calls_of (board_of p) r) (board_of p)
    unfolding board_of cs
    board_after_lem = (λ j. take (leaves.laid_stays j) (memory_after j)) ∙ take_at _ _ p.laid after_length

    pub stands_after : Stands n K (play_reading p.laid p.memory r)
    unfolding cs
    stands_after = record {
      is_laid = leaves.laid_stays ∙ s.is_laid;
      room = omega (arith, same_length, s.is_laid);
      held = subst (Held n K) (sym board_after_lem) after_held;
    }

  -- and lines
  module _ (l : List ℕ) (ls : List (List ℕ)) (p : Played) (s : Stands n K p) (h : AllStay (l ∷ ls) p) where
    here : Leaves p.laid p.memory (read_line l)
    unfolding AllStay
    here = line_leaves p.laid p.memory (not_none p.laid s.is_laid) (read_line l) h.0

    on : Stands n K (play_line p.laid p.memory l)
    unfolding play_line
    on = stands_after p s l (read_line l) here (line_stood l)

    is_after : board_of (play_line p.laid p.memory l) ≡ after (calls_of (board_of p) (read_line l)) (board_of p)
    unfolding play_line
    is_after = board_after_lem p s l (read_line l) here (line_stood l)

  pub lines_allowed : (ls : List (List ℕ)) (p : Played) → Stands n K p → AllStay ls p
      → AllAllowed (lines_calls ls p) (board_of p)
  unfolding lines_calls AllStay AllAllowed
  lines_allowed [] p s h = tt
  lines_allowed (l ∷ ls) p s h =
      allowed_append (calls_of (board_of p) (read_line l)) (lines_calls ls (play_line p.laid p.memory l)) (board_of p)
      (calls_allowed l (read_line l) (board_of p) (line_stood l))
      (subst (AllAllowed (lines_calls ls (play_line p.laid p.memory l))) (is_after l ls p s h)
      (lines_allowed ls (play_line p.laid p.memory l) (on l ls p s h) h.1))

  pub lines_leave : (ls : List (List ℕ)) (p : Played) → Stands n K p → AllStay ls p
      → board_of (play_lines ls p) ≡ after (lines_calls ls p) (board_of p)
  unfolding lines_calls AllStay play_lines after
  lines_leave [] p s h = refl
  lines_leave (l ∷ ls) p s h =
      lines_leave ls (play_line p.laid p.memory l) (on l ls p s h) h.1
      ∙ ap (after (lines_calls ls (play_line p.laid p.memory l))) (is_after l ls p s h)
      ∙ sym (after_append (calls_of (board_of p) (read_line l)) _ (board_of p))

-- ---- from an accepted `board n K` on, whatever the sheet did before

module _ (laid : ℕ) (m : List ℕ) (n K : ℕ) (ok : (lay n K (take (board_length n K) m)).answer ≡ none) where
  pub fresh : Shape n K (take (board_length n K) m) × ((lay n K (take (board_length n K) m)).bytes ≡ fresh_board n K)
  fresh = laid_fresh n K (take (board_length n K) m) ok

  laid_length : length (lay n K (take (board_length n K) m)).bytes ≡ board_length n K
  laid_length = ap length fresh.1 ∙ length_fresh n K

  pub laid_same_length : length (play_board laid m n K).memory ≡ board_length n K + length (drop (board_length n K) m)
  laid_same_length =
      ap (λ (p : Played). length p.memory) (board_lays laid m n K ok)
      ∙ length-append (lay n K (take (board_length n K) m)).bytes (drop (board_length n K) m)
      ∙ ap (λ (k : ℕ). k + length (drop (board_length n K) m)) laid_length

  pub board_laid : board_of (play_board laid m n K) ≡ (lay n K (take (board_length n K) m)).bytes
  unfolding board_of
  board_laid = ap board_of (board_lays laid m n K ok) ∙ take_at _ _ (board_length n K) laid_length

  pub start : Stands n K (play_board laid m n K)
  start = record {
    is_laid = ap (λ (p : Played). p.laid) (board_lays laid m n K ok);
    room = omega (arith, laid_same_length);
    held = subst (Held n K) (sym (board_laid ∙ fresh.1)) (fresh_held n K (take (board_length n K) m) fresh.0);
  }

  -- what holds of every list of calls from the laid board holds of the lines as theirs
  pub lines_have : (P : List ℕ → List Call → Type 0)
      → ((cs : List Call) → AllAllowed cs (lay n K (take (board_length n K) m)).bytes
      → P (lay n K (take (board_length n K) m)).bytes cs)
      → (ls : List (List ℕ)) → AllStay ls (play_board laid m n K)
      → P (board_of (play_board laid m n K)) (lines_calls ls (play_board laid m n K))
  lines_have P f ls h =
      let cs = lines_calls ls (play_board laid m n K) in
      subst (λ (b : List ℕ). P b cs) (sym board_laid)
      (f cs (subst (AllAllowed cs) board_laid (lines_allowed n K ls (play_board laid m n K) start h)))

-- From an accepted `board` on, the lines are a list of calls, and demand 3 holds of it.
pub sheet_demand3 : SheetDemand3
unfolding SheetDemand3 AnyList
sheet_demand3 laid m n K ok ls h = (
  lines_leave n K ls (play_board laid m n K) (start laid m n K ok) h,
  lines_have laid m n K ok (Demand3 n K) (demand3 n K _ ok) ls h,
)

-- and so do the claims on termination
pub sheet_left_running : SheetLeftRunning
unfolding SheetLeftRunning LeftRunning
sheet_left_running laid m n K ok = lines_have laid m n K ok (Terminates n) (left_running n K _ ok)
