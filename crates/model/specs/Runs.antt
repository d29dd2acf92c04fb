-- A run as its single steps: their answers, counted, and the board that they leave.
-- Relies on the calls; proofs/Calls/Runs.antt proves the claims, and the code's run relies on them.
use Rattle.std.specs.Prelude.{cond, List, [], ◌∷◌, ℕ, ◌+◌, ◌≤◌, length, ◌≡◌}
use Rattle.std.proofs.Math.Option.{none}
use Rattle.model.specs.Figure.{Figure}
use Rattle.model.specs.Listing.{Answer, accepted}
use Rattle.model.specs.Filled.{Report}
use Rattle.model.specs.Calls.{After, ran, board_refusal, step, run}

-- how many of the answers are no refusals
unfoldable pub taken : List (Answer Figure) → ℕ
taken [] = 0
taken (x ∷ xs) = cond (accepted x) 1 0 + taken xs

-- and how many are
unfoldable pub passed : List (Answer Figure) → ℕ
passed [] = 0
passed (x ∷ xs) = cond (accepted x) 0 1 + passed xs

-- steps one after another, each lent "the board exactly as the call before left it"; `one` is how each is taken
module _ (one : ℕ → List ℕ → After (Report Figure)) where
  -- the board afterwards
  unfoldable pub after : List ℕ → List ℕ → List ℕ
  after b [] = b
  after b (i ∷ is) = after (one i b).bytes is

  -- the answers in order
  unfoldable pub answers : List ℕ → List ℕ → List (Answer Figure)
  answers b [] = []
  answers b (i ∷ is) = (one i b).answer.did ∷ answers (one i b).bytes is

-- "S steps taken, T steps refused and passed over": a run that is not turned down counts the answers of its single
-- steps, leaves the board that they leave, and S and T together are all of them.
unfoldable pub RunsCount : Type 0
RunsCount =
    (is b : List ℕ) → board_refusal b none ≡ none → length is ≤ 65536
    → (run is b ≡ (record {
      answer = ran (taken (answers step b is)) (passed (answers step b is));
      bytes = after step b is;
    }))
    × (taken (answers step b is) + passed (answers step b is) ≡ length is)
