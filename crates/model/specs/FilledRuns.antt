-- Five of 02 as worked runs: what each step of a run answers, and the number of filled registers that it tells with it.
-- Relies on the calls; proofs/FilledRuns.antt proves `FilledRuns`.
use Rattle.std.specs.Prelude.{List, [], ◌∷◌, ◌++◌, ℕ, ◌+◌, replicate, pos, negsuc, ◌≡◌, map}
use Rattle.model.specs.Figure.{Figure}
use Rattle.model.specs.Listing.{in_m, Answer, wrote, read, went, marked, decided, refused}
use Rattle.model.specs.Filled.{Report}
use Rattle.model.specs.Layout.{fresh_board}
use Rattle.model.specs.Calls.{propose, step}
use Rattle.model.specs.Runs.{after}
use Rattle.model.specs.WholeSteps.{registers_from}
use Rattle.model.specs.FilledCount.{filled_among}

-- figures put in, the first of them as the proposal of station i
unfoldable pub proposed_from : (i : ℕ) → List Figure → List ℕ → List ℕ
proposed_from i [] b = b
proposed_from i (v ∷ vs) b = proposed_from (i + 1) vs (propose i v b).bytes

-- a fresh board with them, from station 1 on
abbrev pub begun : (n K : ℕ) → List Figure → List ℕ
begun n K vs = proposed_from 1 vs (fresh_board n K)

-- the reports of single steps, each lent the board as the one before left it
unfoldable pub reports : List ℕ → List ℕ → List (Report Figure)
reports b [] = []
reports b (i ∷ is) = (step i b).answer ∷ reports (step i b).bytes is

-- one of them
abbrev pub tells : Answer Figure → ℕ → Report Figure
tells a k = record { did = a; met = k }

-- one turn of a station: its write, reads that met so many, and the end of its collect with the total
unfoldable pub one_turn : (reads : List ℕ) → Answer Figure → (total : ℕ) → List (Report Figure)
one_turn ks a k = tells wrote 0 ∷ map (tells read) ks ++ (tells a k ∷ [])

-- the −40 of 01's sheet, which is above its 15
abbrev pub forty : Figure
forty = negsuc 39

-- a board on which all propose
abbrev pub all_begun : List ℕ
all_begun = begun 3 2 (pos 7 ∷ pos 3 ∷ pos 5 ∷ [])

pub record FilledRuns : Type 0 where
  -- station 1 alone meets its own register in each collect, and station 2 behind it that one too; a refusal tells none
  pub sheet : reports (begun 3 2 (forty ∷ pos 15 ∷ [])) (replicate 12 1 ++ replicate 13 2)
      ≡ one_turn (1 ∷ 0 ∷ []) (went 0 forty) 1 ++ one_turn (1 ∷ 0 ∷ []) (marked 2 forty) 1
      ++ one_turn (1 ∷ 0 ∷ []) (decided 0 forty) 1
      ++ one_turn (1 ∷ 1 ∷ []) (went 0 forty) 2 ++ one_turn (1 ∷ 1 ∷ []) (marked 2 forty) 2
      ++ one_turn (1 ∷ 1 ∷ []) (decided 0 forty) 2
      ++ (tells (refused 15) 0 ∷ [])
  -- A register counts as its read met it: station 1 fills its own behind the collect of station 2, and station 3 fills
  -- its own before that collect comes to it, so that the total is 2 where three are filled.
  pub between : reports all_begun (2 ∷ 2 ∷ 2 ∷ 1 ∷ 3 ∷ 2 ∷ [])
      ≡ tells wrote 0 ∷ tells read 0 ∷ tells read 1 ∷ tells wrote 0 ∷ tells wrote 0 ∷ tells (went 0 (pos 5)) 2 ∷ []
  pub three_filled : filled_among (registers_from 3 in_m 0 3 (after step all_begun (2 ∷ 2 ∷ 2 ∷ 1 ∷ 3 ∷ []))) ≡ 3
  -- where a station is alone on the board, its only read is the last one
  pub alone : reports (begun 1 2 (pos 9 ∷ [])) (replicate 6 1)
      ≡ one_turn [] (went 0 (pos 9)) 1 ++ one_turn [] (marked 2 (pos 9)) 1 ++ one_turn [] (decided 0 (pos 9)) 1
