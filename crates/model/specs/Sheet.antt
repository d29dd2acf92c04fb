-- A form played on a board, and a whole run sheet to all that it prints.
-- Relies on the forms, the calls and the shown line; the starred sheet and the player rely on it.
use Rattle.std.specs.Prelude.{cond, List, [], ◌∷◌, ◌++◌, ℕ, eqb, leb, length, take, drop, replicate}
use Rattle.std.proofs.Math.Option.{none, some}
use Rattle.model.specs.Bytes.{ended_by}
use Rattle.model.specs.Figure.{Figure}
use Rattle.model.specs.Layout.{board_length}
use Rattle.model.specs.Calls as calls
use Rattle.model.specs.Calls.{After, Refusal, RunAnswer, ran, not_run}
use Rattle.model.specs.Rounds as byRound
use Rattle.model.specs.Rounds.{RoundsAnswer}
use Rattle.model.specs.Proposals.{propose_all}
use Rattle.model.specs.Show.{text, decimal, signed, Shown}
use Rattle.model.specs.Show as shows
use Rattle.model.specs.Forms.{Form, board, propose, steps, show, rounds, expand, Reading, reads, unread}
use Rattle.model.specs.Forms.{proposals, read_line}

-- What a line prints, without its LF; how many bytes of the memory are the board that was laid last, 0 for none; and
-- the memory afterwards.
pub record Played : Type 0 where
  pub printed : List ℕ
  pub laid : ℕ
  pub memory : List ℕ

-- the highest number that a refusal has
unfoldable pub last_refusal : ℕ
last_refusal = 22

-- "A refused line prints `(refused N)`."
unfoldable pub refused_text : (number : ℕ) → List ℕ
refused_text k = text "(refused " ++ decimal k ++ text ")"

unfoldable pub or_refused : Refusal → List ℕ → List ℕ
or_refused none printed = printed
or_refused (some k) printed = refused_text k

-- "prints `(laid n K)`", "prints `(proposed i v)`", "prints `(ran S T)`"
unfoldable pub laid_text : (n K : ℕ) → List ℕ
laid_text n K = text "(laid " ++ decimal n ++ text " " ++ decimal K ++ text ")"

unfoldable pub proposed_text : (i : ℕ) → Figure → List ℕ
proposed_text i v = text "(proposed " ++ decimal i ++ text " " ++ signed v ++ text ")"

unfoldable pub ran_text : RunAnswer → List ℕ
ran_text (ran s t) = text "(ran " ++ decimal s ++ text " " ++ decimal t ++ text ")"
ran_text (not_run k) = refused_text k

-- "It prints `(played R D)`" (02)
unfoldable pub played_text : RoundsAnswer → List ℕ
played_text (byRound.played r d) = text "(played " ++ decimal r ++ text " " ++ decimal d ++ text ")"
played_text (byRound.not_played k) = refused_text k

-- "It prints `(proposed m)`, m pairs." (02)
unfoldable pub together_text : (pairs : ℕ) → List ℕ
together_text m = text "(proposed " ++ decimal m ++ text ")"

unfoldable pub shown_text : Shown → List ℕ
shown_text s = or_refused s.refusal (take s.len s.line)

module _ (laid : ℕ) (m : List ℕ) where
  unfoldable pub turned_down : (number : ℕ) → Played
  turned_down k = record { printed = refused_text k; laid = laid; memory = m }

  -- "lays a fresh board": the part of the memory that the board takes is lent to the call
  unfoldable pub play_board : (n K : ℕ) → Played
  play_board n K = played (calls.lay n K (take (board_length n K) m))
    where
      played : After Refusal → Played
      played a =
          elim a.answer [
            | none ↦ record {
              printed = laid_text n K;
              laid = board_length n K;
              memory = a.bytes ++ drop (board_length n K) m;
            }
            | some k ↦ turned_down k
          ]

  -- "5. A form other than `board` comes before any accepted `board`.": a call on the board that was laid
  unfoldable pub on_board : {A : Type 0} → (A → List ℕ) → (List ℕ → After A) → Played
  on_board {A = A} printed call = cond (eqb laid 0) (turned_down 5) (played (call (take laid m)))
    where
      played : After A → Played
      played a = record { printed = printed a.answer; laid = laid; memory = a.bytes ++ drop laid m }

  unfoldable pub play_form : Form → Played
  play_form (board n K) = play_board n K
  play_form (propose i v) = on_board (λ a. or_refused a (proposed_text i v)) (calls.propose i v)
  play_form (steps is) = on_board ran_text (calls.run (expand is))
  play_form show = on_board shown_text (λ b. record { answer = shows.show b; bytes = b })
  play_form (rounds k rs) = on_board played_text (byRound.rounds k rs)
  play_form (proposals ps) = on_board (λ a. or_refused a (together_text (length ps))) (propose_all ps)

  unfoldable pub play_reading : Reading Form → Played
  play_reading (reads f) = play_form f
  play_reading (unread k) = turned_down k

  unfoldable pub play_line : List ℕ → Played
  play_line l = play_reading (read_line l)

-- "a line ends at LF, the last may lack it, and nothing after a final LF is no line"
abbrev pub lines_of : List ℕ → List (List ℕ)
lines_of s = ended_by 10 s

-- what the lines print one after another, each with an LF
unfoldable pub printed : (laid : ℕ) (m : List ℕ) → List (List ℕ) → List ℕ
printed laid m [] = []
printed laid m (l ∷ ls) =
    (play_line laid m l).printed ++ (10 ∷ printed (play_line laid m l).laid (play_line laid m l).memory ls)

-- "1. The sheet is longer than 32,768 bytes; this alone is printed." The memory has room for the largest board.
unfoldable pub play_sheet : List ℕ → List ℕ
play_sheet s =
    cond (leb (length s) 32768) (printed 0 (replicate (board_length 16 64) 0) (lines_of s)) (refused_text 1 ++ (10 ∷ []))
