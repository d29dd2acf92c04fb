-- How the lines of a sheet stand in the list of demand 3, with the claim that demand 3 holds of them, and which
-- refusals no line prints.
-- Relies on the sheet and on demand 3; proofs/Sheet/ListOfCalls.antt and proofs/Sheet/Fits.antt prove the claims.
use Rattle.std.specs.Prelude.{cond, List, [], ◌∷◌, ◌++◌, ℕ, leb, length, take, replicate, ◌≡◌, ◌⊎◌, map}
use Rattle.std.proofs.Math.Option.{none, some}
use Rattle.model.specs.Layout.{board_length}
use Rattle.model.specs.Calls.{stations, lay}
use Rattle.model.specs.Rounds.{rounds_refusal, rounds_steps}
use Rattle.model.specs.Proposals.{Proposal, proposals_refusal}
use Rattle.model.specs.Forms.{Form, board, propose, steps, show, rounds, expand, Reading, reads, unread}
use Rattle.model.specs.Forms.{proposals, read_line}
use Rattle.model.specs.Sheet.{Played, refused_text, play_board, play_line, lines_of}
use Rattle.model.specs.AnyList.{Call, proposing, stepping, after, Demand3}

-- ---- the calls of a line

unfoldable pub singles : List Proposal → List Call
singles ps = map (λ (p : Proposal). proposing p.station p.figure) ps

-- "A sheet's line stands in the list as the single calls it makes; a show alters nothing." The calls are those on the
-- board that the line is lent. A `steps` line that is turned down with 6 makes none. An accepted `board` begins another
-- list, and a refused one is not lent the laid board. 02, of a `rounds` line: "each round spelled out as its single
-- steps"; one that is refused makes none. Nor does a line of pairs that is refused; an accepted one is its single
-- proposals.
unfoldable pub form_calls : (lent : List ℕ) → Form → List Call
form_calls b (board n K) = []
form_calls b (propose i v) = proposing i v ∷ []
form_calls b (steps is) = cond (leb (length (expand is)) 65536) (map stepping (expand is)) []
form_calls b show = []
form_calls b (rounds k rs) =
    elim (rounds_refusal k rs b) [ none ↦ map stepping (rounds_steps (stations b) rs) | some number ↦ [] ]
form_calls b (proposals ps) = elim (proposals_refusal ps b) [ none ↦ singles ps | some number ↦ [] ]

unfoldable pub calls_of : (lent : List ℕ) → Reading Form → List Call
calls_of b (reads f) = form_calls b f
calls_of b (unread k) = []

-- The line lays no board: it is no `board` line that is accepted.
unfoldable pub Stays : (m : List ℕ) → Reading Form → Type 0
Stays m r = (n K : ℕ) → r ≡ reads (board n K) → (lay n K (take (board_length n K) m)).answer ≡ none → ⊥

-- ---- lines one after another

-- "Each call is lent the board exactly as the call before left it": each line is played where the line before left off.
unfoldable pub play_lines : List (List ℕ) → Played → Played
play_lines [] p = p
play_lines (l ∷ ls) p = play_lines ls (play_line p.laid p.memory l)

-- the bytes of the board that was laid last
unfoldable pub board_of : Played → List ℕ
board_of p = take p.laid p.memory

-- the calls of the lines, each line lent the board as the line before left it
unfoldable pub lines_calls : List (List ℕ) → Played → List Call
lines_calls [] p = []
lines_calls (l ∷ ls) p = calls_of (board_of p) (read_line l) ++ lines_calls ls (play_line p.laid p.memory l)

-- no line of them lays another board
unfoldable pub AllStay : List (List ℕ) → Played → Type 0
AllStay [] p = Unit {0}
AllStay (l ∷ ls) p = Stays p.memory (read_line l) × AllStay ls (play_line p.laid p.memory l)

-- From an accepted `board n K` on, whatever the sheet did before: the lines up to the next accepted `board` leave the
-- board as their single calls leave it, and demand 3 holds of those calls as one list.
unfoldable pub SheetDemand3 : Type 0
SheetDemand3 =
    (laid : ℕ) (m : List ℕ) (n K : ℕ) → (lay n K (take (board_length n K) m)).answer ≡ none
    → (ls : List (List ℕ)) → AllStay ls (play_board laid m n K)
    → (board_of (play_lines ls (play_board laid m n K))
    ≡ after (lines_calls ls (play_board laid m n K)) (board_of (play_board laid m n K)))
    × Demand3 n K (board_of (play_board laid m n K)) (lines_calls ls (play_board laid m n K))

-- ---- "The program lends boards that fit, so only library callers meet 7, 10 and 11." Nor does it lay a board of two
-- stations, so that 22 is theirs too.

-- the refusals that only library callers meet
unfoldable pub LibraryOnly : ℕ → Type 0
LibraryOnly k = (k ≡ 7) ⊎ ((k ≡ 10) ⊎ ((k ≡ 11) ⊎ (k ≡ 22)))

unfoldable pub NotMet : (printed : List ℕ) → Type 0
NotMet t = (k : ℕ) → LibraryOnly k → t ≡ refused_text k → ⊥

-- each line's printed text has P, and each line is played where the line before left off
unfoldable pub EachPrints : (List ℕ → Type 0) → List (List ℕ) → Played → Type 0
EachPrints P [] p = Unit {0}
EachPrints P (l ∷ ls) p =
    P (play_line p.laid p.memory l).printed × EachPrints P ls (play_line p.laid p.memory l)

unfoldable pub NeverMet : Type 0
NeverMet =
    (s : List ℕ) → EachPrints NotMet (lines_of s)
    (record { printed = []; laid = 0; memory = replicate (board_length 16 64) 0 })
