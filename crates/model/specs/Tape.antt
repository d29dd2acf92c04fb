-- 02, Seven, "Two tapes of one run": the line of a tape, the tape of a run sheet, and two tapes compared.
-- Relies on the calls' answers, on the readers of numbers and on the single calls of a sheet's lines; the calls that
-- compare tapes and the program that writes one rely on it.
use Rattle.std.specs.Prelude.{Bool, true, false, ◌&&◌, cond, List, [], ◌∷◌, ◌++◌, ℕ, zero, suc, ◌+◌, eqb, leb, length}
use Rattle.std.specs.Prelude.{drop, replicate, map}
use Rattle.std.proofs.Math.Option.{Option, none, some}
use Prim.Native.String.{String}
use Rattle.model.specs.Bytes.{byte}
use Rattle.model.specs.Figure.{Figure}
use Rattle.model.specs.Listing.{Answer, wrote, read, went, marked, adopted, decided, spent, refused, accepted}
use Rattle.model.specs.Filled.{Report}
use Rattle.model.specs.Layout.{board_length}
use Rattle.model.specs.Calls.{step}
use Rattle.model.specs.Show.{text, decimal, signed}
use Rattle.model.specs.Forms.{and_then, spaced, number_in, figure_in, same, closing, WordRow, row_in, up_to_stop}
use Rattle.model.specs.Forms.{read_line}
use Rattle.model.specs.Sheet.{Played, play_line, lines_of}
use Rattle.model.specs.AnyList.{Call, laying, proposing, stepping, called}
use Rattle.model.specs.SheetList.{calls_of, board_of}

-- ---- the line of a tape

-- A step that was taken: the station, and what it was answered.
pub record Entry : Type 0 where
  pub station : ℕ
  pub report : Report Figure

-- a word with 01's two fields, "the flag as 1 or 2 and the total of Five last", and the closing bracket
unfoldable pub end_text : (word : String) (c : ℕ) → Figure → (total : ℕ) → List ℕ
end_text word c x k =
    text word ++ (text " " ++ (decimal c ++ (text " " ++ (signed x ++ (text " " ++ (decimal k ++ text ")"))))))

-- "kind fields": "*wrote* has no field, *read* has 1 for a filled register and 0 for an empty one". "refused steps
-- leave no line".
unfoldable pub kind_text : Answer Figure → (met : ℕ) → List ℕ
kind_text wrote k = text "wrote)"
kind_text read k = text "read" ++ (text " " ++ (decimal k ++ text ")"))
kind_text (went c x) k = end_text "went" c x k
kind_text (marked f x) k = end_text "marked" f x k
kind_text (adopted c x) k = end_text "adopted" c x k
kind_text (decided c x) k = end_text "decided" c x k
kind_text (spent c x) k = end_text "spent" c x k
kind_text (refused number) k = []

-- "taping every step as a line `(station kind fields)`"
unfoldable pub entry_text : Entry → List ℕ
entry_text e =
    text "(" ++ (decimal e.station ++ (text " " ++ kind_text e.report.did e.report.met))

-- ---- its reader

-- the fields of an answer that ends a collect: "islands and totals 0 to 99, other numbers as on a sheet"
unfoldable pub end_in : (low high : ℕ) → (ℕ → Figure → Answer Figure) → List ℕ → Option (Report Figure)
end_in low high answer l =
    and_then (spaced (number_in low high) l) λ c k. and_then (spaced figure_in k) λ x m.
    and_then (spaced (number_in 0 99) m) λ total rest. closing (record { did = answer c x; met = total }) rest

unfoldable pub read_in : List ℕ → Option (Report Figure)
read_in l = and_then (spaced (number_in 0 1) l) λ filled rest. closing (record { did = read; met = filled }) rest

-- each kind by its word
unfoldable pub kind_rows : List (WordRow (Report Figure))
kind_rows =
    record { word = text "wrote"; reader = closing (record { did = wrote; met = 0 }) }
    ∷ record { word = text "read"; reader = read_in }
    ∷ record { word = text "went"; reader = end_in 0 99 went }
    ∷ record { word = text "marked"; reader = end_in 1 2 marked }
    ∷ record { word = text "adopted"; reader = end_in 0 99 adopted }
    ∷ record { word = text "decided"; reader = end_in 0 99 decided }
    ∷ record { word = text "spent"; reader = end_in 0 99 spent }
    ∷ []

unfoldable pub kind_in : List ℕ → Option (Report Figure)
kind_in l = elim (row_in kind_rows (up_to_stop l)) [ none ↦ none | some r ↦ r.reader (drop (length (up_to_stop l)) l) ]

-- what was answered, by the station before it
unfoldable pub by_station : (i : ℕ) → Option (Report Figure) → Option Entry
by_station i none = none
by_station i (some r) = some (record { station = i; report = r })

-- the station and a space before the kind
unfoldable pub entry_in : List ℕ → Option Entry
entry_in l = cond (eqb (byte l 0) 40) (and_then (number_in 0 99 (drop 1 l)) answered) none
  where
    answered : (i : ℕ) → List ℕ → Option Entry
    answered i rest = cond (eqb (byte rest 0) 32) (by_station i (kind_in (drop 1 rest))) none

-- whether a line is a step answer
unfoldable pub is_entry : List ℕ → Bool
is_entry l = elim (entry_in l) [ none ↦ false | some e ↦ true ]

-- ---- the tape of a run sheet

-- what a single call adds to the tape: "refused steps leave no line"
unfoldable pub entry_of : Call → List ℕ → List Entry
entry_of (laying n K) b = []
entry_of (proposing i v) b = []
entry_of (stepping i) b =
    let r = (step i b).answer in cond (accepted r.did) (record { station = i; report = r } ∷ []) []

-- "taping every step": calls one after another, each lent the board as the call before left it
unfoldable pub tape_of : List Call → List ℕ → List Entry
tape_of [] b = []
tape_of (c ∷ cs) b = entry_of c b ++ tape_of cs (called c b)

-- "a refused line adds nothing, a `rounds` line adds its single steps": each line adds the steps of its single calls,
-- and another board goes on in the same tape
unfoldable pub lines_tape : List (List ℕ) → Played → List Entry
lines_tape [] p = []
lines_tape (l ∷ ls) p =
    tape_of (calls_of (board_of p) (read_line l)) (board_of p) ++ lines_tape ls (play_line p.laid p.memory l)

-- no board was laid yet, in a memory with room for the largest
unfoldable pub begun : Played
begun = record { printed = []; laid = 0; memory = replicate (board_length 16 64) 0 }

unfoldable pub sheet_tape : (sheet : List ℕ) → List Entry
sheet_tape s = lines_tape (lines_of s) begun

-- "the algorithm's own line", one after another
unfoldable pub own_lines : (sheet : List ℕ) → List (List ℕ)
own_lines s = map entry_text (sheet_tape s)

-- the bytes of a tape: "lines ended as on a run sheet", an LF behind each
unfoldable pub tape_text : List (List ℕ) → List ℕ
tape_text [] = []
tape_text (l ∷ ls) = l ++ (10 ∷ tape_text ls)

-- ---- two tapes

-- the line with a number, "counted from 1", if there is one
unfoldable pub line_at : (number : ℕ) → List (List ℕ) → Option (List ℕ)
line_at k [] = none
line_at zero (l ∷ ls) = none
line_at (suc zero) (l ∷ ls) = some l
line_at (suc (suc k)) (l ∷ ls) = line_at (suc k) ls

-- and the place where it begins: an LF stands behind each line before it
unfoldable pub line_start : (number : ℕ) → List (List ℕ) → ℕ
line_start k [] = 0
line_start zero (l ∷ ls) = 0
line_start (suc zero) (l ∷ ls) = 0
line_start (suc (suc k)) (l ∷ ls) = length l + 1 + line_start (suc k) ls

-- "find the first line number, counted from 1, at which both have a line and these differ": k lines were alike so far
unfoldable pub differ_from : (k : ℕ) → (first second : List (List ℕ)) → Option ℕ
differ_from k [] ms = none
differ_from k (l ∷ ls) [] = none
differ_from k (l ∷ ls) (m ∷ ms) = cond (same l m) (differ_from (suc k) ls ms) (some (suc k))

-- a tape that the taps made
pub data Tap : Type 0 where
  first second : Tap

-- "the first tape's if it departs from the algorithm's own line or the algorithm has none there, else the second's"
unfoldable pub culprit : (own line : Option (List ℕ)) → Tap
culprit none l = first
culprit (some o) none = first
culprit (some o) (some l) = cond (same l o) second first

-- What the comparison answers: a refusal's number; none; or the line number and whose line is the culprit's.
pub data Compared : Type 0 where
  not_compared : (number : ℕ) → Compared
  alike : Compared
  differs : (number : ℕ) → Tap → Compared

-- no line of a tape "is no step answer"
unfoldable pub taped : List (List ℕ) → Bool
taped [] = true
taped (l ∷ ls) = is_entry l && taped ls

-- "It refuses after 1: 21": every line of both tapes is looked at, also behind the difference and beyond the other
-- tape's end. Lines "ended as on a run sheet", and no other limit.
unfoldable pub compare : (sheet first second : List ℕ) → Compared
compare s a b =
    cond (leb (length s) 32768)
    (cond (taped (lines_of a) && taped (lines_of b)) (found (differ_from 0 (lines_of a) (lines_of b))) (not_compared 21))
    (not_compared 1)
  where
    found : Option ℕ → Compared
    found none = alike
    found (some k) = differs k (culprit (line_at k (own_lines s)) (line_at k (lines_of a)))

-- "The culprit's line is returned as a part of that tape", "The part leaves out the LF."; "If they never differ so, the
-- answer is none, an empty part", of the first tape, and so beside a refusal: which tape, from which place on, and the
-- bytes there.
pub record TapePart : Type 0 where
  pub tap : Tap
  pub start : ℕ
  pub bytes : List ℕ

unfoldable pub empty_part : TapePart
empty_part = record { tap = first; start = 0; bytes = [] }

unfoldable pub part_of : (number : ℕ) → Tap → (tape : List ℕ) → TapePart
part_of k t tape = from (line_at k (lines_of tape))
  where
    from : Option (List ℕ) → TapePart
    from none = empty_part
    from (some l) = record { tap = t; start = line_start k (lines_of tape); bytes = l }

unfoldable pub culprit_part : (first second : List ℕ) → Compared → TapePart
culprit_part a b (not_compared k) = empty_part
culprit_part a b alike = empty_part
culprit_part a b (differs k first) = part_of k first a
culprit_part a b (differs k second) = part_of k second b
