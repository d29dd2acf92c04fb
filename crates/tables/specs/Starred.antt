-- The starred runs of 01 as one table: a row is what the definitions give and what 01 says they give.
-- Relies on the sheet, the laying, the order and the saved boards of two stations; proofs/Starred.antt proves the one
-- statement `Starred`.
use Rattle.std.specs.Prelude.{Bool, true, ◌&&◌, List, [], ◌∷◌, ◌++◌, ℕ, length, replicate, pos, negsuc, ◌≡◌, map}
use Rattle.std.proofs.Math.Option.{none, some}
use Prim.Native.String.{String}
use Rattle.model.specs.Figure.{Figure, figure, above}
use Rattle.model.specs.Calls.{After, Refusal, lay}
use Rattle.model.specs.Layout.{fresh_board}
use Rattle.model.specs.Show.{text}
use Rattle.model.specs.Sheet.{printed, play_sheet}
use Rattle.model.specs.TwoStations.{start}

-- What a sheet prints; an answer to a laying; a comparison.
pub data Outcome : Type 0 where
  prints : List ℕ → Outcome
  turned_down : (number : ℕ) → Outcome
  laid : (bytes : ℕ) → Outcome
  compared : Bool → Outcome

-- lines as bytes, each with its LF
unfoldable pub as_lines : List String → List ℕ
as_lines [] = []
as_lines (s ∷ ss) = text s ++ (10 ∷ as_lines ss)

unfoldable pub lay_in : (bytes n K : ℕ) → Outcome
lay_in bytes n K = by_answer (lay n K (replicate bytes 0))
  where
    by_answer : After Refusal → Outcome
    by_answer a = elim a.answer [ none ↦ laid (length a.bytes) | some k ↦ turned_down k ]

pub record Row : Type 0 where
  pub gives : Outcome
  pub says : Outcome

-- a sheet, and what it prints
unfoldable pub sheet : (lines printed : List String) → Row
sheet lines printed = record { gives = prints (play_sheet (as_lines lines)); says = prints (as_lines printed) }

-- the same lines on a board that was saved and is lent
unfoldable pub on_saved : (board : List ℕ) (lines says : List String) → Row
on_saved b lines says = record { gives = prints (printed (length b) b (map text lines)); says = prints (as_lines says) }

-- each figure is above the one before it
unfoldable pub rise : List Figure → Bool
rise [] = true
rise (x ∷ []) = true
rise (x ∷ y ∷ ys) = above y x && rise (y ∷ ys)

-- runs, as the lines of a sheet or on a lent board
unfoldable pub rows : List Row
rows =
    -- "This sheet, given to the program .. prints", and of 02: "the sixth answer becomes `(ran 12 12)` and the seventh
    -- shows `(2 decided 0 -40)`"
    sheet (
    "(board 3 2)" ∷ "(propose 1 -40)" ∷ "(propose 2 15)" ∷ "(steps (times 12 1))" ∷ "(show)" ∷ "(steps (times 24 2))"
    ∷ "(show)"
    ∷ "(steps 1 2 3 4)" ∷ []
    ) (
    "(laid 3 2)" ∷ "(proposed 1 -40)" ∷ "(proposed 2 15)" ∷ "(ran 12 0)"
    ∷ "(stations (1 decided 0 -40) (2 going 0 15) (3 idle))"
    ∷ "(ran 12 12)" ∷ "(stations (1 decided 0 -40) (2 decided 0 -40) (3 idle))" ∷ "(ran 0 4)" ∷ []
    )
    -- "n = 2, K = 2, proposals 7 and 3: `(steps (times 2 (times 3 2) (times 3 1) (times 3 2) (times 6 1) (times 3 2)))`
    -- gives `(ran 36 0)`, then `(1 spent 1 7) (2 spent 1 3)`.", and of 02: "that run stays as a case on such a board,
    -- fresh but for the two proposals"
    ∷ on_saved (start 2 (pos 7) (pos 3)) (
    "(steps (times 2 (times 3 2) (times 3 1) (times 3 2) (times 6 1) (times 3 2)))" ∷ "(show)" ∷ []
    ) ("(ran 36 0)" ∷ "(stations (1 spent 1 7) (2 spent 1 3))" ∷ [])
    -- "n = 3, K = 2, all propose 5: `(steps (times 12 1 2 3))` gives `(ran 36 0)`, and all have decided 5 on island 0."
    ∷ sheet ("(board 3 2)" ∷ "(propose 1 5)" ∷ "(propose 2 5)" ∷ "(propose 3 5)" ∷ "(steps (times 12 1 2 3))" ∷ "(show)"
    ∷ []) (
    "(laid 3 2)" ∷ "(proposed 1 5)" ∷ "(proposed 2 5)" ∷ "(proposed 3 5)" ∷ "(ran 36 0)"
    ∷ "(stations (1 decided 0 5) (2 decided 0 5) (3 decided 0 5))" ∷ []
    )
    -- "n = 1, K = 2: six steps decide": not five, and a seventh is refused
    ∷ sheet ("(board 1 2)" ∷ "(propose 1 9)" ∷ "(steps (times 5 1))" ∷ "(show)" ∷ "(steps 1 1)" ∷ "(show)" ∷ []) (
    "(laid 1 2)" ∷ "(proposed 1 9)" ∷ "(ran 5 0)" ∷ "(stations (1 going 0 9))" ∷ "(ran 1 1)"
    ∷ "(stations (1 decided 0 9))" ∷ []
    )
    -- not starred: station 2 is halted between two reads of its collect of m, the others settle on 7, and it comes back
    ∷ sheet (
    "(board 3 2)" ∷ "(propose 1 7)" ∷ "(propose 2 3)" ∷ "(propose 3 5)" ∷ "(steps 2 2)"
    ∷ "(steps (times 12 1) (times 12 3))"
    ∷ "(steps (times 22 2))" ∷ "(show)" ∷ []
    ) (
    "(laid 3 2)" ∷ "(proposed 1 7)" ∷ "(proposed 2 3)" ∷ "(proposed 3 5)" ∷ "(ran 2 0)" ∷ "(ran 24 0)" ∷ "(ran 22 0)"
    ∷ "(stations (1 decided 0 7) (2 decided 1 7) (3 decided 0 7))" ∷ []
    )
    -- not starred: figures put in together, 20 before 12, faults pair by pair as written, and nothing put in of a line
    -- that is refused
    ∷ sheet (
    "(propose (1 5))" ∷ "(board 3 2)" ∷ "(propose (2 15) (1 -40))" ∷ "(propose (3 1) (1 5))" ∷ "(propose (4 1) (4 1))"
    ∷ "(propose (3 1) (1 2) (4 2))" ∷ "(propose (3 1) (4 2) (1 2))" ∷ "(propose (1 2) (3 7) (3 8))" ∷ "(show)"
    ∷ "(propose (3 7))" ∷ "(show)" ∷ []
    ) (
    "(refused 5)" ∷ "(laid 3 2)" ∷ "(proposed 2)" ∷ "(refused 13)" ∷ "(refused 20)" ∷ "(refused 13)" ∷ "(refused 12)"
    ∷ "(refused 20)" ∷ "(stations (1 going 0 -40) (2 going 0 15) (3 idle))" ∷ "(proposed 1)"
    ∷ "(stations (1 going 0 -40) (2 going 0 15) (3 going 0 7))" ∷ []
    )
    -- not starred: rounds as 02 has them, in which station 1 collects before station 2 writes and goes on with its own
    -- 3; 19 for the second of two rounds, with nothing played of the first; 18 before 19
    ∷ sheet (
    "(board 3 2)" ∷ "(propose 1 3)" ∷ "(propose 2 7)" ∷ "(rounds 1 ())" ∷ "(show)" ∷ "(rounds 1 (2) (1 2))"
    ∷ "(steps 1)" ∷ "(rounds 0 (4))" ∷ "(steps (times 3 1))" ∷ "(rounds 2 (1 3) ())" ∷ "(rounds 1 (1) () (3))"
    ∷ "(show)" ∷ []
    ) (
    "(laid 3 2)" ∷ "(proposed 1 3)" ∷ "(proposed 2 7)" ∷ "(played 1 0)"
    ∷ "(stations (1 going 0 3) (2 going 0 7) (3 idle))"
    ∷ "(refused 19)" ∷ "(ran 1 0)" ∷ "(refused 18)" ∷ "(ran 3 0)" ∷ "(played 2 1)" ∷ "(played 3 2)"
    ∷ "(stations (1 decided 0 3) (2 decided 1 3) (3 idle))" ∷ []
    )
    -- not starred: on a board of two stations a proposal is 12 or 22, whether the station is idle or not, and with
    -- pairs 20 comes before both; the board steps and shows as any other
    ∷ on_saved (start 2 (pos 7) (pos 3)) (
    "(propose 0 1)" ∷ "(propose 3 1)" ∷ "(propose 1 1)" ∷ "(propose (3 1) (3 1))" ∷ "(propose (2 1) (3 1))"
    ∷ "(propose (3 1) (2 1))" ∷ "(show)" ∷ "(rounds 1 (2))" ∷ "(steps (times 6 1) (times 9 2))" ∷ "(show)" ∷ []
    ) (
    "(refused 12)" ∷ "(refused 12)" ∷ "(refused 22)" ∷ "(refused 20)" ∷ "(refused 22)" ∷ "(refused 12)"
    ∷ "(stations (1 going 0 7) (2 going 0 3))" ∷ "(played 1 0)" ∷ "(ran 15 0)"
    ∷ "(stations (1 decided 0 7) (2 decided 0 7))" ∷ []
    )
    ∷ on_saved (fresh_board 2 2) ("(propose 1 1)" ∷ "(propose (2 1))" ∷ "(propose 3 1)" ∷ "(show)" ∷ []) (
    "(refused 22)" ∷ "(refused 22)" ∷ "(refused 12)" ∷ "(stations (1 idle) (2 idle))" ∷ []
    )
    -- 02: "Laying now allows n = 1 or 3 to 16, else 8.", which comes before 9; the board that was laid stays
    ∷ sheet (
    "(board 2 2)" ∷ "(board 2 1)" ∷ "(show)" ∷ "(board 1 2)" ∷ "(board 2 64)" ∷ "(show)" ∷ "(board 3 2)" ∷ "(show)" ∷ []
    ) (
    "(refused 8)" ∷ "(refused 8)" ∷ "(refused 5)" ∷ "(laid 1 2)" ∷ "(refused 8)" ∷ "(stations (1 idle))" ∷ "(laid 3 2)"
    ∷ "(stations (1 idle) (2 idle) (3 idle))" ∷ []
    )
    ∷ []

-- layings and comparisons at the edges
unfoldable pub edges : List Row
edges =
    -- "n = 16, K = 64 laid in 16,904 bytes; in 16,903 gives 10. n = 17 gives 8. K = 1 gives 9."
    record { gives = lay_in 16904 16 64; says = laid 16904 }
    ∷ record { gives = lay_in 16903 16 64; says = turned_down 10 }
    ∷ record { gives = lay_in 16904 17 64; says = turned_down 8 }
    ∷ record { gives = lay_in 72 1 1; says = turned_down 9 }
    -- not starred: two stations in the bytes of such a board
    ∷ record { gives = lay_in 136 2 2; says = turned_down 8 }
    -- "−2,147,483,648 is above 2,147,483,647", each from its bytes in two's complement
    ∷ record {
      gives = compared (above (figure (0 ∷ 0 ∷ 0 ∷ 128 ∷ [])) (figure (255 ∷ 255 ∷ 255 ∷ 127 ∷ [])));
      says = compared true;
    }
    -- not starred: "0, −1, 1, −2, 2 rise"
    ∷ record { gives = compared (rise (pos 0 ∷ negsuc 0 ∷ pos 1 ∷ negsuc 1 ∷ pos 2 ∷ [])); says = compared true }
    ∷ []

unfoldable pub Holds : List Row → Type 0
Holds [] = Unit {0}
Holds (r ∷ rs) = (r.gives ≡ r.says) × Holds rs

-- Every row holds.
unfoldable pub Starred : Type 0
Starred = Holds rows × Holds edges
