-- The line that `show` hands back: "512 bytes, zeros after the line, and its length".
-- Relies on how a station stands and on the calls' refusals; the sheet's printed lines rely on its texts and numbers.
use Rattle.std.specs.Prelude.{cond, List, [], ◌∷◌, ◌++◌, ℕ, zero, suc, ◌+◌, ◌-◌, ◌/◌, ◌%◌, leb, ltb, pos, negsuc}
use Rattle.std.specs.Prelude.{length, replicate}
use Rattle.std.proofs.Math.Option.{none, some}
use Prim.Native.Char.{code}
use Prim.Native.String.{String, len, char_at}
use Rattle.model.specs.Figure.{Figure}
use Rattle.model.specs.Listing.{Station}
use Rattle.model.specs.Layout.{station_of}
use Rattle.model.specs.Calls.{Refusal, board_refusal, unless, stations, islands}
use Rattle.model.specs.Standing.{Standing, stands_idle, stands_going, stands_decided, stands_spent, standing_of}

-- the bytes of an ASCII text
unfoldable pub text_from : String → (k at : ℕ) → List ℕ
text_from s zero at = []
text_from s (suc k) at = code (char_at s at) ∷ text_from s k (suc at)

unfoldable pub text : String → List ℕ
text s = text_from s (len s) 0

-- "Numbers have no plus, no leading zero, no −0". A 32-bit number has at most ten digits; fuel counts the digits that
-- may still come.
unfoldable pub decimal_in : (fuel : ℕ) → ℕ → List ℕ
decimal_in zero x = []
decimal_in (suc fuel) x = cond (ltb x 10) [] (decimal_in fuel (x / 10)) ++ ((48 + x % 10) ∷ [])

unfoldable pub decimal : ℕ → List ℕ
decimal x = decimal_in 10 x

-- "no −0": a minus stands before a number that is at least 1
unfoldable pub signed : Figure → List ℕ
signed (pos k) = decimal k
signed (negsuc k) = text "-" ++ decimal (suc k)

-- the word with c and v: `going c v`, `decided c v` or `spent c v`
unfoldable pub worded : (word : String) (c : ℕ) → Figure → List ℕ
worded word c v = text word ++ text " " ++ decimal c ++ text " " ++ signed v

-- "`(i idle)`, `(i going c v)`, `(i decided c v)` or `(i spent c v)`"
unfoldable pub standing_text : Standing → List ℕ
standing_text stands_idle = text "idle"
standing_text (stands_going c x) = worded "going" c x
standing_text (stands_decided c x) = worded "decided" c x
standing_text (stands_spent c x) = worded "spent" c x

unfoldable pub status : Station Figure → List ℕ
status s = standing_text (standing_of s)

-- "per station in order", the first k of them
unfoldable pub statuses : (k n K : ℕ) → List ℕ → List ℕ
statuses zero n K b = []
statuses (suc k) n K b =
    statuses k n K b ++ text " (" ++ decimal (suc k) ++ text " " ++ status (station_of n K k b) ++ text ")"

-- "`(show)` prints `(stations ..)`"
unfoldable pub shown_line : List ℕ → List ℕ
shown_line b = text "(stations" ++ statuses (stations b) (stations b) (islands b) b ++ text ")"

-- "The library hands this line back by value as 512 bytes, zeros after the line, and its length."
pub record Shown : Type 0 where
  pub refusal : Refusal
  pub line : List ℕ
  pub len : ℕ

-- beside a refusal zeros alone
unfoldable pub shown_as : Refusal → List ℕ → Shown
shown_as none l = record { refusal = none; line = l ++ replicate (512 - length l) 0; len = length l }
shown_as (some k) l = record { refusal = some k; line = replicate 512 0; len = 0 }

-- the board's own refusals, then "17. The line for `show` would exceed 512 bytes."
unfoldable pub show : List ℕ → Shown
show b = shown_as (board_refusal b (unless (leb (length (shown_line b)) 512) 17 none)) (shown_line b)
