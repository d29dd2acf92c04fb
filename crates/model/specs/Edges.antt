-- The edges of the sheet's grammar as one table: a row is a line and what is read in it; and the limit of a line's
-- steps. Relies on the forms and the sheet; proofs/Sheet/Limits.antt proves the statements `Edges` and `StepsLimit`.
use Rattle.std.specs.Prelude.{List, [], ◌∷◌, ◌++◌, ℕ, zero, suc, ◌+◌, take, replicate, pos, negsuc, ◌≡◌, map}
use Rattle.std.proofs.Math.Option.{none}
use Rattle.model.specs.Calls.{ran, board_refusal}
use Rattle.model.specs.Show.{text}
use Rattle.model.specs.Forms.{Form, station, times, Items, done, next, board, propose, steps, Reading}
use Rattle.model.specs.Forms.{rounds, proposals, reads, unread, read_line}
use Rattle.model.specs.Figure.{Figure}
use Rattle.model.specs.Proposals.{Proposal}
use Rattle.model.specs.Sheet.{ran_text, turned_down, play_line}

-- what `(steps (times k 1))` holds
unfoldable pub times_one : (k : ℕ) → Items
times_one k = next (times k (next (station 1) done)) done

pub record Row : Type 0 where
  pub line : List ℕ
  pub reading : Reading Form

-- one item inside k brackets of `times`
unfoldable pub deep : (k : ℕ) → Items
deep zero = next (station 1) done
deep (suc k) = next (times 1 (deep k)) done

unfoldable pub pair : (i : ℕ) → Figure → Proposal
pair i v = record { station = i; figure = v }

unfoldable pub rows : List Row
rows =
    -- "Nine open brackets give 3; eight do not", of a row of them and of a form
    record { line = text "((((((((("; reading = unread 3 }
    ∷ record { line = text "(((((((("; reading = unread 4 }
    ∷ record {
      line = text "(steps (times 1 (times 1 (times 1 (times 1 (times 1 (times 1 (times 1 (times 1 1)))))))))";
      reading = unread 3;
    }
    ∷ record {
      line = text "(steps (times 1 (times 1 (times 1 (times 1 (times 1 (times 1 (times 1 1))))))))";
      reading = reads (steps (deep 7));
    }
    -- "opening brackets exceed closing ones by more than 8": a closing one before them counts
    ∷ record { line = text ")((((((((("; reading = unread 4 }
    ∷ record { line = text ")(((((((((("; reading = unread 3 }
    -- "longer than 255 bytes", which comes before the brackets
    ∷ record { line = replicate 256 40; reading = unread 2 }
    ∷ record { line = replicate 255 40; reading = unread 3 }
    ∷ record { line = text "(show)" ++ replicate 250 32; reading = unread 2 }
    ∷ record { line = text "(show)" ++ replicate 249 32; reading = unread 4 }
    -- "Numbers have no plus, no leading zero, no −0"
    ∷ record { line = text "(propose 1 +7)"; reading = unread 4 }
    ∷ record { line = text "(board 03 2)"; reading = unread 4 }
    ∷ record { line = text "(propose 1 -07)"; reading = unread 4 }
    ∷ record { line = text "(propose 1 -0)"; reading = unread 4 }
    ∷ record { line = text "(propose 1 0)"; reading = reads (propose 1 (pos 0)) }
    -- "n, K and stations are 0 to 99"
    ∷ record { line = text "(board 99 0)"; reading = reads (board 99 0) }
    ∷ record { line = text "(board 100 2)"; reading = unread 4 }
    ∷ record { line = text "(steps 0 99)"; reading = reads (steps (next (station 0) (next (station 99) done))) }
    ∷ record { line = text "(steps 100)"; reading = unread 4 }
    -- "A figure is a signed 32-bit whole number; its full width is allowed."
    ∷ record { line = text "(propose 1 2147483647)"; reading = reads (propose 1 (pos 2147483647)) }
    ∷ record { line = text "(propose 1 2147483648)"; reading = unread 4 }
    ∷ record { line = text "(propose 1 -2147483648)"; reading = reads (propose 1 (negsuc 2147483647)) }
    ∷ record { line = text "(propose 1 -2147483649)"; reading = unread 4 }
    -- "single spaces, no others"
    ∷ record { line = text "(board  3 2)"; reading = unread 4 }
    ∷ record { line = text "(board 3 2 )"; reading = unread 4 }
    ∷ record { line = text " (show)"; reading = unread 4 }
    ∷ record { line = text "(show) "; reading = unread 4 }
    ∷ record { line = text "(steps(times 2 1))"; reading = unread 4 }
    -- "`(steps item ..)`, perhaps with no item"; "`(times k item ..)`, which holds at least one item again, k from 1 to
    -- 99,999"
    ∷ record { line = text "(steps)"; reading = reads (steps done) }
    ∷ record { line = text "(steps )"; reading = unread 4 }
    ∷ record { line = text "(steps ())"; reading = unread 4 }
    ∷ record { line = text "(steps (times 2))"; reading = unread 4 }
    ∷ record { line = text "(steps (times 0 1))"; reading = unread 4 }
    ∷ record { line = text "(steps (times 99999 1))"; reading = reads (steps (times_one 99999)) }
    ∷ record { line = text "(steps (times 100000 1))"; reading = unread 4 }
    -- 02: "`(rounds k (2) () ..)`", "k is 0 to 99, and there may be no round"
    ∷ record { line = text "(rounds 0)"; reading = reads (rounds 0 []) }
    ∷ record { line = text "(rounds 99 (2) ())"; reading = reads (rounds 99 ((2 ∷ []) ∷ [] ∷ [])) }
    ∷ record { line = text "(rounds 1 (0 99 3))"; reading = reads (rounds 1 ((0 ∷ 99 ∷ 3 ∷ []) ∷ [])) }
    ∷ record { line = text "(rounds)"; reading = unread 4 }
    ∷ record { line = text "(rounds )"; reading = unread 4 }
    ∷ record { line = text "(rounds 100)"; reading = unread 4 }
    ∷ record { line = text "(rounds 01)"; reading = unread 4 }
    ∷ record { line = text "(rounds 1 (100))"; reading = unread 4 }
    ∷ record { line = text "(rounds 1 ( ))"; reading = unread 4 }
    ∷ record { line = text "(rounds 1 (1 ))"; reading = unread 4 }
    ∷ record { line = text "(rounds 1 ()())"; reading = unread 4 }
    ∷ record { line = text "(rounds 1())"; reading = unread 4 }
    ∷ record { line = text "(rounds 1 2)"; reading = unread 4 }
    ∷ record { line = text "(rounds 1 (1 (2)))"; reading = unread 4 }
    ∷ record { line = text "(rounds 1 ()"; reading = unread 4 }
    -- 02: "`(propose (1 -40) (2 15))`, at least one pair", beside `(propose i v)`; a station may be named twice here
    ∷ record {
      line = text "(propose (1 -40) (2 15))";
      reading = reads (proposals (pair 1 (negsuc 39) ∷ pair 2 (pos 15) ∷ []));
    }
    ∷ record {
      line = text "(propose (99 2147483647) (0 -2147483648))";
      reading = reads (proposals (pair 99 (pos 2147483647) ∷ pair 0 (negsuc 2147483647) ∷ []));
    }
    ∷ record { line = text "(propose (1 5))"; reading = reads (proposals (pair 1 (pos 5) ∷ [])) }
    ∷ record {
      line = text "(propose (1 5) (1 5))";
      reading = reads (proposals (pair 1 (pos 5) ∷ pair 1 (pos 5) ∷ []));
    }
    ∷ record { line = text "(propose)"; reading = unread 4 }
    ∷ record { line = text "(propose ())"; reading = unread 4 }
    ∷ record { line = text "(propose (1))"; reading = unread 4 }
    ∷ record { line = text "(propose (1 2 3))"; reading = unread 4 }
    ∷ record { line = text "(propose (1 2)(3 4))"; reading = unread 4 }
    ∷ record { line = text "(propose(1 2))"; reading = unread 4 }
    ∷ record { line = text "(propose (1 2) )"; reading = unread 4 }
    ∷ record { line = text "(propose ( 1 2))"; reading = unread 4 }
    ∷ record { line = text "(propose (1 2 ))"; reading = unread 4 }
    ∷ record { line = text "(propose ((1 2)))"; reading = unread 4 }
    ∷ record { line = text "(propose (1 2) 3 4)"; reading = unread 4 }
    ∷ record { line = text "(propose 1 (2 3))"; reading = unread 4 }
    ∷ record { line = text "(propose (100 2))"; reading = unread 4 }
    ∷ record { line = text "(propose (1 -0))"; reading = unread 4 }
    ∷ record { line = text "(propose (1 2)"; reading = unread 4 }
    -- "The line is none of the forms"
    ∷ record { line = text ""; reading = unread 4 }
    ∷ record { line = text "(show"; reading = unread 4 }
    ∷ record { line = text "(times 2)"; reading = unread 4 }
    ∷ record { line = text "(times 2 1)"; reading = unread 4 }
    ∷ record { line = text "(Show)"; reading = unread 4 }
    ∷ []

-- Every row holds: what is read in its line is its reading.
unfoldable pub Edges : Type 0
Edges = map (λ (r : Row). read_line r.line) rows ≡ map (λ (r : Row). r.reading) rows

-- "65,536 steps run; 65,537 give 6": on any sound board the first line prints S and T that are 65,536 together, and on
-- any laid board, sound or not, the second is refused.
unfoldable pub StepsLimit : Type 0
StepsLimit =
    (laid : ℕ) (m : List ℕ) → (laid ≡ 0 → ⊥)
    → (board_refusal (take laid m) none ≡ none
    → (s : ℕ) × (t : ℕ) × ((play_line laid m (text "(steps (times 65536 1))")).printed ≡ ran_text (ran s t))
    × (s + t ≡ 65536))
    × (play_line laid m (text "(steps (times 65537 1))") ≡ turned_down laid m 6)
