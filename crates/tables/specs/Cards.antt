-- The wrong cards of 01's checklist and its forbidden shortcuts, each as a step on bytes, in one table: on a named
-- board each answers or leaves something else than `step` does, so none of them can meet the equation of a step.
-- Relies on the calls and the sheet; proofs/Cards.antt proves the one statement `ShutOut`.
use Rattle.std.specs.Prelude.{cond, List, [], ◌∷◌, ◌++◌, ℕ, zero, suc, ◌+◌, ◌-◌, ltb, replicate, pos, ◌≡◌}
use Rattle.model.specs.Figure.{Figure, figures}
use Rattle.model.specs.Listing.{Register, empty, filled, Turn, turn_m, turn_a, turn_b, first, second, third, Seen}
use Rattle.model.specs.Listing.{nothing, seen, Stage, writing, reading, has_decided, is_spent}
use Rattle.model.specs.Listing.{Station, idle, active, read, went, decided, spent, Move}
use Rattle.model.specs.Listing.{place_array, place_column, stay, ended, finish, see, move}
use Rattle.model.specs.Filled.{Report, refusal}
use Rattle.model.specs.Layout.{board_length, register_of}
use Rattle.model.specs.Calls.{After, ran, stations, islands, station_at, put_move, lay, propose, step, run}
use Rattle.model.specs.Runs.{after}

-- ---- a card by the move that it makes, where `step` makes the listing's; it may look at every register of the
-- collect's array

abbrev pub CardMove : Type 0
CardMove = (n K : ℕ) → Stage Figure → (own : ℕ) → (ℕ → Register Figure) → Move Figure

abbrev pub Card : Type 0
Card = (i : ℕ) → List ℕ → After (Report Figure)

unfoldable pub moved_by : CardMove → (n K j : ℕ) → Station Figure → List ℕ → After (Report Figure)
moved_by card n K j idle b = record { answer = refusal 14; bytes = b }
moved_by card n K j (active v s) b =
    put_move n K j v s (register_of n (place_array s) (place_column j s) b)
    (card n K s j (λ q. register_of n (place_array s) q b)) b

unfoldable pub by : CardMove → Card
by card i b = moved_by card (stations b) (islands b) (i - 1) (station_at i b) b

-- what the listing does
unfoldable pub listing : CardMove
listing n K s own regs = move figures n K s (regs (place_column own s))

-- the listing, but for how a collect ends
unfoldable pub ending : ((K : ℕ) → Turn → (c : ℕ) (x : Figure) → Seen Figure → Move Figure) → CardMove
ending last n K (writing t c x) own regs = listing n K (writing t c x) own regs
ending last n K (reading t c x p a) own regs =
    cond (ltb (p + 1) n) (listing n K (reading t c x p a) own regs) (last K t c x (see figures t a (regs p)))
ending last n K (has_decided c x) own regs = listing n K (has_decided c x) own regs
ending last n K (is_spent c x) own regs = listing n K (is_spent c x) own regs

-- ---- "Try a card that .."

-- "refuses every call"
unfoldable pub refuses_all : Card
refuses_all i b = record { answer = refusal 12; bytes = b }

-- "leaves the board idle"
unfoldable pub leaves_idle : Card
leaves_idle i b = record { answer = (step i b).answer; bytes = b }

-- "decides 0 always"
unfoldable pub zero_at : (K : ℕ) → Turn → (c : ℕ) (x : Figure) → Seen Figure → Move Figure
zero_at K turn_m c x a = ended K turn_m c x a
zero_at K turn_a c x a = ended K turn_a c x a
zero_at K (turn_b f) c x nothing = ended K (turn_b f) c x nothing
zero_at K (turn_b f) c x (seen first k y) = finish K (turn_b f) c first k y
zero_at K (turn_b f) c x (seen second k y) = stay (has_decided c (pos 0)) (decided c (pos 0))
zero_at K (turn_b f) c x (seen third k y) = finish K (turn_b f) c third k y

-- the registers below q, read at once
unfoldable pub see_all : (q : ℕ) → Turn → (ℕ → Register Figure) → Seen Figure
see_all zero t regs = nothing
see_all (suc q) t regs = see figures t (see_all q t regs) (regs q)

-- "does a whole collect at its first read and idles through the others"
unfoldable pub whole_at_first : CardMove
whole_at_first n K (writing t c x) own regs = listing n K (writing t c x) own regs
whole_at_first n K (reading t c x zero a) own regs =
    cond (ltb 1 n) (stay (reading t c x 1 (see_all n t regs)) read) (ended K t c x (see_all n t regs))
whole_at_first n K (reading t c x (suc p) a) own regs =
    cond (ltb (p + 2) n) (stay (reading t c x (p + 2) a) read) (ended K t c x a)
whole_at_first n K (has_decided c x) own regs = listing n K (has_decided c x) own regs
whole_at_first n K (is_spent c x) own regs = listing n K (is_spent c x) own regs

-- "says *spent* .. early"
unfoldable pub spent_at : (K : ℕ) → Turn → (c : ℕ) (x : Figure) → Seen Figure → Move Figure
spent_at K turn_m c x a = ended K turn_m c x a
spent_at K turn_a c x a = ended K turn_a c x a
spent_at K (turn_b f) c x nothing = ended K (turn_b f) c x nothing
spent_at K (turn_b f) c x (seen first k y) = stay (is_spent c y) (spent c y)
spent_at K (turn_b f) c x (seen second k y) = finish K (turn_b f) c second k y
spent_at K (turn_b f) c x (seen third k y) = stay (is_spent c y) (spent c y)

-- ---- "Shortcuts the algorithm forbids"

-- "Reading a whole collect in one step."
unfoldable pub whole_in_one : CardMove
whole_in_one n K (writing t c x) own regs = listing n K (writing t c x) own regs
whole_in_one n K (reading t c x p a) own regs = ended K t c x (see_all n t regs)
whole_in_one n K (has_decided c x) own regs = listing n K (has_decided c x) own regs
whole_in_one n K (is_spent c x) own regs = listing n K (is_spent c x) own regs

-- "Keeping the old figure after an adopt."
unfoldable pub old_at : (K : ℕ) → Turn → (c : ℕ) (x : Figure) → Seen Figure → Move Figure
old_at K turn_m c x a = ended K turn_m c x a
old_at K turn_a c x a = ended K turn_a c x a
old_at K (turn_b f) c x nothing = ended K (turn_b f) c x nothing
old_at K (turn_b f) c x (seen first k y) = finish K (turn_b f) c first k x
old_at K (turn_b f) c x (seen second k y) = finish K (turn_b f) c second k y
old_at K (turn_b f) c x (seen third k y) = finish K (turn_b f) c third k x

-- "Writing to A of the station's own c and not of the island that m gave."
unfoldable pub own_island_at : (K : ℕ) → Turn → (c : ℕ) (x : Figure) → Seen Figure → Move Figure
own_island_at K turn_m c x nothing = ended K turn_m c x nothing
own_island_at K turn_m c x (seen g k y) = stay (writing turn_a c y) (went k y)
own_island_at K turn_a c x a = ended K turn_a c x a
own_island_at K (turn_b f) c x a = ended K (turn_b f) c x a

-- "Testing "all seen are equal" with empty registers counted"
unfoldable pub counted : Seen Figure → Register Figure → Seen Figure
counted nothing empty = nothing
counted (seen g k y) empty = seen second k y
counted a (filled f k y) = see figures turn_a a (filled f k y)

unfoldable pub empties_counted : CardMove
empties_counted n K (writing t c x) own regs = listing n K (writing t c x) own regs
empties_counted n K (reading turn_m c x p a) own regs = listing n K (reading turn_m c x p a) own regs
empties_counted n K (reading turn_a c x p a) own regs =
    cond (ltb (p + 1) n) (stay (reading turn_a c x (p + 1) (counted a (regs p))) read)
    (ended K turn_a c x (counted a (regs p)))
empties_counted n K (reading (turn_b f) c x p a) own regs = listing n K (reading (turn_b f) c x p a) own regs
empties_counted n K (has_decided c x) own regs = listing n K (has_decided c x) own regs
empties_counted n K (is_spent c x) own regs = listing n K (is_spent c x) own regs

-- "or as only "own equals largest""
unfoldable pub own_largest_at : (K : ℕ) → Turn → (c : ℕ) (x : Figure) → Seen Figure → Move Figure
own_largest_at K turn_m c x a = ended K turn_m c x a
own_largest_at K turn_a c x nothing = ended K turn_a c x nothing
own_largest_at K turn_a c x (seen g k y) = finish K turn_a c (cond (figures.same x y) first second) k y
own_largest_at K (turn_b f) c x a = ended K (turn_b f) c x a

-- "Returning commit when a commit is merely present in B."
unfoldable pub present_at : (K : ℕ) → Turn → (c : ℕ) (x : Figure) → Seen Figure → Move Figure
present_at K turn_m c x a = ended K turn_m c x a
present_at K turn_a c x a = ended K turn_a c x a
present_at K (turn_b f) c x nothing = ended K (turn_b f) c x nothing
present_at K (turn_b f) c x (seen first k y) = finish K (turn_b f) c first k y
present_at K (turn_b f) c x (seen second k y) = finish K (turn_b f) c second k y
present_at K (turn_b f) c x (seen third k y) = finish K (turn_b f) c second k y

-- ---- the table

-- the proposals of stations i, i + 1, .. in turn
unfoldable pub propose_from : (i : ℕ) → List Figure → List ℕ → List ℕ
propose_from i [] b = b
propose_from i (v ∷ vs) b = propose_from (suc i) vs (propose i v b).bytes

-- the board after single steps, from a fresh one on which the stations 1, 2, .. proposed
unfoldable pub board_after : (n K : ℕ) → List Figure → (is : List ℕ) → List ℕ
board_after n K vs is = after step (propose_from 1 vs (lay n K (replicate (board_length n K) 0)).bytes) is

pub record Row : Type 0 where
  pub card : Card
  pub station : ℕ
  pub board : List ℕ

unfoldable pub rows : List Row
rows =
    record { card = refuses_all; station = 1; board = board_after 1 2 (pos 9 ∷ []) [] }
    ∷ record { card = leaves_idle; station = 1; board = board_after 1 2 (pos 9 ∷ []) [] }
    -- the sixth step of a station alone decides
    ∷ record { card = by (ending zero_at); station = 1; board = board_after 1 2 (pos 9 ∷ []) (replicate 5 1) }
    -- both have written m, and station 1 reads its own register first
    ∷ record { card = by whole_at_first; station = 1; board = board_after 3 2 (pos 3 ∷ pos 7 ∷ []) (1 ∷ 2 ∷ []) }
    ∷ record { card = by whole_in_one; station = 1; board = board_after 3 2 (pos 3 ∷ pos 7 ∷ []) (1 ∷ 2 ∷ []) }
    -- station 2 has written a commit of 3 to B, and reads it beside an adopt of 7
    ∷ record { card = by (ending spent_at); station = 2; board = board_after 3 2 (pos 7 ∷ pos 3 ∷ []) beside_adopt }
    ∷ record { card = by (ending present_at); station = 2; board = board_after 3 2 (pos 7 ∷ pos 3 ∷ []) beside_adopt }
    -- station 1 has decided 4, and station 2 with 15 meets its commit in B
    ∷ record {
      card = by (ending old_at);
      station = 2;
      board = board_after 3 2 (pos 4 ∷ pos 15 ∷ []) (replicate 12 1 ++ replicate 11 2);
    }
    -- and then has written m on island 1, where station 3 finds it
    ∷ record {
      card = by (ending own_island_at);
      station = 3;
      board = board_after 3 2 (pos 4 ∷ pos 15 ∷ pos 5 ∷ []) (replicate 12 1 ++ replicate 13 2 ++ replicate 3 3);
    }
    -- station 1 alone reads a register of A that nobody has written
    ∷ record { card = by empties_counted; station = 1; board = board_after 3 2 (pos 7 ∷ pos 3 ∷ []) (replicate 6 1) }
    -- station 1 with 7 reads 3 beside it in A
    ∷ record {
      card = by (ending own_largest_at);
      station = 1;
      board = board_after 3 2 (pos 7 ∷ pos 3 ∷ []) (replicate 4 2 ++ replicate 4 1 ++ (2 ∷ 1 ∷ 1 ∷ 1 ∷ []));
    }
    ∷ []
  where
    beside_adopt : List ℕ
    beside_adopt = replicate 4 2 ++ replicate 4 1 ++ replicate 4 2 ++ replicate 8 1 ++ replicate 3 2

unfoldable pub AllDiffer : List Row → Type 0
AllDiffer [] = Unit {0}
AllDiffer (r ∷ rs) = (r.card r.station r.board ≡ step r.station r.board → ⊥) × AllDiffer rs

-- "prints any S and T": one step that is taken is not counted as none
unfoldable pub ShutOut : Type 0
ShutOut = AllDiffer rows × ((run (1 ∷ []) (board_after 1 2 (pos 9 ∷ []) [])).answer ≡ ran 0 0 → ⊥)
