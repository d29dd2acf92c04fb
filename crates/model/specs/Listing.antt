-- The paper's two algorithms, one access to one register at a time, on values; line numbers are those of the listing in
-- source 001. Knows nothing of bytes, and of figures only a test of equality and one of order.
-- The layout, soundness and the calls rely on it, and all of demand 3.
use Rattle.std.specs.Prelude.{Bool, true, false, cond, ◌&&◌, ◌||◌, ℕ, zero, suc, ◌+◌, eqb, ltb}
use Rattle.std.proofs.Math.Option.{Option, none, some}

-- What the listing asks of figures: whether two are the same, and whether the first is above the second.
pub record Order (F : Type 0) : Type 0 where
  pub same : F → F → Bool
  pub above : F → F → Bool

-- "5 flag to write, 1 adopt or 2 commit"
pub data Flag : Type 0 where
  adopt commit : Flag

unfoldable pub flag_number : Flag → ℕ
flag_number adopt = 1
flag_number commit = 2

-- and the flag of a number
unfoldable pub flag_of : ℕ → Flag
flag_of zero = adopt
flag_of (suc zero) = adopt
flag_of (suc (suc k)) = commit

-- "A register has 8 bytes: mark, island, two zeros, figure." A mark is 1 or 2: in B the flag, in m and A always 1.
pub data Register (F : Type 0) : Type 0 where
  empty : Register F
  filled : (mark : Flag) (island : ℕ) (figure : F) → Register F

-- "1 write m, 2 read m, 3 write A, 4 read A, 5 write B, 6 read B": a pass of the loop has three turns, each a write and
-- then a collect of one array, the paper's steps R, A and B.
pub data Turn : Type 0 where
  turn_m turn_a : Turn
  turn_b : Flag → Turn

-- The three values of "seen" other than 0. "Seen in phase 2: 0 nothing, 1 something. In 4: 0 nothing, 1 one figure
-- only, 2 different figures. In 6: 0 nothing, 1 adopts only, 2 commits of one figure only, 3 a commit beside an adopt
-- or a commit of another figure."
pub data Grade : Type 0 where
  first second third : Grade

-- What a collect has seen so far: nothing, or a grade with the "best island" and the "best figure".
pub data Seen (F : Type 0) : Type 0 where
  nothing : Seen F
  seen : Grade → (island : ℕ) (figure : F) → Seen F

-- Where a station stands: phases 1 to 8 of its record. c is "island c", x the "carried figure", p the "next position to
-- read".
pub data Stage (F : Type 0) : Type 0 where
  writing : Turn → (c : ℕ) (x : F) → Stage F
  reading : Turn → (c : ℕ) (x : F) (p : ℕ) → Seen F → Stage F
  has_decided is_spent : (c : ℕ) (x : F) → Stage F

-- A station's record, "0 idle" or with its "proposal" v; the field's term is the local state of a process.
pub data Station (F : Type 0) : Type 0 where
  idle : Station F
  active : (v : F) → Stage F → Station F

-- "It answers with its kind and fields". A flag is given by its number, so that a contract fixes that number.
pub data Answer (F : Type 0) : Type 0 where
  wrote read : Answer F
  went : (c : ℕ) (x : F) → Answer F
  marked : (flag : ℕ) (x : F) → Answer F
  adopted decided spent : (c : ℕ) (x : F) → Answer F
  refused : (number : ℕ) → Answer F

-- What an answer says of the step: the station goes on, or has come to its end by it, or the step was refused.
pub data Outcome : Type 0 where
  goes_on comes_to_end is_refused : Outcome

-- "Each step moves one station on by a single register": where the station stands afterwards, what it wrote, if
-- anything, and the answer.
pub record Move (F : Type 0) : Type 0 where
  pub stage : Stage F
  pub written : Option (Register F)
  pub answer : Answer F

-- The arrays of registers, each with one register per station: m, and "per island" A and B.
pub data Array : Type 0 where
  in_m : Array
  in_a in_b : (island : ℕ) → Array

-- "to its m", "to its A of island c", "to its B of island c": the array that a turn writes and then collects
unfoldable pub array : Turn → (c : ℕ) → Array
array turn_m c = in_m
array turn_a c = in_a c
array (turn_b f) c = in_b c

module _ {F : Type 0} where
  -- The "single register" that a stage touches next: an array, and there the station's own index i when it writes and
  -- the "next position to read" when it reads. A station that has ended touches none.
  unfoldable pub place_array : Stage F → Array
  place_array (writing t c x) = array t c
  place_array (reading t c x p a) = array t c
  place_array (has_decided c x) = in_m
  place_array (is_spent c x) = in_m

  unfoldable pub place_column : (i : ℕ) → Stage F → ℕ
  place_column i (writing t c x) = i
  place_column i (reading t c x p a) = p
  place_column i (has_decided c x) = i
  place_column i (is_spent c x) = i

  unfoldable pub outcome : Answer F → Outcome
  outcome wrote = goes_on
  outcome read = goes_on
  outcome (went c x) = goes_on
  outcome (marked f x) = goes_on
  outcome (adopted c x) = goes_on
  outcome (decided c x) = comes_to_end
  outcome (spent c x) = comes_to_end
  outcome (refused k) = is_refused

  -- "A refusal answers its number only": any other answer is that of a step taken.
  unfoldable pub accepted : Answer F → Bool
  accepted a = elim (outcome a) [ goes_on ↦ true | comes_to_end ↦ true | is_refused ↦ false ]

  -- "phase 1 writes (c, carried) to its m; 3 writes carried to its A of island c; 5 writes (flag, carried) to its B"
  unfoldable pub entry : Turn → ℕ → F → Register F
  entry turn_m c x = filled adopt c x
  entry turn_a c x = filled adopt 0 x
  entry (turn_b f) c x = filled f 0 x

  -- "A proposal sets an idle station to phase 1, c = 0, proposal and carried = the figure." (line 23)
  unfoldable pub proposed : F → Station F
  proposed v = active v (writing turn_m 0 v)

  -- a move that writes nothing
  unfoldable pub stay : Stage F → Answer F → Move F
  stay s a = record { stage = s; written = none; answer = a }

  -- "Otherwise it is adopt: below island K − 1, adopted (c + 1, figure), with that c and phase 1; at island K − 1,
  -- spent (c, figure)." (lines 13, 14, 28, 29)
  unfoldable pub onward : (K : ℕ) (c : ℕ) (x : F) → Move F
  onward K c x =
      cond (ltb (c + 1) K) (stay (writing turn_m (c + 1) x) (adopted (c + 1) x)) (stay (is_spent c x) (spent c x))

  -- The collect of m ends: "c and carried become the best pair" (lines 26, 27); the collect of A: "commit if seen is 1,
  -- else adopt; carried becomes best" (lines 7 to 9); the collect of B: "carried becomes best. Seen 2 gives decided"
  -- (lines 11, 12, 30).
  unfoldable pub finish : (K : ℕ) → Turn → (c : ℕ) → Grade → (k : ℕ) (y : F) → Move F
  finish K turn_m c g k y = stay (writing turn_a k y) (went k y)
  finish K turn_a c first k y = stay (writing (turn_b commit) c y) (marked (flag_number commit) y)
  finish K turn_a c second k y = stay (writing (turn_b adopt) c y) (marked (flag_number adopt) y)
  finish K turn_a c third k y = stay (writing (turn_b adopt) c y) (marked (flag_number adopt) y)
  finish K (turn_b f) c first k y = onward K c y
  finish K (turn_b f) c second k y = stay (has_decided c y) (decided c y)
  finish K (turn_b f) c third k y = onward K c y

  -- The end of a collect. One that ends with nothing seen does not happen on a sound board (`last_read_sees` in
  -- proofs/Listing/Collect.antt); here it ends as if the station's own pair had been all there was.
  unfoldable pub ended : (K : ℕ) → Turn → (c : ℕ) (x : F) → Seen F → Move F
  ended K t c x nothing = finish K t c third c x
  ended K t c x (seen g k y) = finish K t c g k y

  module _ (o : Order F) where
    -- "Best is the largest so far"
    unfoldable pub larger : F → F → F
    larger x y = cond (o.above y x) y x

    -- "Pairs (island, figure) compare by island, then by figure." The pair (k, y) is above (j, x). (lines 19, 20)
    unfoldable pub pair_above : ℕ → F → ℕ → F → Bool
    pair_above k y j x = ltb j k || (eqb j k && o.above y x)

    -- One filled register is added to what was seen. "Best is the largest so far; in phase 6 the first commit read
    -- displaces adopts and then stays." What a whole collect comes to by it, in the paper's own lines, is in Collects.
    unfoldable pub add : Turn → Seen F → Flag → ℕ → F → Seen F
    add turn_m nothing f k y = seen first k y
    add turn_m (seen g j x) f k y = cond (pair_above k y j x) (seen g k y) (seen g j x)
    add turn_a nothing f k y = seen first 0 y
    add turn_a (seen first j x) f k y = seen (cond (o.same x y) first second) j (larger x y)
    add turn_a (seen second j x) f k y = seen second j (larger x y)
    add turn_a (seen third j x) f k y = seen third j (larger x y)
    add (turn_b e) nothing adopt k y = seen first 0 y
    add (turn_b e) nothing commit k y = seen second 0 y
    add (turn_b e) (seen first j x) adopt k y = seen first j (larger x y)
    add (turn_b e) (seen first j x) commit k y = seen third j y
    add (turn_b e) (seen second j x) adopt k y = seen third j x
    add (turn_b e) (seen second j x) commit k y = seen (cond (o.same x y) second third) j x
    add (turn_b e) (seen third j x) f k y = seen third j x

    -- "Empty registers add nothing."
    unfoldable pub see : Turn → Seen F → Register F → Seen F
    see t a empty = a
    see t a (filled f k y) = add t a f k y

    -- One move of a station at stage s over the one register r that it reads. A write (lines 25, 5, 8, 9) does not look
    -- at r: "The next phase starts at position 0 with nothing seen." A read (lines 26, 6, 10) goes on, "positions in
    -- rising order", and the last one ends the collect. A station that has ended has no move: refusals 15 and 16.
    unfoldable pub move : (n K : ℕ) → Stage F → Register F → Move F
    move n K (writing t c x) r = record {
      stage = reading t c x 0 nothing;
      written = some (entry t c x);
      answer = wrote;
    }
    move n K (reading t c x p a) r =
        cond (ltb (p + 1) n) (stay (reading t c x (p + 1) (see t a r)) read) (ended K t c x (see t a r))
    move n K (has_decided c x) r = stay (has_decided c x) (refused 15)
    move n K (is_spent c x) r = stay (is_spent c x) (refused 16)
