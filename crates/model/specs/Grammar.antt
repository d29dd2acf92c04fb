-- 01's grammar as a writer of forms, and the claims that the reader of Forms reads it and nothing else.
-- Relies on the forms, texts and numbers; proofs/Sheet/Written.antt and proofs/Sheet/WrittenBack.antt prove the claims.
use Rattle.std.specs.Prelude.{List, [], ◌∷◌, ◌++◌, ℕ, ◌≤◌, length, ◌≡◌}
use Rattle.std.proofs.Math.Option.{some}
use Rattle.std.specs.Int.{w32}
use Rattle.std.proofs.Common.{SFits}
use Rattle.model.specs.Bytes.{Each}
use Rattle.model.specs.Show.{text, decimal, signed}
use Rattle.model.specs.Forms.{Item, station, times, Items, done, next, Form, board, propose, steps, show, rounds}
use Rattle.model.specs.Forms.{proposals, form_in}
use Rattle.model.specs.Proposals.{Proposal}

-- "An item is a station number or `(times k item ..)`", and each item stands behind a space
unfoldable mutual
  pub written_item : Item → List ℕ
  written_item (station i) = decimal i
  written_item (times k is) = text "(times " ++ (decimal k ++ (written_items is ++ text ")"))

  pub written_items : Items → List ℕ
  written_items done = []
  written_items (next i is) = text " " ++ (written_item i ++ written_items is)

-- things of one kind, each behind a space
unfoldable pub written_list : {A : Type 0} → (A → List ℕ) → List A → List ℕ
written_list write [] = []
written_list write (x ∷ xs) = text " " ++ (write x ++ written_list write xs)

-- a round in brackets: "(2)", "()"
unfoldable pub written_round : List ℕ → List ℕ
written_round [] = text "()"
written_round (i ∷ is) = text "(" ++ (decimal i ++ (written_list decimal is ++ text ")"))

-- a pair in brackets: "(1 -40)"
unfoldable pub written_pair : Proposal → List ℕ
written_pair p = text "(" ++ (decimal p.station ++ (text " " ++ (signed p.figure ++ text ")")))

-- "`(board n K)`", "`(propose i v)`", "`(steps item ..)`, perhaps with no item", "`(show)`", and 02's
-- "`(rounds k (2) () ..)`" and "`(propose (1 -40) (2 15))`"
unfoldable pub written : Form → List ℕ
written (board n K) = text "(board " ++ (decimal n ++ (text " " ++ (decimal K ++ text ")")))
written (propose i v) = text "(propose " ++ (decimal i ++ (text " " ++ (signed v ++ text ")")))
written (steps is) = text "(steps" ++ (written_items is ++ text ")")
written show = text "(show)"
written (rounds k rs) = text "(rounds " ++ (decimal k ++ (written_list written_round rs ++ text ")"))
written (proposals ps) = text "(propose" ++ (written_list written_pair ps ++ text ")")

-- "at least one item"
unfoldable pub AtLeastOne : Items → Type 0
AtLeastOne done = ⊥
AtLeastOne (next i is) = Unit {0}

-- "stations are 0 to 99"; "which holds at least one item again, k from 1 to 99,999"
unfoldable mutual
  pub ItemInRange : Item → Type 0
  ItemInRange (station i) = i ≤ 99
  ItemInRange (times k is) = (1 ≤ k) × (k ≤ 99999) × AtLeastOne is × ItemsInRange is

  pub ItemsInRange : Items → Type 0
  ItemsInRange done = Unit {0}
  ItemsInRange (next i is) = ItemInRange i × ItemsInRange is

unfoldable pub PairInRange : Proposal → Type 0
PairInRange p = (p.station ≤ 99) × SFits w32 p.figure

-- "n, K and stations are 0 to 99"; "A figure is a signed 32-bit whole number; its full width is allowed."; "at least
-- one pair"
unfoldable pub InRange : Form → Type 0
InRange (board n K) = (n ≤ 99) × (K ≤ 99)
InRange (propose i v) = (i ≤ 99) × SFits w32 v
InRange (steps is) = ItemsInRange is
InRange show = Unit {0}
InRange (rounds k rs) = (k ≤ 99) × Each (Each (λ i. i ≤ 99)) rs
InRange (proposals ps) = (1 ≤ length ps) × Each PairInRange ps

-- The reader finds in a written form that form ..
unfoldable pub ReadsWritten : Type 0
ReadsWritten = (f : Form) → InRange f → form_in (written f) ≡ some f

-- .. and takes nothing for a form but what the grammar writes for it, in its ranges.
unfoldable pub WrittenReads : Type 0
WrittenReads = (l : List ℕ) (f : Form) → form_in l ≡ some f → (l ≡ written f) × InRange f
