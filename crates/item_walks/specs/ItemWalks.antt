-- Items gone over as they stand in a line: what is asked of the place, and what has been done at their end, for any
-- predicate `Done` of single steps, "what has been done is what these steps do".
-- Relies on the model's readers of items; the contracts of the run and of the tape of items rely on it.
use Rattle.std.specs.Prelude.{◌≡◌, List, ℕ, ◌≤◌, ◌<◌, length, drop}
use Rattle.std.proofs.Math.Option.{Option}
use Rattle.model.specs.Forms.{Read, found, expand_item, expand, item_in, items_in}

-- the steps `is` of a part of a line are done: it began at `at`, and `rest` follows it from `next` on
pub record RanPart (Done : List ℕ → Type 0) (line : List ℕ) (at : ℕ) (is rest : List ℕ) (next : ℕ) : Type 0 where
  pub ran : Done is
  pub follows : drop next line ≡ rest
  pub behind : at < next
  pub inside : next ≤ length line

-- an item, or a list of them, by its reader
module _ {A : Type 0} (reader : ℕ → List ℕ → Option (Read A)) where
  -- it stands at `at` in the line
  pub record Readable (line : List ℕ) (at : ℕ) : Type 0 where
    pub fuel : ℕ
    pub value : A
    pub rest : List ℕ
    pub read : reader fuel (drop at line) ≡ found value rest

  -- and the steps that it expands to are done, whatever the fuel with which it is read
  unfoldable pub PartDone : (steps : A → List ℕ) (Done : List ℕ → Type 0) (line : List ℕ) (at next : ℕ) → Type 0
  PartDone steps Done line at next =
      (fuel : ℕ) (a : A) (rest : List ℕ) → reader fuel (drop at line) ≡ found a rest
      → RanPart Done line at (steps a) rest next

abbrev pub ItemReads : List ℕ → ℕ → Type 0
ItemReads = Readable item_in

abbrev pub ItemsRead : List ℕ → ℕ → Type 0
ItemsRead = Readable items_in

abbrev pub ItemDone : (Done : List ℕ → Type 0) (line : List ℕ) (at next : ℕ) → Type 0
ItemDone = PartDone item_in expand_item

abbrev pub ItemsDone : (Done : List ℕ → Type 0) (line : List ℕ) (at next : ℕ) → Type 0
ItemsDone = PartDone items_in expand
