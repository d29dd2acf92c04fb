-- An item that repeats items, as it stands in a line: what has been done after some of its repeats, and which of them
-- are passed over because they would do nothing.
-- Relies on Items and on the laws of a known number; the crates that go over items rely on it.
use Rattle.model.proofs.Kit.{◌≡◌, sym, ap, subst, ◌∙◌, subst₂, List, [], ◌++◌, append_assoc}
use Rattle.model.proofs.Kit.{append-nil}
use Rattle.model.proofs.Kit.{some, ℕ, zero, suc, ◌+◌, ◌-◌, ◌≤◌, ◌<◌, length, drop, get_or, zero-add, arith}
use native.Mathlib.Nat.{suc-add}
use Rattle.model.specs.Forms.{Item, times, Items, repeated, expand_item, expand, Read, found, and_then, number_in, times_in}
use Rattle.model.specs.Forms.{item_in, items_in}
use Rattle.model.proofs.Basics.Tests.{never}
use Rattle.lexer.specs.declared.At.{At}
use Rattle.lexer.specs.Known.{NumberStands, KnownIs}
use Rattle.lexer.proofs.Laws.Given.{found_one, Through, through}
use Rattle.lexer.proofs.Laws.Known.{stands_there, known_found, known_range}
use Rattle.item_reader.proofs.Laws.Items.{as_times}
use Rattle.item_reader.proofs.Laws.Times.{times_number}
use Rattle.item_walks.specs.ItemWalks.{RanPart, PartDone, ItemReads, ItemsRead, ItemDone, ItemsDone}
use Rattle.item_walks.proofs.Laws.Items.{same_items, begins}

pub repeated_join : (i j : ℕ) (l : List ℕ) → repeated i l ++ repeated j l ≡ repeated (i + j) l
unfolding repeated
repeated_join zero j l = ap (λ (n : ℕ). repeated n l) (sym (zero-add j))
repeated_join (suc i) j l =
    append_assoc l (repeated i l) (repeated j l) ∙ ap (λ (x : List ℕ). l ++ x) (repeated_join i j l)
    ∙ ap (λ (n : ℕ). repeated n l) (sym (suc-add i j))

-- ---- one repeat after another

-- after i of k repeats over the items at `inner`
pub record Repeats (Done : List ℕ → Type 0) (line : List ℕ) (k inner after i : ℕ) : Type 0 where
  pub there : ItemsRead line inner
  pub ran : Done (repeated i (expand there.value))
  pub most : i ≤ k
  pub ended : 1 ≤ i → (drop after line ≡ there.rest) × (inner < after) × (after ≤ length line)

-- the repeat that `Ran` tells of, behind those that `Done` tells of, makes what `After` tells of
module _ (Done Ran After : List ℕ → Type 0) (grow : (xs ys : List ℕ) → Done xs → Ran ys → After (xs ++ ys))
    (line : List ℕ) (k inner after i : ℕ) (repeats : Repeats Done line k inner after i) (more : i < k)
    (next : ℕ) (runs : ItemsDone Ran line inner next) where
  this : RanPart Ran line inner (expand repeats.there.value) repeats.there.rest next
  unfolding PartDone
  this = runs _ _ _ repeats.there.read

  -- so does any number of repeats that have the same effect
  grown : (j : ℕ) → i ≤ j → j ≤ k → Ran (repeated (j - i) (expand repeats.there.value))
      → Repeats After line k inner next j
  grown j l h ran = record {
    there = repeats.there;
    ran =
        subst After (repeated_join i (j - i) (expand repeats.there.value)
        ∙ ap (λ (n : ℕ). repeated n (expand repeats.there.value)) all)
        (grow _ _ repeats.ran ran);
    most = h;
    ended = λ p. (this.follows, this.behind, this.inside);
  }
    where
      all : i + (j - i) ≡ j
      all = omega arith

  pub repeat_more : Repeats After line k inner next (i + 1)
  unfolding repeated
  repeat_more = grown (i + 1) (omega arith) (omega arith) (subst Ran once this.ran)
    where
      one : suc zero ≡ i + 1 - i
      one = omega arith

      once : expand repeats.there.value ≡ repeated (i + 1 - i) (expand repeats.there.value)
      once = sym (append-nil _) ∙ ap (λ (n : ℕ). repeated n (expand repeats.there.value)) one

  -- where every further repeat would do nothing, those left are passed over
  pub repeats_idle : ((xs : List ℕ) → Ran xs → (j : ℕ) → Ran (repeated j xs)) → Repeats After line k inner next k
  repeats_idle again = grown k (omega arith) (omega arith) (again _ this.ran (k - i))

-- ---- the item as it stands

module _ (line : List ℕ) (at : ℕ) (bracket : get_or line at 0 ≡ 40) (reads : ItemReads line at) where
  times_read : (r : Read ℕ) × (times_in (drop at line) ≡ some r)
  times_read = begins line at reads (times_in (drop at line)) _ (as_times line at bracket)

  repeats_read : (number_in 1 99999 (drop (at + 7) line) ≡ some times_read.0) × (at + 7 ≤ length line)
  repeats_read = times_number line at times_read.0 times_read.1

  pub repeats_stand : NumberStands line (at + 7)
  repeats_stand = stands_there line (at + 7) 1 99999 (omega arith) times_read.0 repeats_read.0

  module _ (n : At ℕ) (is : KnownIs line (at + 7) n) where
    times_found : times_in (drop at line) ≡ found n.value (drop n.next line)
    times_found =
        times_read.1 ∙ sym repeats_read.0
        ∙ known_found line (at + 7) 1 99999 (omega arith) times_read.0 repeats_read.0 n is

    reads_inner : (fuel : ℕ)
        → item_in (suc fuel) (drop at line)
        ≡ and_then (items_in fuel (drop n.next line)) λ items rest. found (times n.value items) rest
    unfolding and_then found
    reads_inner fuel = as_times line at bracket fuel ∙ rw times_found

    -- what the item is, by the items that it repeats
    inner_of : (fuel : ℕ) (a : Item) (rest : List ℕ) → item_in fuel (drop at line) ≡ found a rest
        → (r : ItemsRead line n.next) × (times n.value r.value ≡ a) × (r.rest ≡ rest)
    unfolding item_in found
    inner_of zero a rest q = never _ q
    inner_of (suc fuel) a rest q =
        let t : Through (items_in fuel (drop n.next line)) (λ items rest. found (times n.value items) rest)
        (record { value = a; rest = rest }) =
        through _ _ _ (sym (reads_inner fuel) ∙ q) in
        let same : (times n.value t.value ≡ a) × (t.rest ≡ rest) =
        found_one (times n.value t.value) a t.rest rest t.goes in
        (record { fuel = fuel; value = t.value; rest = t.rest; read = t.read }, same.0, same.1)

    pub times_behind : at < n.next
    times_behind = omega (arith, is.inside.0)

    some_repeats : 1 ≤ n.value
    some_repeats = (known_range line (at + 7) 1 99999 (omega arith) times_read.0 repeats_read.0 n is).0

    -- the steps of the item, whoever read its items
    pub times_steps : (inner : ItemsRead line n.next)
        → repeated n.value (expand inner.value) ≡ expand_item reads.value
    unfolding expand_item
    times_steps inner =
        let t = inner_of reads.fuel reads.value reads.rest reads.read in
        ap (λ (x : Items). expand_item (times n.value x)) (same_items line n.next inner t.0).0
        ∙ ap expand_item t.1

    module _ (Done : List ℕ → Type 0) where
      pub repeats_begin : Done [] → Repeats Done line n.value n.next n.next 0
      unfolding repeated
      repeats_begin none-ran = record {
        there = (inner_of reads.fuel reads.value reads.rest reads.read).0;
        ran = none-ran;
        most = omega arith;
        ended = λ l. absurd (omega arith);
      }

      pub repeats_end : (after i : ℕ) → Repeats Done line n.value n.next after i → n.value ≤ i
          → ItemDone Done line at after
      unfolding PartDone expand_item
      repeats_end after i repeats l fuel a rest q =
          let t = inner_of fuel a rest q in
          let same = same_items line n.next repeats.there t.0 in
          let all : i ≡ n.value = omega (arith, repeats.most) in
          let last = repeats.ended (omega (arith, some_repeats)) in
          record {
            ran =
                subst (λ (x : Item). Done (expand_item x)) t.1
                (subst₂ (λ (j : ℕ) (x : Items). Done (repeated j (expand x))) all same.0 repeats.ran);
            follows = last.0 ∙ same.1 ∙ t.2;
            behind = omega (arith, times_behind, last.1);
            inside = last.2;
          }

      -- all of them at once
      pub repeats_whole : (after : ℕ) → Repeats Done line n.value n.next after n.value → ItemDone Done line at after
      repeats_whole after repeats = repeats_end after n.value repeats (omega arith)
