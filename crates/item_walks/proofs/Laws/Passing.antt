-- A list of items gone over one after another: what has been done at each place where the next item begins.
-- Relies on Items; the crates that go over items rely on it.
use Rattle.model.proofs.Kit.{◌≡◌, refl, sym, ap, subst, ◌∙◌, Bool, true, false, cond, List, [], ◌++◌, append_assoc}
use Rattle.model.proofs.Kit.{append-nil, none, ℕ, zero, suc, ◌+◌, ◌-◌, ◌≤◌, ◌<◌, ne_eqb, eqb, length, drop, get_or, arith}
use Rattle.model.specs.Forms.{Items, done, next, expand_item, expand, found, and_then, spaced, item_in, items_in}
use Rattle.model.proofs.Basics.Tests.{never}
use Rattle.lexer.proofs.Laws.Given.{found_one, Through, through}
use Rattle.lexer.proofs.Laws.Places.{first_byte, behind_first}
use Rattle.item_walks.specs.ItemWalks.{RanPart, PartDone, ItemReads, ItemsRead, ItemDone, ItemsDone}
use Rattle.item_walks.proofs.Laws.Items.{items_inside, same_items}

-- ---- what is read at a place, by its byte

-- an item behind a space, and the items behind it
pub record NextRead (line : List ℕ) (place : ℕ) (left : Items) (rest : List ℕ) : Type 0 where
  pub item : ItemReads line (place + 1)
  pub fuel : ℕ
  pub items : Items
  pub reads_items : items_in fuel item.rest ≡ found items rest
  pub all : next item.value items ≡ left

module _ (line : List ℕ) (place : ℕ) where
  pub next_read : get_or line place 0 ≡ 32 → (k : ℕ) (left : Items) (rest : List ℕ)
      → items_in k (drop place line) ≡ found left rest
      → NextRead line place left rest
  unfolding items_in spaced found
  next_read space zero left rest e = never _ e
  next_read space (suc k) left rest e =
      let q = rw (first_byte line place, space, behind_first line place) at e in
      let t : Through (item_in k (drop (place + 1) line))
      (λ i more. and_then (items_in k more) λ is rest. found (next i is) rest)
      (record { value = left; rest = rest }) = through _ _ _ q in
      let u : Through (items_in k t.rest) (λ is rest. found (next t.value is) rest)
      (record { value = left; rest = rest }) =
      through _ _ _ t.goes in
      let same : (next t.value u.value ≡ left) × (u.rest ≡ rest) = found_one _ left _ rest u.goes in
      record {
        item = record { fuel = k; value = t.value; rest = t.rest; read = t.read };
        fuel = k;
        items = u.value;
        reads_items = u.read ∙ ap (found u.value) same.1;
        all = same.0;
      }

  -- at any other byte the list ends
  pub last_read : (get_or line place 0 ≡ 32 → ⊥) → (k : ℕ) (left : Items) (rest : List ℕ)
      → items_in k (drop place line) ≡ found left rest
      → (done ≡ left) × (drop (place + 1) line ≡ rest)
  unfolding items_in spaced found and_then
  last_read no_space zero left rest e = never _ e
  last_read no_space (suc k) left rest e =
      by (eqb (get_or line place 0) 41)
      (rw (first_byte line place, ne_eqb (get_or line place 0) 32 no_space, behind_first line place) at e)
    where
      by : (t : Bool) → cond t (found done (drop (place + 1) line)) none ≡ found left rest
          → (done ≡ left) × (drop (place + 1) line ≡ rest)
      by true q = found_one done left (drop (place + 1) line) rest q
      by false q = never _ q

-- ---- the list

-- the steps `steps` of the list that stands at `at` are done, and the items from `place` on are still to do
pub record Passed (Done : List ℕ → Type 0) (line : List ℕ) (at place : ℕ) : Type 0 where
  pub there : ItemsRead line at
  pub left : ItemsRead line place
  pub ends : left.rest ≡ there.rest
  pub steps : List ℕ
  pub all : steps ++ expand left.value ≡ expand there.value
  pub ran : Done steps
  pub behind : at ≤ place

pub passed_begin : (Done : List ℕ → Type 0) (line : List ℕ) (at : ℕ) → ItemsRead line at → Done []
    → Passed Done line at at
passed_begin Done line at reads none-ran =
    record { there = reads; left = reads; ends = refl; steps = []; all = refl; ran = none-ran; behind = omega arith }

module _ (Done : List ℕ → Type 0) (line : List ℕ) (at place : ℕ) (passed : Passed Done line at place) where
  pub passed_inside : place < length line
  passed_inside = items_inside line place passed.left

  pub next_behind : at < place + 1
  next_behind = omega (arith, passed.behind)

  pub at_inside : at < length line
  at_inside = omega (arith, passed.behind, passed_inside)

  pub passed_end : (get_or line place 0 ≡ 32 → ⊥) → ItemsDone Done line at (place + 1)
  unfolding PartDone expand
  passed_end no_space fuel a rest q =
      let last = last_read line place no_space _ _ _ passed.left.read in
      let same = same_items line at passed.there (record { fuel = fuel; value = a; rest = rest; read = q }) in
      let all : passed.steps ≡ expand a =
      sym (append-nil passed.steps) ∙ ap (λ (x : Items). passed.steps ++ expand x) last.0 ∙ passed.all
      ∙ ap expand same.0 in
      record {
        ran = subst Done all passed.ran;
        follows = last.1 ∙ passed.ends ∙ same.1;
        behind = omega (arith, passed.behind);
        inside = omega (arith, passed_inside);
      }

  module _ (space : get_or line place 0 ≡ 32) where
    pub item : NextRead line place passed.left.value passed.left.rest
    item = next_read line place space _ _ _ passed.left.read

    pub item_reads : ItemReads line (place + 1)
    item_reads = item.item

    -- the steps up to the end of the item, and those behind it
    pub item_steps : (passed.steps ++ expand_item item.item.value) ++ expand item.items
        ≡ expand passed.there.value
    unfolding expand
    item_steps =
        append_assoc passed.steps (expand_item item.item.value) (expand item.items)
        ∙ ap (λ (x : Items). passed.steps ++ expand x) item.all ∙ passed.all

    module _ (Ran : List ℕ → Type 0) (after : ℕ) (runs : ItemDone Ran line (place + 1) after) where
      this : RanPart Ran line (place + 1) (expand_item item.item.value) item.item.rest after
      unfolding PartDone
      this = runs _ _ _ item.item.read

      pub passed_less : length line - after < length line - place
      passed_less = omega (arith, this.behind, passed_inside)

      -- the item that `Ran` tells of, behind those that `Done` tells of, makes what `After` tells of
      pub passed_more : (After : List ℕ → Type 0) → ((xs ys : List ℕ) → Done xs → Ran ys → After (xs ++ ys))
          → Passed After line at after
      passed_more After grow = record {
        there = passed.there;
        left = record {
          fuel = item.fuel;
          value = item.items;
          rest = passed.left.rest;
          read = ap (items_in item.fuel) this.follows ∙ item.reads_items;
        };
        ends = passed.ends;
        steps = passed.steps ++ expand_item item.item.value;
        all = item_steps;
        ran = grow _ _ passed.ran this.ran;
        behind = omega (arith, passed.behind, this.behind);
      }
