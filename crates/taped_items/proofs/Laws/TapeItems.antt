-- Items taped as they stand in a line: steps taped behind steps, and a repeat that changes nothing.
-- Relies on the laws of items gone over and of steps taped one after another; the proofs of the crate and the
-- tape of a line rely on it.
use Rattle.model.proofs.Kit.{◌≡◌, refl, sym, ap, subst, ◌∙◌, true, T, ◌&&◌, List, [], ◌∷◌, ◌++◌, ℕ, ◌+◌}
use Rattle.model.proofs.Kit.{◌<◌, eqb, eqb→eq, length, drop, get_or}
use Rattle.model.specs.Forms.{Items, repeated, expand, found, items_in}
use Rattle.model.proofs.Basics.Tests.{true-T, and_l, and_r}
use Rattle.item_walks.specs.ItemWalks.{PartDone}
use Rattle.item_walks.proofs.Laws.Repeats as walks
use Rattle.item_walks.proofs.Laws.Repeats.{Repeats}
use Rattle.item_walks.proofs.Laws.Passing as passing
use Rattle.item_walks.proofs.Laws.Passing.{Passed}
use Rattle.lexer.specs.declared.At.{At}
use Rattle.taping.specs.declared.Taped.{Taped}
use Rattle.taping.specs.Taping.{Taping, taping, taped_one, taped_steps, Ready}
use Rattle.taping.proofs.Laws.Steps.{Kept, steps_kept_lem, steps_append, unchanged, repeated_unchanged}
use Rattle.taped_items.specs.TapedItems.{TapedFrom, part_taped, ItemTapes, ItemsTape}

-- ---- from a state to another

pub taped_none : (s : Taping) → TapedFrom s s []
unfolding TapedFrom taped_steps
taped_none s = refl

pub taped_one_lem : (i : ℕ) (s t : Taping) → t ≡ taped_one i s → TapedFrom s t (i ∷ [])
unfolding TapedFrom taped_steps
taped_one_lem i s t e = e

taped_then : (s t u : Taping) (xs ys : List ℕ) → TapedFrom s t xs → TapedFrom t u ys → TapedFrom s u (xs ++ ys)
unfolding TapedFrom
taped_then s t u xs ys h g = g ∙ ap (taped_steps ys) h ∙ sym (steps_append xs ys s)

module _ (s t : Taping) (is : List ℕ) (h : TapedFrom s t is) (ready : Ready s) where
  kept : Kept s t
  unfolding TapedFrom
  kept = subst (Kept s) (sym h) (steps_kept_lem is s ready)

  pub taped_ready : Ready t
  taped_ready = kept.ready

module _ (b out : List ℕ) (v : Taped) (d p : List ℕ) (w : Taped) (is : List ℕ)
    (h : TapedFrom (taping b out v) (taping d p w) is) (ready : Ready (taping b out v)) where
  pub taped_board : length d ≡ length b
  taped_board = (kept (taping b out v) (taping d p w) is h ready).board

  pub taped_out : length p ≡ length out
  taped_out = (kept (taping b out v) (taping d p w) is h ready).out

-- steps that leave as much to do as before change nothing, however often they are repeated
taped_again : (s t : Taping) → t.left ≡ s.left → t.room ≡ s.room
    → (is : List ℕ) → TapedFrom s t is → (j : ℕ) → TapedFrom s t (repeated j is)
unfolding TapedFrom
taped_again s t l r is h j =
    let still : taped_steps is s ≡ s =
    unchanged is s (ap (λ (x : Taping). x.left) (sym h) ∙ l) (ap (λ (x : Taping). x.room) (sym h) ∙ r) in
    h ∙ still ∙ sym (repeated_unchanged j is s still)

-- ---- the repeats of an item

-- what the test for equality says
same_todo : (v t : Taped) → true ≡ eqb v.left t.left && (eqb v.room t.room && eqb v.len t.len) → v ≡ t
same_todo v t same = λ j. record { left = left j; room = room j; len = len j }
  where
    all : T (eqb v.left t.left && (eqb v.room t.room && eqb v.len t.len))
    all = true-T _ (sym same)

    left : v.left ≡ t.left
    left = eqb→eq v.left t.left (and_l _ _ all)

    rest : T (eqb v.room t.room && eqb v.len t.len)
    rest = and_r (eqb v.left t.left) _ all

    room : v.room ≡ t.room
    room = eqb→eq v.room t.room (and_l _ _ rest)

    len : v.len ≡ t.len
    len = eqb→eq v.len t.len (and_r (eqb v.room t.room) _ rest)

module _ (s : Taping) (line : List ℕ) (k inner : ℕ) (b out : List ℕ) (t : Taped) (place i : ℕ)
    (repeats : Repeats (TapedFrom s (taping b out t)) line k inner place i) (more : i < k)
    (w : At Taped) (d p : List ℕ) (tapes : ItemsTape line inner (taping b out t) w d p) where
  -- another repeat
  pub repeat_on : Repeats (TapedFrom s (part_taped d p w)) line k inner w.next (i + 1)
  repeat_on =
      walks.repeat_more (TapedFrom s (taping b out t)) (TapedFrom (taping b out t) (part_taped d p w))
      (TapedFrom s (part_taped d p w)) (taped_then s (taping b out t) (part_taped d p w))
      line k inner place i repeats more w.next tapes

  -- one that leaves as much to do as before stands for all that are left
  pub repeat_idle : true ≡ eqb w.value.left t.left && (eqb w.value.room t.room && eqb w.value.len t.len)
      → Repeats (TapedFrom s (taping d p t)) line k inner w.next k
  repeat_idle same =
      let e = same_todo w.value t same in
      subst (λ (v : Taped). Repeats (TapedFrom s (taping d p v)) line k inner w.next k) e
      (walks.repeats_idle (TapedFrom s (taping b out t)) (TapedFrom (taping b out t) (part_taped d p w))
      (TapedFrom s (part_taped d p w)) (taped_then s (taping b out t) (part_taped d p w))
      line k inner place i repeats more w.next tapes
      (taped_again (taping b out t) (part_taped d p w) (ap (λ (v : Taped). v.left) e) (ap (λ (v : Taped). v.room) e)))

-- ---- a list of items

pub passed_more : (s : Taping) (line : List ℕ) (at : ℕ) (b out : List ℕ) (t : Taped) (place : ℕ)
    → Passed (TapedFrom s (taping b out t)) line at place → get_or line place 0 ≡ 32
    → (w : At Taped) (d p : List ℕ) → ItemTapes line (place + 1) (taping b out t) w d p
    → Passed (TapedFrom s (part_taped d p w)) line at w.next
passed_more s line at b out t place passed space w d p tapes =
    passing.passed_more (TapedFrom s (taping b out t)) line at place passed space
    (TapedFrom (taping b out t) (part_taped d p w)) w.next tapes (TapedFrom s (part_taped d p w))
    (taped_then s (taping b out t) (part_taped d p w))

-- ---- the state behind a list of items that was read

pub items_taped : (line : List ℕ) (at : ℕ) (s : Taping) (r : At Taped) (d out : List ℕ) → ItemsTape line at s r d out
    → (fuel : ℕ) (is : Items) (rest : List ℕ) → items_in fuel (drop at line) ≡ found is rest
    → part_taped d out r ≡ taped_steps (expand is) s
unfolding PartDone TapedFrom
items_taped line at s r d out tapes fuel is rest e = (tapes fuel is rest e).ran
