-- One read of a collect on a record's fields: what each branch of `see_m` and `see_a` leaves is what the
-- listing's `see` gives. Relies on Collected and the listing; the proofs of src/lib.rt and of the reads rely on it.
use Rattle.model.proofs.Kit.{◌≡◌, refl, sym, ap, ◌∙◌, Bool, true, false, cond, ℕ, zero, suc}
use Rattle.model.specs.declared.Record.{Record}
use Rattle.model.specs.declared.Register as Fields
use Rattle.collect.specs.declared.Turn as Coded
use Rattle.collect.specs.declared.Turn.TheVariants.{M, A}
use Rattle.model.specs.Figure.{Figure, figures, same_figure}
use Rattle.model.specs.Listing.{Flag, Turn, turn_m, turn_a, first, second, Seen, seen}
use Rattle.model.specs.Listing.{Register, filled, larger, pair_above, add, see, flag_of}
use Rattle.model.specs.Layout.{seen_number, best_island, best_figure, seen_of, register_value, changed}
use Rattle.model.proofs.Board.Codec.{marked_by, seen_back}
use Rattle.collect.specs.Collected.{collected, noting, with_seen, Kept, seeing, turn_of, AddsM, AddsA}

-- ---- the seen fields

pub collected_with : (f : Record) (a : Seen Figure) → collected (with_seen f a) ≡ a
unfolding collected with_seen noting changed
collected_with f a = seen_back a

with_again : (f : Record) (a : Seen Figure) → with_seen (with_seen f a) a ≡ with_seen f a
unfolding with_seen noting changed
with_again f a = refl

pub kept_with : (f : Record) (a : Seen Figure) → Kept (with_seen f a)
unfolding Kept
kept_with f a = ap (with_seen (with_seen f a)) (collected_with f a) ∙ with_again f a

-- the grade does not hang on the best pair
same_number : (s j k : ℕ) (x y : Figure) → seen_number (seen_of s j x) ≡ seen_number (seen_of s k y)
unfolding seen_number seen_of
same_number zero j k x y = refl
same_number (suc zero) j k x y = refl
same_number (suc (suc zero)) j k x y = refl
same_number (suc (suc (suc s))) j k x y = refl

island_of_lem : (s k : ℕ) (y : Figure) → (s ≡ 0 → ⊥) → best_island (seen_of s k y) ≡ k
unfolding seen_of best_island
island_of_lem zero k y h = absurd (h refl)
island_of_lem (suc zero) k y h = refl
island_of_lem (suc (suc zero)) k y h = refl
island_of_lem (suc (suc (suc s))) k y h = refl

figure_of : (s k : ℕ) (y : Figure) → (s ≡ 0 → ⊥) → best_figure (seen_of s k y) ≡ y
unfolding seen_of best_figure
figure_of zero k y h = absurd (h refl)
figure_of (suc zero) k y h = refl
figure_of (suc (suc zero)) k y h = refl
figure_of (suc (suc (suc s))) k y h = refl

kept_number : (f : Record) → Kept f → seen_number (collected f) ≡ f.seen
unfolding Kept with_seen noting changed
kept_number f h = ap (λ (g : Record). g.seen) h

-- another best pair under the same grade
pub regraded : (f : Record) → Kept f → (f.seen ≡ 0 → ⊥) → (k : ℕ) (y : Figure)
    → noting f f.seen k y ≡ with_seen f (seen_of f.seen k y)
unfolding with_seen collected
regraded f h n k y =
    let e : f.seen ≡ seen_number (seen_of f.seen k y) = sym (kept_number f h)
    ∙ same_number f.seen f.highest k f.best y in
    λ i. noting f (e i) (sym (island_of_lem f.seen k y n) i) (sym (figure_of f.seen k y n) i)

-- ---- what the register holds and what was seen, from the tests on them

marked_filled : (m k : ℕ) (y : Figure) → (m ≡ 0 → ⊥) → marked_by m k y ≡ filled (flag_of m) k y
marked_filled zero k y h = absurd (h refl)
marked_filled (suc m) k y h = refl

pub see_empty : (t : Turn) (f : Record) (g : Fields.Register) → Kept f → g.mark ≡ 0 → f ≡ seeing t f g
unfolding Kept seeing register_value see
see_empty t f g h e =
    sym (ap (λ (m : ℕ). with_seen f (see figures t (collected f) (marked_by m g.island g.figure))) e ∙ h)

-- a filled register is added
pub see_filled : (t : Turn) (f : Record) (g : Fields.Register) → (g.mark ≡ 0 → ⊥)
    → seeing t f g ≡ with_seen f (add figures t (collected f) (flag_of g.mark) g.island g.figure)
unfolding seeing register_value see
see_filled t f g h =
    ap (λ (r : Register Figure). with_seen f (see figures t (collected f) r))
    (marked_filled g.mark g.island g.figure h)

pub at_seen : (f : Record) (s : ℕ) → f.seen ≡ s → collected f ≡ seen_of s f.highest f.best
unfolding collected
at_seen f s e = ap (λ (m : ℕ). seen_of m f.highest f.best) e

-- a record whose seen fields are those of `add` at a known grade
module _ (t : Turn) (f : Record) (fl : Flag) (k : ℕ) (y : Figure) (s : ℕ) (e : f.seen ≡ s) where
  pub added : with_seen f (add figures t (seen_of s f.highest f.best) fl k y)
      ≡ with_seen f (add figures t (collected f) fl k y)
  added = ap (λ (a : Seen Figure). with_seen f (add figures t a fl k y)) (sym (at_seen f s e))

-- ---- m

pub m_first : (f r : Record) (k : ℕ) (y z : Figure) → f.seen ≡ 0 → r ≡ noting f 1 k z → z ≡ y → AddsM f k y r
unfolding AddsM seen_of add with_seen seen_number best_island best_figure
m_first f r k y z e q l d = q ∙ ap (noting f 1 k) l ∙ added turn_m f d k y 0 e

m_add : (s j k : ℕ) (x y : Figure) (fl : Flag) → (s ≡ 0 → ⊥)
    → add figures turn_m (seen_of s j x) fl k y ≡ cond (pair_above figures k y j x) (seen_of s k y) (seen_of s j x)
unfolding seen_of add
m_add zero j k x y fl h = absurd (h refl)
m_add (suc zero) j k x y fl h = refl
m_add (suc (suc zero)) j k x y fl h = refl
m_add (suc (suc (suc s))) j k x y fl h = refl

module _ (f : Record) (k : ℕ) (y : Figure) (kept : Kept f) (n : f.seen ≡ 0 → ⊥) where
  m_chosen : (b : Bool) (d : Flag) → pair_above figures k y f.highest f.best ≡ b
      → with_seen f (add figures turn_m (collected f) d k y) ≡ with_seen f (cond b (seen_of f.seen k y) (collected f))
  unfolding collected
  m_chosen b d e =
      ap (with_seen f) (m_add f.seen f.highest k f.best y d n)
      ∙ ap (λ (b : Bool). with_seen f (cond b (seen_of f.seen k y) (collected f))) e

  pub m_above : (r : Record) (z : Figure) → pair_above figures k y f.highest f.best ≡ true → r ≡ noting f f.seen k z
      → z ≡ y → AddsM f k y r
  unfolding AddsM
  m_above r z e q l d = q ∙ ap (noting f f.seen k) l ∙ regraded f kept n k y ∙ sym (m_chosen true d e)

  pub m_below : pair_above figures k y f.highest f.best ≡ false → AddsM f k y f
  unfolding AddsM Kept
  m_below e d = sym kept ∙ sym (m_chosen false d e)

-- ---- A

pub a_first : (f r : Record) (y z : Figure) → f.seen ≡ 0 → r ≡ noting f 1 0 z → z ≡ y → AddsA f y r
unfolding AddsA seen_of add with_seen seen_number best_island best_figure
a_first f r y z e q l d k = q ∙ ap (noting f 1 0) l ∙ added turn_a f d k y 0 e

a_add : (s : ℕ) → (s ≡ 0 → ⊥) → (s ≡ 1 → ⊥) → (j k : ℕ) (x v : Figure) (fl : Flag)
    → add figures turn_a (seen_of s j x) fl k v ≡ seen_of s j (larger figures x v)
unfolding seen_of add
a_add zero n m j k x v fl = absurd (n refl)
a_add (suc zero) n m j k x v fl = absurd (m refl)
a_add (suc (suc zero)) n m j k x v fl = refl
a_add (suc (suc (suc s))) n m j k x v fl = refl

module _ (f r : Record) (y z : Figure) (l : z ≡ larger figures f.best y) where
  a_one : (b : Bool) → f.seen ≡ 1 → same_figure f.best y ≡ b
      → AddsA f y (with_seen f (seen (cond b first second) f.highest z))
  unfolding AddsA seen_of add figures
  a_one b e h d k =
      (λ i. with_seen f (seen (cond (sym h i) first second) f.highest (l i))) ∙ added turn_a f d k y 1 e

  pub a_same : f.seen ≡ 1 → same_figure f.best y ≡ true → r ≡ noting f f.seen f.highest z → AddsA f y r
  unfolding AddsA with_seen seen_number best_island best_figure
  a_same e h q d k = q ∙ ap (λ (s : ℕ). noting f s f.highest z) e ∙ a_one true e h d k

  pub a_differs : f.seen ≡ 1 → same_figure f.best y ≡ false → r ≡ noting f 2 f.highest z → AddsA f y r
  unfolding AddsA with_seen seen_number best_island best_figure
  a_differs e h q d k = q ∙ a_one false e h d k

  pub a_mixed : Kept f → (f.seen ≡ 0 → ⊥) → (f.seen ≡ 1 → ⊥) → r ≡ noting f f.seen f.highest z → AddsA f y r
  unfolding AddsA collected
  a_mixed kept n m q d k =
      q ∙ ap (noting f f.seen f.highest) l ∙ regraded f kept n f.highest (larger figures f.best y)
      ∙ ap (with_seen f) (sym (a_add f.seen n m f.highest k f.best y d))

-- ---- a register of m or A

module _ (f r : Record) (g : Fields.Register) (z : Figure) (h : g.mark ≡ 0 → ⊥) (l : z ≡ g.figure) where
  pub read_m : (t : Coded.Turn) → t ≡ M → AddsM f g.island z r → (e : Flag) → r ≡ seeing (turn_of t e) f g
  unfolding AddsM turn_of
  read_m t q a e =
      a (flag_of g.mark) ∙ ap (λ (y : Figure). with_seen f (add figures turn_m (collected f) (flag_of g.mark) g.island y)) l
      ∙ sym (see_filled turn_m f g h) ∙ ap (λ (u : Coded.Turn). seeing (turn_of u e) f g) (sym q)

  pub read_a : (t : Coded.Turn) → t ≡ A → AddsA f z r → (e : Flag) → r ≡ seeing (turn_of t e) f g
  unfolding AddsA turn_of
  read_a t q a e =
      a (flag_of g.mark) g.island
      ∙ ap (λ (y : Figure). with_seen f (add figures turn_a (collected f) (flag_of g.mark) g.island y)) l
      ∙ sym (see_filled turn_a f g h) ∙ ap (λ (u : Coded.Turn). seeing (turn_of u e) f g) (sym q)
