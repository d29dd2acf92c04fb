-- One read of a collect of B: what each branch of `see_adopt` and `see_commit` leaves is what the listing's
-- `see` gives. Relies on OneRead; the proofs of these two and of `see` rely on it.
use Rattle.model.proofs.Kit.{◌≡◌, refl, sym, ap, ◌∙◌, Bool, true, false, cond, ℕ, zero, suc}
use Rattle.model.specs.declared.Record.{Record}
use Rattle.model.specs.declared.Register as Fields
use Rattle.collect.specs.declared.Turn as Coded
use Rattle.collect.specs.declared.Turn.TheVariants.{B}
use Rattle.model.specs.Figure.{Figure, figures, same_figure}
use Rattle.model.specs.Listing.{Flag, adopt, commit, turn_b, first, second, third, Seen, nothing, seen, larger, add}
use Rattle.model.specs.Listing.{flag_of}
use Rattle.model.specs.Layout.{seen_number, best_island, best_figure, seen_of}
use Rattle.collect.specs.Collected.{collected, noting, with_seen, Kept, seeing, turn_of, Adds}
use Rattle.collect.proofs.OneRead.{at_seen, added, see_filled}

-- ---- an adopt

pub adopt_first : (f r : Record) (y z : Figure) → f.seen ≡ 0 → r ≡ noting f 1 0 z → z ≡ y → Adds adopt f y r
unfolding Adds seen_of add with_seen seen_number best_island best_figure
adopt_first f r y z s q l e = q ∙ ap (noting f 1 0) l ∙ added (turn_b e) f adopt 0 y 0 s

pub adopt_more : (f r : Record) (y z : Figure) → f.seen ≡ 1 → r ≡ noting f 1 f.highest z
    → z ≡ larger figures f.best y → Adds adopt f y r
unfolding Adds seen_of add with_seen seen_number best_island best_figure
adopt_more f r y z s q l e = q ∙ ap (noting f 1 f.highest) l ∙ added (turn_b e) f adopt 0 y 1 s

pub adopt_beside : (f r : Record) (y z : Figure) → f.seen ≡ 2 → r ≡ noting f 3 f.highest z → z ≡ f.best
    → Adds adopt f y r
unfolding Adds seen_of add with_seen seen_number best_island best_figure
adopt_beside f r y z s q l e = q ∙ ap (noting f 3 f.highest) l ∙ added (turn_b e) f adopt 0 y 2 s

-- ---- a commit

pub commit_first : (f r : Record) (y z : Figure) → f.seen ≡ 0 → r ≡ noting f 2 0 z → z ≡ y → Adds commit f y r
unfolding Adds seen_of add with_seen seen_number best_island best_figure
commit_first f r y z s q l e = q ∙ ap (noting f 2 0) l ∙ added (turn_b e) f commit 0 y 0 s

pub commit_beside : (f r : Record) (y z : Figure) → f.seen ≡ 1 → r ≡ noting f 3 f.highest z → z ≡ y
    → Adds commit f y r
unfolding Adds seen_of add with_seen seen_number best_island best_figure
commit_beside f r y z s q l e = q ∙ ap (noting f 3 f.highest) l ∙ added (turn_b e) f commit 0 y 1 s

commit_again : (f : Record) (y : Figure) (b : Bool) → f.seen ≡ 2 → same_figure f.best y ≡ b → (e : Flag)
    → with_seen f (seen (cond b second third) f.highest f.best)
    ≡ with_seen f (add figures (turn_b e) (collected f) commit 0 y)
unfolding seen_of add figures
commit_again f y b s d e =
    ap (λ (b : Bool). with_seen f (seen (cond b second third) f.highest f.best)) (sym d)
    ∙ added (turn_b e) f commit 0 y 2 s

pub commit_same : (f : Record) (y : Figure) → Kept f → f.seen ≡ 2 → same_figure f.best y ≡ true → Adds commit f y f
unfolding Adds Kept seen_of
commit_same f y kept s d e = sym kept ∙ ap (with_seen f) (at_seen f 2 s) ∙ commit_again f y true s d e

pub commit_differs : (f r : Record) (y z : Figure) → f.seen ≡ 2 → same_figure f.best y ≡ false
    → r ≡ noting f 3 f.highest z → z ≡ f.best
    → Adds commit f y r
unfolding Adds with_seen seen_number best_island best_figure
commit_differs f r y z s d q l e = q ∙ ap (noting f 3 f.highest) l ∙ commit_again f y false s d e

-- ---- after a commit beside another figure nothing changes any more

add_third : (s : ℕ) → (s ≡ 0 → ⊥) → (s ≡ 1 → ⊥) → (s ≡ 2 → ⊥) → (j k : ℕ) (x y : Figure) (d e : Flag)
    → add figures (turn_b e) (seen_of s j x) d k y ≡ seen_of s j x
unfolding seen_of add
add_third zero n m l j k x y d e = absurd (n refl)
add_third (suc zero) n m l j k x y d e = absurd (m refl)
add_third (suc (suc zero)) n m l j k x y d e = absurd (l refl)
add_third (suc (suc (suc s))) n m l j k x y d e = refl

pub third_stays : (d : Flag) (f : Record) (y : Figure) → Kept f → (f.seen ≡ 0 → ⊥) → (f.seen ≡ 1 → ⊥)
    → (f.seen ≡ 2 → ⊥) → Adds d f y f
unfolding Adds Kept collected
third_stays d f y kept n m l e =
    sym kept ∙ ap (with_seen f) (sym (add_third f.seen n m l f.highest 0 f.best y d e))

-- ---- and so for a register: its island does not matter, and its mark is the flag

flag_commit : (m : ℕ) → (m ≡ 0 → ⊥) → (m ≡ 1 → ⊥) → flag_of m ≡ commit
unfolding flag_of
flag_commit zero h i = absurd (h refl)
flag_commit (suc zero) h i = absurd (i refl)
flag_commit (suc (suc m)) h i = refl

island_free : (a : Seen Figure) (d e : Flag) (k : ℕ) (y : Figure)
    → add figures (turn_b e) a d 0 y ≡ add figures (turn_b e) a d k y
unfolding add
island_free nothing adopt e k y = refl
island_free nothing commit e k y = refl
island_free (seen first j x) adopt e k y = refl
island_free (seen first j x) commit e k y = refl
island_free (seen second j x) adopt e k y = refl
island_free (seen second j x) commit e k y = refl
island_free (seen third j x) d e k y = refl

module _ (f r : Record) (g : Fields.Register) (z : Figure) (h : g.mark ≡ 0 → ⊥) (l : z ≡ g.figure) where
  of_flag : (t : Coded.Turn) (d : Flag) → t ≡ B → flag_of g.mark ≡ d → Adds d f z r → (e : Flag)
      → r ≡ seeing (turn_of t e) f g
  unfolding Adds turn_of
  of_flag t d u q a e =
      a e
      ∙ ap (with_seen f) (island_free (collected f) d e g.island z)
      ∙ (λ i. with_seen f (add figures (turn_b e) (collected f) (sym q i) g.island (l i)))
      ∙ sym (see_filled (turn_b e) f g h) ∙ ap (λ (v : Coded.Turn). seeing (turn_of v e) f g) (sym u)

  pub read_adopt : (t : Coded.Turn) → t ≡ B → g.mark ≡ 1 → Adds adopt f z r → (e : Flag) → r ≡ seeing (turn_of t e) f g
  unfolding flag_of
  read_adopt t u q = of_flag t adopt u (ap flag_of q)

  pub read_commit : (t : Coded.Turn) → t ≡ B → (g.mark ≡ 1 → ⊥) → Adds commit f z r → (e : Flag)
      → r ≡ seeing (turn_of t e) f g
  read_commit t u q = of_flag t commit u (flag_commit g.mark h q)
