-- What a collect has seen says of the values that it met, for any kind of register and any strict total order of
-- figures: one more register read, and a list of them.
-- Relies on Sets and Order; Page relies on it.
use Rattle.model.proofs.Kit.{◌≡◌, refl, sym, ap, ◌∙◌, false, List, [], ◌∷◌, ◌++◌, append_assoc, append-nil, map}
use Rattle.model.proofs.Kit.{none, some, ℕ}
use borrow.Table.Elements.{map_app}
use Rattle.model.specs.Listing.{Order, Flag, adopt, commit, Register, empty, filled, Turn, turn_m, turn_a, turn_b}
use Rattle.model.specs.Listing.{first, second, third, Seen, nothing, seen, larger, pair_above, add, see}
use Rattle.model.specs.Collects.{◌∈◌, Only, Max, without⊥, in_max, in_sA, in_sB, first_commit, Strict, above₂}
use Rattle.model.proofs.Basics.Tests.{impossible, clash, cond_case, true-T, T_true, no-T}
use Rattle.model.proofs.Listing.Sets.{in_before, in_last, only_one, only_again, Two, two_more, two_now, Ordering}
use Rattle.model.proofs.Listing.Sets.{only_max}
use Rattle.model.proofs.Listing.Sets.{max_stays, max_moves}
use Rattle.model.proofs.Listing.Order.{pair_irrefl, pair_trans}

-- ---- the values of one more register

module _ {F : Type 0} where
  without_append : {A : Type 0} (held : Flag → ℕ → F → A) (rs qs : List (Register F))
      → without⊥ held (rs ++ qs) ≡ without⊥ held rs ++ without⊥ held qs
  unfolding without⊥
  without_append held [] qs = refl
  without_append held (empty ∷ rs) qs = without_append held rs qs
  without_append held (filled f k y ∷ rs) qs = cc (without_append held rs qs)

  -- the figure of an entry of B
  unfoldable pub figure : Flag × F → F
  figure p = p.1

  pub flags_differ : (x y : F) → ◌≡◌ {A = Flag × F} (adopt, x) (commit, y) → ⊥
  flags_differ x y q = impossible (cc (ap (λ (p : Flag × F). p.0) q))

  -- the first commit stays, and where there was none a last one is the first
  first_stays : (S T : List (Flag × F)) (v : F) → first_commit S ≡ some v → first_commit (S ++ T) ≡ some v
  unfolding first_commit
  first_stays [] T v e = impossible (cc)
  first_stays ((adopt, y) ∷ S) T v e = first_stays S T v e
  first_stays ((commit, y) ∷ S) T v e = e

  first_now : (S T : List (Flag × F)) → first_commit S ≡ none → first_commit (S ++ T) ≡ first_commit T
  unfolding first_commit
  first_now [] T e = refl
  first_now ((adopt, y) ∷ S) T e = first_now S T e
  first_now ((commit, y) ∷ S) T e = impossible (cc)

module _ {F : Type 0} (o : Order F) (s : Strict o) where
  figures_ordered : Ordering o.above
  figures_ordered = record { irreflexive = s.irreflexive; transitive = s.transitive }

  pairs_ordered : Ordering (above₂ o)
  unfolding above₂
  pairs_ordered = record {
    irreflexive = λ p. no-T _ (pair_irrefl o s p.0 p.1);
    transitive = λ p q r h g.
        T_true _ (pair_trans o s p.0 p.1 q.0 q.1 r.0 r.1 (true-T _ h) (true-T _ g));
  }

  -- What a collect has seen says this of the values that it met.
  unfoldable pub AboutM : List (ℕ × F) → Seen F → Type 0
  AboutM S nothing = S ≡ []
  AboutM S (seen g k y) = Max (above₂ o) S (k, y)

  unfoldable pub AboutA : List F → Seen F → Type 0
  AboutA S nothing = S ≡ []
  AboutA S (seen first k y) = Only S y
  AboutA S (seen second k y) = Two S × Max o.above S y
  AboutA S (seen third k y) = ⊥

  unfoldable pub AboutB : List (Flag × F) → Seen F → Type 0
  AboutB S nothing = S ≡ []
  AboutB S (seen first k y) = (first_commit S ≡ none) × ((adopt, y) ∈ S) × Max o.above (map figure S) y
  AboutB S (seen second k y) = (first_commit S ≡ some y) × Only S (commit, y)
  AboutB S (seen third k y) = (first_commit S ≡ some y) × Two S

  larger_max : (x y : F) (S : List F) → Max o.above S x → Max o.above (S ++ (y ∷ [])) (larger o x y)
  unfolding larger
  larger_max x y S h =
      cond_case (Max o.above (S ++ (y ∷ []))) (o.above y x) y x
      (max_moves o.above figures_ordered x y S h)
      (max_stays o.above figures_ordered x y S h)

  differ : (x y : F) → o.same x y ≡ false → x ≡ y → ⊥
  differ x y e f = clash (sym (s.same_self x) ∙ ap (o.same x) f ∙ e)

  m_adds : (S : List (ℕ × F)) (a : Seen F) (f : Flag) (k : ℕ) (y : F) → AboutM S a
      → AboutM (S ++ ((k, y) ∷ [])) (add o turn_m a f k y)
  unfolding add above₂ AboutM
  m_adds S nothing f k y h = rw h (only_max (above₂ o) pairs_ordered (k, y) _ (only_one (k, y)))
  m_adds S (seen g j x) f k y h =
      cond_case (AboutM (S ++ ((k, y) ∷ []))) (pair_above o k y j x) (seen g k y) (seen g j x)
      (max_moves (above₂ o) pairs_ordered (j, x) (k, y) S h)
      (max_stays (above₂ o) pairs_ordered (j, x) (k, y) S h)

  -- the larger of two equal figures is the first
  larger_same : (x y : F) → x ≡ y → larger o x y ≡ x
  unfolding larger
  larger_same x y e = rw (← e, s.irreflexive x)

  a_adds : (S : List F) (a : Seen F) (f : Flag) (k : ℕ) (y : F) → AboutA S a
      → AboutA (S ++ (y ∷ [])) (add o turn_a a f k y)
  unfolding add AboutA
  a_adds S nothing f k y h = rw h (only_one y)
  a_adds S (seen first j x) f k y h =
      cond_case (λ g. AboutA (S ++ (y ∷ [])) (seen g j (larger o x y))) (o.same x y) first second
      (λ e. let q = s.same_is x y e in rw (larger_same x y q) (only_again x y S h q))
      (λ e. (two_now x y S h.among (differ x y e), larger_max x y S (only_max o.above figures_ordered x S h)))
  a_adds S (seen second j x) f k y h = (two_more y S h.0, larger_max x y S h.1)
  a_adds S (seen third j x) f k y h = absurd h

  b_adds : (S : List (Flag × F)) (a : Seen F) (e f : Flag) (k : ℕ) (y : F) → AboutB S a
      → AboutB (S ++ ((f, y) ∷ [])) (add o (turn_b e) a f k y)
  unfolding add first_commit AboutB figure
  b_adds S nothing e adopt k y h =
      rw h (refl, in_last (adopt, y) [], only_max o.above figures_ordered y (y ∷ []) (only_one y))
  b_adds S nothing e commit k y h = rw h (refl, only_one (commit, y))
  b_adds S (seen first j x) e adopt k y h = (
    first_now S ((adopt, y) ∷ []) h.0,
    unfold larger in
        cond_case (λ z. (adopt, z) ∈ (S ++ ((adopt, y) ∷ []))) (o.above y x) y x (λ t. in_last (adopt, y) S)
        (λ t. in_before (adopt, x) S ((adopt, y) ∷ []) h.1),
    rw (map_app figure S ((adopt, y) ∷ [])) (larger_max x y (map figure S) h.2),
  )
  b_adds S (seen first j x) e commit k y h = (
    first_now S ((commit, y) ∷ []) h.0,
    two_now (adopt, x) (commit, y) S h.1 (flags_differ x y),
  )
  b_adds S (seen second j x) e adopt k y h = (
    first_stays S ((adopt, y) ∷ []) x h.0,
    two_now (commit, x) (adopt, y) S h.1.among (λ q. flags_differ y x (sym q)),
  )
  b_adds S (seen second j x) e commit k y h =
      let stays = first_stays S ((commit, y) ∷ []) x h.0 in
      cond_case (λ g. AboutB (S ++ ((commit, y) ∷ [])) (seen g j x)) (o.same x y) second third
      (λ q. (stays, only_again (commit, x) (commit, y) S h.1 (rw (s.same_is x y q))))
      (λ q. (stays, two_now (commit, x) (commit, y) S h.1.among (λ p. differ x y q (ap figure p))))
  b_adds S (seen third j x) e f k y h = (first_stays S ((f, y) ∷ []) x h.0, two_more (f, y) S h.1)

  -- ---- registers, one after another

  unfoldable pub About : Turn → List (Register F) → Seen F → Type 0
  About turn_m rs a = AboutM (in_max rs) a
  About turn_a rs a = AboutA (in_sA rs) a
  About (turn_b e) rs a = AboutB (in_sB rs) a

  begun : (t : Turn) → About t [] nothing
  unfolding About AboutM AboutA AboutB in_max in_sA in_sB without⊥
  begun turn_m = refl
  begun turn_a = refl
  begun (turn_b e) = refl

  one_read : (t : Turn) (rs : List (Register F)) (a : Seen F) (r : Register F) → About t rs a
      → About t (rs ++ (r ∷ [])) (see o t a r)
  unfolding About in_max in_sA in_sB without⊥ see
  one_read turn_m rs a empty h = rw (without_append, append-nil) h
  one_read turn_m rs a (filled f k y) h = rw without_append (m_adds _ a f k y h)
  one_read turn_a rs a empty h = rw (without_append, append-nil) h
  one_read turn_a rs a (filled f k y) h = rw without_append (a_adds _ a f k y h)
  one_read (turn_b e) rs a empty h = rw (without_append, append-nil) h
  one_read (turn_b e) rs a (filled f k y) h = rw without_append (b_adds _ a e f k y h)

  -- what was seen after the registers of a list
  unfoldable pub sees : Turn → Seen F → List (Register F) → Seen F
  sees t a [] = a
  sees t a (r ∷ rs) = sees t (see o t a r) rs

  more_read : (t : Turn) (qs : List (Register F)) (a : Seen F) (rs : List (Register F)) → About t qs a
      → About t (qs ++ rs) (sees t a rs)
  unfolding sees
  more_read t qs a [] h = rw append-nil h
  more_read t qs a (r ∷ rs) h =
      rw append_assoc at (more_read t (qs ++ (r ∷ [])) (see o t a r) rs (one_read t qs a r h))

  pub all_read : (t : Turn) (rs : List (Register F)) → About t rs (sees t nothing rs)
  all_read t rs = more_read t [] nothing rs (begun t)
