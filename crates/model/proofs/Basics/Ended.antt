-- Bytes in parts that a mark ends: the part in front, and the parts behind its mark.
-- Relies on the definition of such parts; the lines of a sheet and the lent rounds rely on it.
use Rattle.model.proofs.Kit.{◌≡◌, refl, sym, ap, ◌∙◌, true, false, cond, List, [], ◌∷◌, ℕ, suc, ◌+◌, ◌-◌}
use Rattle.model.proofs.Kit.{◌<◌, ◌≤◌, eqb, length, take, drop, length-drop, drop-drop, drop_of_length-le, arith}
use Rattle.model.specs.Bytes.{on_first, ended_by}
use Rattle.model.proofs.Basics.Tests.{by_test, cond_case}

module _ (mark : ℕ) where
  -- the part in front, without the mark that ends it
  unfoldable pub front : List ℕ → List ℕ
  front [] = []
  front (b ∷ s) = cond (eqb b mark) [] (b ∷ front s)

  abbrev InFront : List ℕ → Type 0
  InFront t = ended_by mark t ≡ front t ∷ ended_by mark (drop (suc (length (front t))) t)

  mark_first : (b : ℕ) (u : List ℕ) → eqb b mark ≡ true → InFront (b ∷ u)
  unfolding ended_by front
  mark_first b u e = rw e

  mark_lacking : (b : ℕ) → eqb b mark ≡ false → InFront (b ∷ [])
  unfolding ended_by front on_first
  mark_lacking b e = rw e

  mark_later : (b : ℕ) (u : List ℕ) → eqb b mark ≡ false → InFront u → InFront (b ∷ u)
  unfolding ended_by front on_first
  mark_later b u e h = rw e (ap (on_first b) h)

  in_front : (b : ℕ) (u : List ℕ) → InFront (b ∷ u)
  in_front b [] = by_test (eqb b mark) (mark_first b []) (mark_lacking b)
  in_front b (c ∷ w) =
      by_test (eqb b mark) (mark_first b (c ∷ w)) (λ e. mark_later b (c ∷ w) e (in_front c w))

  some_part : (t : List ℕ) → 0 < length t → InFront t
  some_part [] h = absurd (omega arith)
  some_part (b ∷ u) h = in_front b u

  -- the part that starts at `at`, and the parts behind its mark
  pub parts_at : (s : List ℕ) (at : ℕ) → at < length s
      → ended_by mark (drop at s)
      ≡ front (drop at s) ∷ ended_by mark (drop (at + length (front (drop at s)) + 1) s)
  parts_at s at h =
      some_part (drop at s) (simp length-drop (omega arith))
      ∙ ap (λ (t : List ℕ). front (drop at s) ∷ ended_by mark t)
      (drop-drop (suc (length (front (drop at s)))) at s ∙ ap (λ (k : ℕ). drop k s) behind)
    where
      behind : at + suc (length (front (drop at s))) ≡ at + length (front (drop at s)) + 1
      behind = omega arith

  pub no_parts : (s : List ℕ) (at : ℕ) → length s ≤ at → ended_by mark (drop at s) ≡ []
  unfolding ended_by
  no_parts s at h = ap (ended_by mark) (drop_of_length-le s h)

  -- it ends where the first mark is found: `index` is how a list is searched for it
  module _ (index : List ℕ → ℕ) (none : index [] ≡ 0)
      (first : (b : ℕ) (s : List ℕ) → eqb b mark ≡ true → index (b ∷ s) ≡ 0)
      (later : (b : ℕ) (s : List ℕ) → eqb b mark ≡ false → index (b ∷ s) ≡ suc (index s)) where
    pub mark_found : (t : List ℕ) → (length (front t) ≡ index t) × (front t ≡ take (index t) t)
    unfolding front
    mark_found [] = (sym none, rw none)
    mark_found (b ∷ u) =
        by_test (eqb b mark)
        (λ e. rw (e, first b u e) (refl, refl))
        (λ e. rw (e, later b u e) (ap suc (mark_found u).0, ap (λ (t : List ℕ). b ∷ t) (mark_found u).1))

    module _ (s : List ℕ) (at end : ℕ) (e : end ≡ at + index (drop at s)) where
      pub part_taken : front (drop at s) ≡ take (end - at) (drop at s)
      part_taken =
          let width : index (drop at s) ≡ end - at = omega arith in
          (mark_found (drop at s)).1 ∙ ap (λ (k : ℕ). take k (drop at s)) width

      -- the part up to the mark that was found, and the parts behind that
      pub parts_found : at < length s
          → ended_by mark (drop at s) ≡ take (end - at) (drop at s) ∷ ended_by mark (drop (end + 1) s)
      parts_found l =
          let behind : at + length (front (drop at s)) + 1 ≡ end + 1 = omega (arith, (mark_found (drop at s)).0) in
          parts_at s at l ∙ (λ i. part_taken i ∷ ended_by mark (drop (behind i) s))

-- ---- there are no more parts than bytes

first_fewer : (b : ℕ) (ls : List (List ℕ)) → length (on_first b ls) ≤ suc (length ls)
unfolding on_first
first_fewer b [] = omega arith
first_fewer b (l ∷ ls) = omega arith

pub parts_fewer : (mark : ℕ) (l : List ℕ) → length (ended_by mark l) ≤ length l
unfolding ended_by
parts_fewer mark [] = omega arith
parts_fewer mark (b ∷ l) =
    cond_case (λ (ls : List (List ℕ)). length ls ≤ suc (length l)) (eqb b mark) ([] ∷ ended_by mark l)
    (on_first b (ended_by mark l)) (λ e. omega (arith, parts_fewer mark l))
    (λ e. omega (arith, parts_fewer mark l, first_fewer b (ended_by mark l)))
