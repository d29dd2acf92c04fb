-- The n single reads of a collect end as the listing's lines do on the values that they met, for any n, any kind of
-- register and any strict total order of figures; and the lines leave nothing open.
-- Relies on Met; it proves the claims of specs/Collects.antt.
use Rattle.model.proofs.Kit.{◌≡◌, refl, sym, ap, ◌∙◌, false, inl, inr, List, [], ◌∷◌, ◌++◌, map, none, ℕ, suc}
use Rattle.model.proofs.Kit.{◌+◌, ◌<◌, lt-ltb, le-ltb, length, arith}
use Rattle.model.specs.Figure.{figures}
use Rattle.model.specs.Listing.{Order, Flag, adopt, commit, Register, empty, filled, Turn, turn_m, turn_a, turn_b}
use Rattle.model.specs.Listing.{first, second, third, Seen, nothing, seen, reading, stay, finish, ended, see}
use Rattle.model.specs.Listing.{move}
use Rattle.model.specs.Collects.{◌∈◌, without⊥, in_max, in_sA, in_sB, SomeFilled, first_commit, Strict, above₂}
use Rattle.model.specs.Collects.{ReadMax, LinesA, line8, line9, LinesB, line12, line13, line14, returned, Ends}
use Rattle.model.specs.Collects.{through, AllRead, Collects, Leave}
use Rattle.model.proofs.Basics.Tests.{impossible}
use Rattle.model.proofs.Listing.Sets.{two_not_only, max_unique}
use Rattle.model.proofs.Listing.Order.{pair_total, strict}
use Rattle.model.proofs.Listing.Met.{AboutM, AboutA, AboutB, About, figure, flags_differ, sees, all_read}

-- one filled register shows whatever is asked of it
none_held : {F A B : Type 0} (held : Flag → ℕ → F → A) (other : Flag → ℕ → F → B) (rs : List (Register F))
    → without⊥ held rs ≡ [] → without⊥ other rs ≡ []
unfolding without⊥
none_held held other [] e = refl
none_held held other (empty ∷ rs) e = none_held held other rs e
none_held held other (filled f k y ∷ rs) e = impossible (cc)

module _ {F : Type 0} (o : Order F) (s : Strict o) where
  -- ---- the reads

  module _ (n K : ℕ) (t : Turn) (c : ℕ) (x : F) where
    -- the registers rs are read from position p on, none of them the last
    passing : (p : ℕ) (a : Seen F) (rs : List (Register F)) → p + length rs < n
        → AllRead o n K (reading t c x p a) rs
        × (through o n K (reading t c x p a) rs ≡ reading t c x (p + length rs) (sees o s t a rs))
    unfolding AllRead through move stay sees
    passing p a [] h = let e : p + 0 ≡ p = omega arith in (tt, rw e)
    passing p a (r ∷ rs) h =
        let rest = passing (p + 1) (see o t a r) rs (omega arith) in
        let on : p + suc (length rs) ≡ p + 1 + length rs = omega arith in
        rw (lt-ltb (p + 1) n (omega arith), on) ((refl, refl, rest.0), rest.1)

  sees_last : (t : Turn) (a : Seen F) (rs : List (Register F)) (r : Register F)
      → see o t (sees o s t a rs) r ≡ sees o s t a (rs ++ (r ∷ []))
  unfolding sees
  sees_last t a [] r = refl
  sees_last t a (q ∷ rs) r = sees_last t (see o t a q) rs r

  -- ---- the end

  module _ (K : ℕ) (rs : List (Register F)) (c : ℕ) (x : F) (some_filled : SomeFilled rs) where
    ends : (t : Turn) (a : Seen F) → About o s t rs a → Ends o K rs c t (ended K t c x a)
    unfolding About AboutM AboutA AboutB ended finish ReadMax in_max in_sA in_sB SomeFilled figure Ends returned
    ends turn_m nothing h = absurd (some_filled (none_held _ _ rs h))
    ends turn_m (seen g k y) h = (k, y, h, refl)
    ends turn_a nothing h = absurd (some_filled h)
    ends turn_a (seen first k y) h = (commit, y, line8 refl h, refl)
    ends turn_a (seen second k y) h = (adopt, y, line9 refl (two_not_only (in_sA rs) h.0) h.1, refl)
    ends turn_a (seen third k y) h = absurd h
    ends (turn_b e) nothing h = absurd (some_filled (none_held _ _ rs h))
    ends (turn_b e) (seen first k y) h = (adopt, y, line14 refl h.0 h.2, refl)
    ends (turn_b e) (seen second k y) h = (commit, y, line12 refl h.1, refl)
    ends (turn_b e) (seen third k y) h =
        (adopt, y, line13 refl (λ w. two_not_only (in_sB rs) h.1 (commit, w)) h.0, refl)

  -- Of n single reads from position 0 with nothing seen the first n − 1 answer *read*, and the last ends as the lines
  -- do.
  pub collects : Collects o
  unfolding Collects move
  collects n K t c x rs r h some_filled =
      let p = passing n K t c x 0 nothing rs (omega arith) in (
        p.0,
        rw (p.1, le-ltb (0 + length rs + 1) n (omega arith), sees_last)
            (ends K (rs ++ (r ∷ [])) c x some_filled t _ (all_read o s t (rs ++ (r ∷ [])))),
      )

  -- ---- nothing is left open

  lines_a : (S : List F) (f g : Flag) (v w : F) → LinesA o S f v → LinesA o S g w → (f ≡ g) × (v ≡ w)
  lines_a S f g v w (line8 p h) (line8 q k) = (p ∙ sym q, k.no_other v h.among)
  lines_a S f g v w (line8 p h) (line9 q k m) = absurd (k v h)
  lines_a S f g v w (line9 p h l) (line8 q k) = absurd (h w k)
  lines_a S f g v w (line9 p h l) (line9 q k m) = (p ∙ sym q, max_unique o.above s.total S v w l m)

  -- where a commit stands there is a first one
  commit_found : (S : List (Flag × F)) (v : F) → (commit, v) ∈ S → first_commit S ≡ none → ⊥
  unfolding ◌∈◌ first_commit
  commit_found [] v h e = h
  commit_found ((adopt, y) ∷ S) v (inl q) e = flags_differ y v (sym q)
  commit_found ((adopt, y) ∷ S) v (inr h) e = commit_found S v h e
  commit_found ((commit, y) ∷ S) v h e = impossible (cc)

  lines_b : (S : List (Flag × F)) (f g : Flag) (v w : F) → LinesB o S f v → LinesB o S g w → (f ≡ g) × (v ≡ w)
  unfolding figure
  lines_b S f g v w (line12 p h) (line12 q k) = (p ∙ sym q, ap figure (k.no_other (commit, v) h.among))
  lines_b S f g v w (line12 p h) (line13 q k m) = absurd (k v h)
  lines_b S f g v w (line12 p h) (line14 q k m) = absurd (commit_found S v h.among k)
  lines_b S f g v w (line13 p h l) (line12 q k) = absurd (h w k)
  lines_b S f g v w (line13 p h l) (line13 q k m) = (p ∙ sym q, cc)
  lines_b S f g v w (line13 p h l) (line14 q k m) = impossible (cc)
  lines_b S f g v w (line14 p h l) (line12 q k) = absurd (commit_found S w k.among h)
  lines_b S f g v w (line14 p h l) (line13 q k m) = impossible (cc)
  lines_b S f g v w (line14 p h l) (line14 q k m) = (p ∙ sym q, max_unique o.above s.total (map figure S) v w l m)

  pairs_total : (p q : ℕ × F) → above₂ o p q ≡ false → above₂ o q p ≡ false → p ≡ q
  unfolding above₂
  pairs_total p q e f = let h = pair_total o s p.0 p.1 q.0 q.1 e f in λ i. (h.0 i, h.1 i)

  -- two ends of one collect are the same
  pub leave : Leave o
  unfolding Leave Ends ReadMax
  leave K rs c turn_m m m' (k, v, h, e) (j, w, l, f) =
      let q = max_unique (above₂ o) pairs_total (in_max rs) (k, v) (j, w) h l in
      let p : k ≡ j = ap (λ (z : ℕ × F). z.0) q in
      let d : v ≡ w = ap (λ (z : ℕ × F). z.1) q in cc
  leave K rs c turn_a m m' (f, v, h, e) (g, w, l, d) = let q = lines_a (in_sA rs) f g v w h l in cc
  leave K rs c (turn_b b) m m' (f, v, h, e) (g, w, l, d) = let q = lines_b (in_sB rs) f g v w h l in cc

-- The lines' claims of the figures of a board.
pub figures_collect : Collects figures
figures_collect = collects figures strict

pub figures_leave : Leave figures
figures_leave = leave figures strict
