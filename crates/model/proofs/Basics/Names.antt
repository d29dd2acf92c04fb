-- The numbers that stand in a list, with one more at its end, and whether each then stands there once.
-- Relies on the definitions; the sets of stations, of rounds and of pairs, rely on it.
use Rattle.model.proofs.Kit.{◌≡◌, refl, sym, ap, ◌∙◌, Bool, true, false, ◌&&◌, ◌||◌, not, List, [], ◌∷◌, ◌++◌, ℕ}
use Rattle.model.proofs.Kit.{eqb, eqb-true, eqb-false, eq-eqb, ne_eqb}
use Rattle.model.specs.Bytes.{names}
use Rattle.model.specs.Proposals.{each_once}
use Rattle.model.proofs.Basics.Tests.{by_test}

pub or_none : (a : Bool) → a || false ≡ a
or_none true = refl
or_none false = refl

pub or_any : (a : Bool) → a || true ≡ true
or_any true = refl
or_any false = refl

or_assoc : (a b c : Bool) → a || (b || c) ≡ (a || b) || c
or_assoc true b c = refl
or_assoc false b c = refl

pub names_more : (i : ℕ) (r : List ℕ) (j : ℕ) → names i (r ++ (j ∷ [])) ≡ names i r || eqb i j
unfolding names
names_more i [] j = or_none (eqb i j)
names_more i (k ∷ ks) j =
    ap (λ (t : Bool). eqb i k || t) (names_more i ks j) ∙ or_assoc (eqb i k) (names i ks) (eqb i j)

eqb_either : (i j : ℕ) → eqb i j ≡ eqb j i
eqb_either i j =
    by_test (eqb i j) (λ e. e ∙ sym (eq-eqb j i (sym (eqb-true i j e))))
    (λ e. e ∙ sym (ne_eqb j i (λ q. eqb-false i j e (sym q))))

both_new : (a e o b : Bool) → not (a || e) && (o && not b) ≡ (not a && o) && not (e || b)
both_new true e o b = refl
both_new false true true b = refl
both_new false true false b = refl
both_new false false true b = refl
both_new false false false b = refl

pub once_more : (is : List ℕ) (j : ℕ) → each_once (is ++ (j ∷ [])) ≡ each_once is && not (names j is)
unfolding each_once names
once_more [] j = refl
once_more (k ∷ is) j =
    (λ t. not ((names_more k is j ∙ ap (λ (x : Bool). names k is || x) (eqb_either k j)) t) && once_more is j t)
    ∙ both_new (names k is) (eqb j k) (each_once is) (names j is)
