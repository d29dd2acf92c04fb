-- One read of a collect on figures: it keeps the seen fields in range, figures of 32 bits, and the station's own value,
-- once seen, no higher than the best.
-- Relies on Good, Collect and Order; Moves relies on it.
use Rattle.model.proofs.Kit.{◌≡◌, refl, sym, subst, Bool, true, not, ℕ, ◌<◌, T}
use mathlib.Core.Logic.{◌↔◌}
use lib.Dec.{T_not, not_T}
use Rattle.model.specs.Figure.{Figure, figures, above}
use Rattle.model.specs.Listing.{Flag, adopt, commit, Turn, turn_m, turn_a, turn_b, Grade, first, second, third}
use Rattle.model.specs.Listing.{Register, empty, filled, Seen, nothing, seen, entry, larger, pair_above, add, see}
use Rattle.model.specs.Sound.{own_seen}
use Rattle.model.proofs.Basics.Tests.{true-T, cond_case}
use Rattle.model.proofs.Board.Codec.{Fits, FitsRegister, FitsSeen}
use Rattle.model.proofs.Board.Good.{GoodSeen}
use Rattle.model.proofs.Listing.Collect.{Shows, Something, add_shows, add_sees}
use Rattle.model.proofs.Listing.Order.{above_irrefl, above_trans, strict, pair_irrefl, pair_trans}

-- in m a filled register's island is below K; in A and B nothing is asked here
unfoldable pub GoodRead : (K : ℕ) → Turn → Register Figure → Type 0
GoodRead K t empty = Unit {0}
GoodRead K turn_m (filled f k y) = k < K
GoodRead K turn_a (filled f k y) = Unit {0}
GoodRead K (turn_b e) (filled f k y) = Unit {0}

m_grade : (K : ℕ) (g : Grade) (j k : ℕ) (x y : Figure) → GoodSeen K turn_m (seen g j x) → k < K
    → GoodSeen K turn_m (seen g k y)
unfolding GoodSeen
m_grade K first j k x y h l = l
m_grade K second j k x y h l = h
m_grade K third j k x y h l = h

add_good : (K : ℕ) (t : Turn) (a : Seen Figure) (f : Flag) (k : ℕ) (y : Figure)
    → GoodSeen K t a → GoodRead K t (filled f k y) → GoodSeen K t (add figures t a f k y)
unfolding GoodSeen GoodRead add
add_good K turn_m nothing f k y h l = l
add_good K turn_m (seen g j x) f k y h l =
    cond_case (GoodSeen K turn_m) (pair_above figures k y j x) (seen g k y) (seen g j x) (λ e. m_grade K g j k x y h l)
    (λ e. h)
add_good K turn_a nothing f k y h l = refl
add_good K turn_a (seen first j x) f k y h l =
    cond_case (λ (g : Grade). GoodSeen K turn_a (seen g j (larger figures x y))) (figures.same x y) first second
    (λ e. h) (λ e. h)
add_good K turn_a (seen second j x) f k y h l = h
add_good K turn_a (seen third j x) f k y h l = h
add_good K (turn_b e) nothing adopt k y h l = refl
add_good K (turn_b e) nothing commit k y h l = refl
add_good K (turn_b e) (seen first j x) adopt k y h l = h
add_good K (turn_b e) (seen first j x) commit k y h l = h
add_good K (turn_b e) (seen second j x) adopt k y h l = h
add_good K (turn_b e) (seen second j x) commit k y h l = h
add_good K (turn_b e) (seen third j x) f k y h l = h

pub see_good : (K : ℕ) (t : Turn) (a : Seen Figure) (r : Register Figure) → GoodSeen K t a → GoodRead K t r
    → GoodSeen K t (see figures t a r)
unfolding see
see_good K t a empty h l = h
see_good K t a (filled f k y) h l = add_good K t a f k y h l

-- ---- figures stay of 32 bits

fits_shown : (a : Seen Figure) → FitsSeen a ↔ (Something a → Shows Fits a)
unfolding FitsSeen
fits_shown nothing = (λ h s. absurd s, λ h. tt)
fits_shown (seen g k y) = (λ h s. h, λ h. h tt)

pub see_fits : (t : Turn) (a : Seen Figure) (r : Register Figure) → FitsSeen a → FitsRegister r
    → FitsSeen (see figures t a r)
unfolding see FitsRegister
see_fits t a empty h l = h
see_fits t a (filled f k y) h l = (fits_shown _).1 (λ s. add_shows figures Fits t a f k y ((fits_shown a).0 h) l)

-- ---- the station's own value, once seen, stays no higher than the best

keep_pair : (c : ℕ) (x : Figure) (k : ℕ) (y : Figure) (j : ℕ) (z : Figure)
    → T (not (pair_above figures c x k y)) → pair_above figures j z k y ≡ true → T (not (pair_above figures c x j z))
keep_pair c x k y j z h e =
    not_T (pair_above figures c x j z) (λ t. T_not (pair_above figures c x k y) h
    (pair_trans figures strict c x j z k y t (true-T _ e)))

meet_pair : (c : ℕ) (x : Figure) → T (not (pair_above figures c x c x))
meet_pair c x = not_T (pair_above figures c x c x) (pair_irrefl figures strict c x)

own_larger : (x y z : Figure) → T (not (figures.above x y)) → T (not (figures.above x (larger figures y z)))
unfolding larger figures
own_larger x y z h =
    cond_case (λ (w : Figure). T (not (above x w))) (above z y) z y
    (λ e. not_T (above x z) (λ t. T_not (above x y) h (above_trans x z y t (true-T _ e)))) (λ e. h)

meet_larger : (x y : Figure) → T (not (figures.above x (larger figures y x)))
unfolding larger figures
meet_larger x y =
    cond_case (λ (w : Figure). T (not (above x w))) (above x y) x y (λ e. not_T (above x x) (above_irrefl x))
    (λ e. subst (λ (t : Bool). T (not t)) (sym e) tt)

-- in B it is enough that something was seen
own_any : (e : Flag) (c : ℕ) (x : Figure) (a : Seen Figure) (f : Flag) (k : ℕ) (y : Figure)
    → T (own_seen (turn_b e) c x (add figures (turn_b e) a f k y))
unfolding own_seen
own_any e c x a f k y = go (add figures (turn_b e) a f k y) (add_sees figures (turn_b e) a f k y)
  where
    go : (b : Seen Figure) → Something b → T (own_seen (turn_b e) c x b)
    go nothing h = absurd h
    go (seen g j z) h = tt

own_add : (t : Turn) (c : ℕ) (x : Figure) (a : Seen Figure) (f : Flag) (k : ℕ) (y : Figure)
    → T (own_seen t c x a) → T (own_seen t c x (add figures t a f k y))
unfolding own_seen add
own_add t c x nothing f k y h = absurd h
own_add turn_m c x (seen g j z) f k y h =
    cond_case (λ (b : Seen Figure). T (own_seen turn_m c x b)) (pair_above figures k y j z) (seen g k y) (seen g j z)
    (λ e. keep_pair c x j z k y h e) (λ e. h)
own_add turn_a c x (seen first j z) f k y h = own_larger x z y h
own_add turn_a c x (seen second j z) f k y h = own_larger x z y h
own_add turn_a c x (seen third j z) f k y h = own_larger x z y h
own_add (turn_b e) c x (seen g j z) f k y h = own_any e c x (seen g j z) f k y

pub own_kept_lem : (t : Turn) (c : ℕ) (x : Figure) (a : Seen Figure) (r : Register Figure)
    → T (own_seen t c x a) → T (own_seen t c x (see figures t a r))
unfolding see
own_kept_lem t c x a empty h = h
own_kept_lem t c x a (filled f k y) h = own_add t c x a f k y h

-- reading one's own register
pub own_met : (t : Turn) (c : ℕ) (x : Figure) (a : Seen Figure) → T (own_seen t c x (see figures t a (entry t c x)))
unfolding see entry add own_seen figures
own_met turn_m c x nothing = meet_pair c x
own_met turn_m c x (seen g j z) =
    cond_case (λ (b : Seen Figure). T (own_seen turn_m c x b)) (pair_above figures c x j z) (seen g c x) (seen g j z)
    (λ e. meet_pair c x) (λ e. subst (λ (t : Bool). T (not t)) (sym e) tt)
own_met turn_a c x nothing = not_T (figures.above x x) (above_irrefl x)
own_met turn_a c x (seen first j z) = meet_larger x z
own_met turn_a c x (seen second j z) = meet_larger x z
own_met turn_a c x (seen third j z) = meet_larger x z
own_met (turn_b f) c x a = own_any f c x a f 0 x
