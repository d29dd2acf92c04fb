-- What a collect that has passed the station's own register has seen, turn by turn, and the record at its phase.
-- Relies on the listing's values, their layout and the order of figures by its name; the proofs of own rely on it.
use Rattle.model.proofs.Kit.{◌≡◌, refl, sym, ap, ◌∙◌, Bool, true, false, ◌&&◌, not, List, ℕ, zero, suc, ◌≤◌, ◌<◌}
use Rattle.model.proofs.Kit.{lt-ltb, le-ltb, le-leb, eqb, ltb, leb, arith, to_z-of_z, w32, to_z, of_z, SFits}
use lib.Dec.{eqb-suc-zero}
use Rattle.model.specs.declared.Record.{Record}
use Rattle.model.specs.Figure.{Figure, figures, above}
use Rattle.model.specs.Listing.{flag_of, Turn, turn_m, turn_a, turn_b, Flag, pair_above}
use Rattle.model.specs.Layout.{seen_of, writing_of, reading_of, of_phase, record_value}
use Rattle.model.specs.Sound.{own_written, own_seen, own_passed}
use Rattle.record_soundness.specs.Groups.{own_kept}
use Rattle.record_soundness.proofs.Laws.Held.{place_m, place_a, place_b, written_m, written_a, written_b}
use Rattle.record_soundness.proofs.Laws.Chains.{and_then, and_else, implies_no, implies_yes}

-- ---- what the collect has seen
module _ (t : Turn) (f : Record) (i : ℕ) where
  seen_so : Bool
  seen_so = own_seen t f.island f.carried (seen_of f.seen f.highest f.best)

  before_own : f.position ≤ i → true ≡ own_passed i (reading_of t f)
  unfolding own_passed reading_of seen_so
  before_own h = implies_no (ltb i f.position) seen_so (le-ltb i f.position h)

  past_own : i < f.position
      → own_seen t f.island f.carried (seen_of f.seen f.highest f.best) ≡ own_passed i (reading_of t f)
  unfolding own_passed reading_of seen_so
  past_own h = implies_yes (ltb i f.position) seen_so (lt-ltb i f.position h)

best_m : (s k c : ℕ) (x y : Figure) → (s ≡ 0 → ⊥) → not (pair_above figures c x k y) ≡ own_seen turn_m c x (seen_of s k y)
unfolding own_seen seen_of
best_m zero k c x y h = absurd (h refl)
best_m (suc zero) k c x y h = refl
best_m (suc (suc zero)) k c x y h = refl
best_m (suc (suc (suc s))) k c x y h = refl

best_a : (s k c : ℕ) (x y : Figure) → (s ≡ 0 → ⊥) → not (above x y) ≡ own_seen turn_a c x (seen_of s k y)
unfolding own_seen seen_of figures
best_a zero k c x y h = absurd (h refl)
best_a (suc zero) k c x y h = refl
best_a (suc (suc zero)) k c x y h = refl
best_a (suc (suc (suc s))) k c x y h = refl

best_b : (g : Flag) (s k c : ℕ) (x y : Figure) → not (eqb s 0) ≡ own_seen (turn_b g) c x (seen_of s k y)
unfolding own_seen seen_of
best_b g zero k c x y = refl
best_b g (suc zero) k c x y = refl
best_b g (suc (suc zero)) k c x y = refl
best_b g (suc (suc (suc s))) k c x y = ap not (eqb-suc-zero (suc (suc s)))

module _ (f : Record) (i : ℕ) (past : i < f.position) where
  pub seen_b : not (eqb f.seen 0) ≡ own_passed i (reading_of (turn_b (flag_of f.flag)) f)
  seen_b =
      best_b (flag_of f.flag) f.seen f.highest f.island f.carried f.best
      ∙ past_own (turn_b (flag_of f.flag)) f i past

  -- the code's comparison, whose figures are those that the fields' bits stand for
  module _ (something : f.seen ≡ 0 → ⊥) (r : Bool) (h : SFits w32 f.carried) (l : SFits w32 f.best) where
    pub seen_a : r ≡ above (to_z w32 (of_z w32 f.carried)) (to_z w32 (of_z w32 f.best))
        → not r ≡ own_passed i (reading_of turn_a f)
    seen_a e =
        ap not (e ∙ (λ q. above (to_z-of_z h q) (to_z-of_z l q)))
        ∙ best_a f.seen f.highest f.island f.carried f.best something ∙ past_own turn_a f i past

    pub seen_m : r ≡ pair_above figures f.island (to_z w32 (of_z w32 f.carried)) f.highest
        (to_z w32 (of_z w32 f.best))
        → not r ≡ own_passed i (reading_of turn_m f)
    seen_m e =
        ap not (e ∙ (λ q. pair_above figures f.island (to_z-of_z h q) f.highest (to_z-of_z l q)))
        ∙ best_m f.seen f.highest f.island f.carried f.best something ∙ past_own turn_m f i past

-- ---- both clauses, after the test of the own register
module _ (t : Turn) (n i : ℕ) (b : List ℕ) (f : Record) (a : Bool) (e : a ≡ own_written n i b (reading_of t f)) where
  pub not_written : a ≡ false → a ≡ own_kept n i b (reading_of t f)
  not_written = and_else _ _ a e

  module _ (h : a ≡ true) where
    pub seen_as : (r : Bool) → r ≡ own_passed i (reading_of t f) → r ≡ own_kept n i b (reading_of t f)
    seen_as = and_then _ _ a e h

    pub not_passed : (p : ℕ) → p ≡ f.position → p ≤ i → leb p i ≡ own_kept n i b (reading_of t f)
    not_passed p q l = le-leb p i l ∙ seen_as true (before_own t f i (omega arith))

    pub nothing_seen : i < f.position → f.seen ≡ 0 → not (eqb f.seen 0) ≡ own_kept n i b (reading_of t f)
    unfolding own_seen seen_of
    nothing_seen p s =
        seen_as _ (ap (λ (s : ℕ). not (eqb s 0)) s
        ∙ ap (λ (s : ℕ). own_seen t f.island f.carried (seen_of s f.highest f.best)) (sym s) ∙ past_own t f i p)

-- ---- the record at its phase
module _ (n i : ℕ) (b : List ℕ) (f : Record) where
  at_phase : (p : ℕ) (r : Bool) → f.phase ≡ p → r ≡ own_written n i b (of_phase p f) && own_passed i (of_phase p f)
      → r ≡ own_written n i b (record_value f) && own_passed i (record_value f)
  unfolding record_value
  at_phase p r e h = h ∙ ap (λ (p : ℕ). own_written n i b (of_phase p f) && own_passed i (of_phase p f)) (sym e)

  module _ (r : Bool) where
    pub collects_m : f.phase ≡ 2 → r ≡ own_written n i b (reading_of turn_m f) && own_passed i (reading_of turn_m f)
        → r ≡ own_written n i b (record_value f) && own_passed i (record_value f)
    unfolding of_phase
    collects_m = at_phase 2 r

    pub collects_a : f.phase ≡ 4 → r ≡ own_written n i b (reading_of turn_a f) && own_passed i (reading_of turn_a f)
        → r ≡ own_written n i b (record_value f) && own_passed i (record_value f)
    unfolding of_phase
    collects_a = at_phase 4 r

    pub collects_b : f.phase ≡ 6
        → r ≡ own_written n i b (reading_of (turn_b (flag_of f.flag)) f) && own_passed i
        (reading_of (turn_b (flag_of f.flag)) f)
        → r ≡ own_written n i b (record_value f) && own_passed i (record_value f)
    unfolding of_phase
    collects_b = at_phase 6 r

  quiet : (p : ℕ) → (p ≡ 2 → ⊥) → (p ≡ 4 → ⊥) → (p ≡ 6 → ⊥)
      → true ≡ own_written n i b (of_phase p f) && own_passed i (of_phase p f)
  unfolding of_phase writing_of own_written own_passed
  quiet zero x y z = refl
  quiet (suc zero) x y z = refl
  quiet (suc (suc zero)) x y z = absurd (x refl)
  quiet (suc (suc (suc zero))) x y z = refl
  quiet (suc (suc (suc (suc zero)))) x y z = absurd (y refl)
  quiet (suc (suc (suc (suc (suc zero))))) x y z = refl
  quiet (suc (suc (suc (suc (suc (suc zero)))))) x y z = absurd (z refl)
  quiet (suc (suc (suc (suc (suc (suc (suc zero))))))) x y z = refl
  quiet (suc (suc (suc (suc (suc (suc (suc (suc p)))))))) x y z = refl

  pub not_collecting : (f.phase ≡ 2 → ⊥) → (f.phase ≡ 4 → ⊥) → (f.phase ≡ 6 → ⊥)
      → true ≡ own_written n i b (record_value f) && own_passed i (record_value f)
  unfolding record_value
  not_collecting x y z = quiet f.phase x y z

-- by turn
pub ruleset in_m = (written_m, not_written, not_passed, seen_as, nothing_seen, seen_m)

pub ruleset in_a = (place_a, written_a, not_written, not_passed, seen_as, nothing_seen, seen_a)

pub ruleset in_b = (place_b, written_b, not_written, not_passed, seen_as, seen_b)

pub ruleset by_phase = (place_m, collects_m, collects_a, collects_b, not_collecting)
