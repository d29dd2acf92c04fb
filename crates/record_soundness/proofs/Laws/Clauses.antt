-- The clauses on a record's fields, where they speak of figures.
-- Relies on the laws of zeros; the proofs of fields rely on it.
use Rattle.model.proofs.Kit.{◌≡◌, refl, sym, ap, Bool, true, ◌&&◌, ◌||◌, not, ℕ, ◌<◌, ne_eqb, arith, eqb, leb, ltb, w32, of_z, SFits}
use Rattle.model.specs.declared.Record.{Record}
use Rattle.model.specs.Bytes.{digits, part, zeros, implies}
use Rattle.model.specs.Figure.{figure_bytes}
use Rattle.model.specs.Layout.{lay_record}
use Rattle.model.specs.Sound.{phase_known, position_inside, island_inside, best_inside, idle_zero, rest_zero}
use Rattle.model.specs.Sound.{collecting, collect_zero, best_zero}
use Rattle.record_soundness.specs.Groups.{laid, bounds_kept}
use Rattle.figures.proofs.Laws.Zeros.{figure_zero}
use Rattle.record_soundness.proofs.Laws.Chains.{implies_no}

best_zero_lem : (f : Record) → SFits w32 f.best → eqb (of_z w32 f.best) 0 ≡ zeros (part 16 4 (lay_record f))
unfolding lay_record part figure_bytes digits
best_zero_lem f h = figure_zero f.best h

-- the clauses by the fields that the code tests
pub bounds_form : (n K : ℕ) (f : Record)
    → bounds_kept n K f ≡ leb f.phase 8 && ltb f.position n && ltb f.island K && ltb f.highest K
unfolding phase_known position_inside island_inside best_inside lay_record
bounds_form n K f = refl

module _ (f : Record) (h : SFits w32 f.best) where
  pub collect_form : laid collect_zero f
      ≡ laid collecting f || (eqb f.position 0 && eqb f.seen 0 && eqb (of_z w32 f.best) 0)
  unfolding collect_zero lay_record
  collect_form =
      ap (λ (t : Bool). laid collecting f || (eqb f.position 0 && eqb f.seen 0 && t)) (sym (best_zero_lem f h))

  pub best_form : laid best_zero f ≡ not (eqb f.seen 0) || (eqb f.highest 0 && eqb (of_z w32 f.best) 0)
  unfolding best_zero implies lay_record
  best_form = ap (λ (t : Bool). not (eqb f.seen 0) || (eqb f.highest 0 && t)) (sym (best_zero_lem f h))

-- a station that has proposed is not idle
pub busy : (f : Record) → 0 < f.phase → true ≡ idle_zero f.phase (lay_record f)
unfolding idle_zero
busy f h = implies_no _ _ (ne_eqb f.phase 0 (λ e. omega arith))

-- the layout leaves zeros in the bytes that no field has
pub rest_laid : (f : Record) → rest_zero f.phase (lay_record f) ≡ true
unfolding rest_zero lay_record part zeros figure_bytes digits
rest_laid f = refl

-- what holds of every record that is not idle, as it is laid
pub ruleset always = (rest_laid, busy)
