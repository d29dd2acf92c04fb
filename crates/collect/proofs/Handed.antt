-- What a test or a choice between figures answered, where the figures were handed over by their bits: u and v are then
-- the numbers of the bits of x and y. Relies on the order's definitions; the proofs of the collects rely on it.
use Rattle.model.proofs.Kit.{◌≡◌, sym, ◌∙◌, Bool, true, false, ℕ, w32, to_z, of_z, SFits, eq-eqb, ne_eqb}
use Rattle.model.specs.declared.Record.{Record}
use Rattle.model.specs.Layout.{changed}
use Rattle.collect.specs.Collected.{noting}
use Rattle.model.specs.Figure.{Figure, figures, same_figure}
use Rattle.model.specs.Listing.{larger, pair_above}
use Rattle.figures.proofs.Laws.Order.{same_bits}

-- a figure is the number of its bits
abbrev pub Handed : Figure → Type 0
Handed v = to_z w32 (of_z w32 v) ≡ v

module _ (x y : Figure) (f : SFits w32 x) (g : SFits w32 y) where
  pub same_bits_told : of_z w32 x ≡ of_z w32 y → same_figure x y ≡ true
  same_bits_told e = sym (same_bits x y f g) ∙ eq-eqb (of_z w32 x) (of_z w32 y) e

  pub other_bits_told : (of_z w32 x ≡ of_z w32 y → ⊥) → same_figure x y ≡ false
  other_bits_told n = sym (same_bits x y f g) ∙ ne_eqb (of_z w32 x) (of_z w32 y) n

-- The premise that the call's contract gives stands first, since it names all that the others speak of.
pub pair_told : (t b : Bool) (j k : ℕ) (u v x y : Figure) → t ≡ pair_above figures k v j u → u ≡ x → v ≡ y → t ≡ b
    → pair_above figures k y j x ≡ b
pair_told t b j k u v x y q eu ev e = (λ i. pair_above figures k (sym ev i) j (sym eu i)) ∙ sym q ∙ e

pub larger_told : (u v x y w z : Figure) → w ≡ larger figures u v → u ≡ x → v ≡ y → z ≡ w → z ≡ larger figures x y
larger_told u v x y w z q eu ev e = e ∙ q ∙ (λ i. larger figures (eu i) (ev i))

-- a record whose figures were handed over so, with other seen fields
pub noted_told : (f : Record) (s k : ℕ) (y : Figure) → Handed f.proposal → Handed f.carried → Handed y
    → record {
      phase = f.phase;
      position = f.position;
      island = f.island;
      seen = s;
      highest = k;
      flag = f.flag;
      proposal = to_z w32 (of_z w32 f.proposal);
      carried = to_z w32 (of_z w32 f.carried);
      best = to_z w32 (of_z w32 y);
      steps = f.steps;
      met = f.met;
    } ≡ noting f s k y
unfolding noting changed
noted_told f s k y p c e = λ i. record {
  phase = f.phase;
  position = f.position;
  island = f.island;
  seen = s;
  highest = k;
  flag = f.flag;
  proposal = p i;
  carried = c i;
  best = e i;
  steps = f.steps;
  met = f.met;
}
