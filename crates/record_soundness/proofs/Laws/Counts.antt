-- The counts of a record against the most that its phase allows. Of steps: the turns behind it, and in a collect its
-- write and what it has read. Of filled registers met: what it has read.
-- Relies on soundness's bounds; the proofs of `steps_sound` and `met_sound` rely on it.
use Rattle.model.proofs.Kit.{◌≡◌, refl, sym, ap, ◌∙◌, Bool, true, false, cond, ℕ, zero, suc, ◌+◌, ◌-◌, ◌≤◌, ◌/◌, ◌*◌}
use Rattle.model.proofs.Kit.{◌<◌, ◌&&◌, List, length, leb, leb→le, eqb, eqb→eq, T, le-leb, ℕ_discrete, arith}
use Rattle.model.specs.declared.Record.{Record}
use Rattle.model.specs.Layout.{writing_of, reading_of, of_phase, record_value, lay_record, met_at, gap_at}
use Rattle.model.specs.Bytes.{byte, number, part, zeros}
use Rattle.model.specs.Sound.{collecting, collect_zero, turns_before, present_pass, island_of, most_steps, steps_kept}
use Rattle.model.specs.Sound.{most_met}
use Rattle.model.proofs.Basics.Tests.{and_l, true-T}
use Rattle.model.proofs.Basics.Parts.{listed, part_listed}
use Rattle.record_soundness.specs.Groups.{laid, met_pair}

module _ (n : ℕ) (f : Record) where
  -- the steps of the turns behind a station
  abbrev pub behind : ℕ → ℕ
  behind phase = (3 * f.island + (phase - 1) / 2) * (n + 1)

  most_at : (k : ℕ) → (k ≡ 0 → ⊥) → k ≤ 8
      → behind k + cond (collecting k (lay_record f)) (1 + f.position) 0 ≡ most_steps n (of_phase k f)
  unfolding collecting of_phase writing_of reading_of most_steps present_pass turns_before island_of
  most_at zero g h = absurd (g refl)
  most_at (suc zero) g h = omega arith
  most_at (suc (suc zero)) g h = omega arith
  most_at (suc (suc (suc zero))) g h = omega arith
  most_at (suc (suc (suc (suc zero)))) g h = omega arith
  most_at (suc (suc (suc (suc (suc zero))))) g h = omega arith
  most_at (suc (suc (suc (suc (suc (suc zero)))))) g h = omega arith
  most_at (suc (suc (suc (suc (suc (suc (suc zero))))))) g h = omega arith
  most_at (suc (suc (suc (suc (suc (suc (suc (suc zero)))))))) g h = omega arith
  most_at (suc (suc (suc (suc (suc (suc (suc (suc (suc k))))))))) g h = absurd (omega arith)

  -- a station that has taken a step has begun
  pub begun : (f.steps ≡ 0 → ⊥) → (f.phase ≡ 0 → f.steps ≡ 0) → 1 ≤ f.phase
  begun g z = go (ℕ_discrete f.phase 0)
    where
      go : Dec (f.phase ≡ 0) → 1 ≤ f.phase
      go (yes e) = absurd (g (z e))
      go (no d) = omega arith

  module _ (g : f.steps ≡ 0 → ⊥) (z : f.phase ≡ 0 → f.steps ≡ 0) (h : f.phase ≤ 8) (r : Bool)
      (e : r ≡ collecting f.phase (lay_record f)) where
    kept : (t : Bool) → r ≡ t
        → leb f.steps (behind f.phase + cond t (1 + f.position) 0) ≡ steps_kept n f.steps (record_value f)
    unfolding steps_kept record_value
    kept t q =
        ap (λ (c : Bool). leb f.steps (behind f.phase + cond c (1 + f.position) 0)) (sym q ∙ e)
        ∙ ap (leb f.steps) (most_at f.phase (λ p. g (z p)) h)

    pub kept_collecting : r ≡ true
        → leb f.steps (behind f.phase + 1 + f.position) ≡ steps_kept n f.steps (record_value f)
    kept_collecting q = ap (leb f.steps) sum ∙ kept true q
      where
        sum : behind f.phase + 1 + f.position ≡ behind f.phase + (1 + f.position)
        sum = omega arith

    pub kept_between : r ≡ false → leb f.steps (behind f.phase) ≡ steps_kept n f.steps (record_value f)
    kept_between q = ap (leb f.steps) sum ∙ kept false q
      where
        sum : behind f.phase ≡ behind f.phase + 0
        sum = omega arith

  -- a count of 0 is within every bound
  pub kept_none : f.steps ≡ 0 → true ≡ steps_kept n f.steps (record_value f)
  unfolding steps_kept
  kept_none e = sym (le-leb f.steps (most_steps n (record_value f)) (omega arith))

-- ---- what a collect has met

module _ (f : Record) where
  -- the bytes of a collect that is not under way are zero, its position first
  abbrev Rests : Type 0
  Rests = T (eqb f.position 0 && eqb f.seen 0 && zeros (part 16 4 (lay_record f)))

  at_zero : Rests → 0 ≡ f.position
  at_zero t = sym (eqb→eq f.position 0 (search and_l))

  met_at_lem : (k : ℕ) → k ≤ 8 → T (collect_zero k (lay_record f)) → most_met (of_phase k f) ≡ f.position
  unfolding collect_zero collecting of_phase writing_of reading_of most_met lay_record
  met_at_lem zero h t = at_zero t
  met_at_lem (suc zero) h t = at_zero t
  met_at_lem (suc (suc zero)) h t = refl
  met_at_lem (suc (suc (suc zero))) h t = at_zero t
  met_at_lem (suc (suc (suc (suc zero)))) h t = refl
  met_at_lem (suc (suc (suc (suc (suc zero))))) h t = at_zero t
  met_at_lem (suc (suc (suc (suc (suc (suc zero)))))) h t = refl
  met_at_lem (suc (suc (suc (suc (suc (suc (suc zero))))))) h t = at_zero t
  met_at_lem (suc (suc (suc (suc (suc (suc (suc (suc zero)))))))) h t = at_zero t
  met_at_lem (suc (suc (suc (suc (suc (suc (suc (suc (suc k))))))))) h t = absurd (omega arith)

  -- so that it is the most that a collect may have met
  pub most_met_lem : f.phase ≤ 8 → laid collect_zero f ≡ true → most_met (record_value f) ≡ f.position
  unfolding record_value
  most_met_lem h e = met_at_lem f.phase h (true-T _ e)

-- ---- with the byte behind it

module _ (b : List ℕ) (at : ℕ) where
  module _ (h : at + 24 ≤ length b) where
    pub pair_is : met_pair at b ≡ byte b (at + met_at) + 256 * byte b (at + gap_at)
    unfolding number listed
    pair_is =
        ap number (part_listed (at + met_at) 2 b (omega arith))
        ∙ (λ i. byte b (first i) + 256 * (byte b (second i) + 256 * 0)) ∙ omega arith
      where
        first : at + met_at + 0 ≡ at + met_at
        first = omega arith

        second : at + met_at + 1 ≡ at + gap_at
        second = omega arith

    -- a number that a byte bounds has a high byte of zero
    pub pair_low : (p : ℕ) → p < 256 → leb (met_pair at b) p ≡ true
        → (byte b (at + gap_at) ≡ 0) × (byte b (at + met_at) ≤ p)
    pair_low p l e =
        let few = leb→le (met_pair at b) p (true-T _ e) in (omega (arith, few, pair_is), omega (arith, few, pair_is))

    pub pair_high : (p : ℕ) → byte b (at + gap_at) ≡ 0 → byte b (at + met_at) ≤ p → leb (met_pair at b) p ≡ true
    pair_high p z l = le-leb (met_pair at b) p (omega (arith, pair_is))

pub ruleset bounds = (kept_none, kept_collecting, kept_between)
