-- How a station stands by the phase of its record.
-- Relies on the layout; the code that tells how a station stands, in a line or as an answer, relies on it.
use Rattle.model.proofs.Kit.{◌≡◌, refl, ap, ◌∙◌, ℕ, zero, suc, ◌≤◌, ◌<◌, arith}
use Rattle.model.specs.declared.Record.{Record}
use Rattle.model.specs.Layout.{record_value, of_phase, writing_of, reading_of}
use Rattle.model.specs.Standing.{stands_idle, stands_going, stands_decided, stands_spent, standing_of}

idle_at : (f : Record) → standing_of (of_phase 0 f) ≡ stands_idle
unfolding of_phase standing_of
idle_at f = refl

going_at : (p : ℕ) (f : Record) → (p ≡ 0 → ⊥) → p < 7 → standing_of (of_phase p f) ≡ stands_going f.island f.carried
unfolding of_phase writing_of reading_of standing_of
going_at zero f n h = absurd (n refl)
going_at (suc zero) f n h = refl
going_at (suc (suc zero)) f n h = refl
going_at (suc (suc (suc zero))) f n h = refl
going_at (suc (suc (suc (suc zero)))) f n h = refl
going_at (suc (suc (suc (suc (suc zero))))) f n h = refl
going_at (suc (suc (suc (suc (suc (suc zero)))))) f n h = refl
going_at (suc (suc (suc (suc (suc (suc (suc p))))))) f n h = absurd (omega arith)

decided_at_lem : (f : Record) → standing_of (of_phase 7 f) ≡ stands_decided f.island f.carried
unfolding of_phase standing_of
decided_at_lem f = refl

spent_at_lem : (p : ℕ) (f : Record) → 7 ≤ p → (p ≡ 7 → ⊥) → standing_of (of_phase p f) ≡ stands_spent f.island f.carried
unfolding of_phase standing_of
spent_at_lem zero f h n = absurd (omega arith)
spent_at_lem (suc zero) f h n = absurd (omega arith)
spent_at_lem (suc (suc zero)) f h n = absurd (omega arith)
spent_at_lem (suc (suc (suc zero))) f h n = absurd (omega arith)
spent_at_lem (suc (suc (suc (suc zero)))) f h n = absurd (omega arith)
spent_at_lem (suc (suc (suc (suc (suc zero))))) f h n = absurd (omega arith)
spent_at_lem (suc (suc (suc (suc (suc (suc zero)))))) f h n = absurd (omega arith)
spent_at_lem (suc (suc (suc (suc (suc (suc (suc zero))))))) f h n = absurd (n refl)
spent_at_lem (suc (suc (suc (suc (suc (suc (suc (suc p)))))))) f h n = refl

module _ (f : Record) where
  pub idle_stands : f.phase ≡ 0 → standing_of (record_value f) ≡ stands_idle
  unfolding record_value
  idle_stands e = ap (λ (p : ℕ). standing_of (of_phase p f)) e ∙ idle_at f

  pub going_stands : (f.phase ≡ 0 → ⊥) → f.phase < 7
      → standing_of (record_value f) ≡ stands_going f.island f.carried
  unfolding record_value
  going_stands n h = going_at f.phase f n h

  pub decided_stands : f.phase ≡ 7 → standing_of (record_value f) ≡ stands_decided f.island f.carried
  unfolding record_value
  decided_stands e = ap (λ (p : ℕ). standing_of (of_phase p f)) e ∙ decided_at_lem f

  pub spent_stands : 7 ≤ f.phase → (f.phase ≡ 7 → ⊥)
      → standing_of (record_value f) ≡ stands_spent f.island f.carried
  unfolding record_value
  spent_stands h n = spent_at_lem f.phase f h n
