-- How a station stands, as the code tells it at each phase.
-- Relies on the model's standing by phase; `standing_of` cites it.
use Rattle.model.proofs.Kit.{◌≡◌, sym, ap, ◌∙◌, ◌≤◌, ◌<◌}
use Rattle.model.specs.declared.Record.{Record}
use Rattle.model.specs.declared.Standing.TheVariants.{Idle, Going, Decided, Spent}
use Rattle.model.specs.Figure.{Figure}
use Rattle.model.specs.Layout.{record_value}
use Rattle.model.specs.Standing.{stands_going, stands_decided, stands_spent, standing_of}
use Rattle.model.specs.Told.{standing_told}
use Rattle.model.proofs.Board.Phases.{idle_stands, going_stands, decided_stands, spent_stands}

-- z is the figure as the code passed it on
module _ (f : Record) where
  pub idle_told : f.phase ≡ 0 → standing_told Idle ≡ standing_of (record_value f)
  unfolding standing_told
  idle_told e = sym (idle_stands f e)

  pub going_told : (z : Figure) → z ≡ f.carried → (f.phase ≡ 0 → ⊥) → f.phase < 7
      → standing_told (Going f.island z) ≡ standing_of (record_value f)
  unfolding standing_told
  going_told z l n h = ap (stands_going f.island) l ∙ sym (going_stands f n h)

  pub decided_told : (z : Figure) → z ≡ f.carried → f.phase ≡ 7
      → standing_told (Decided f.island z) ≡ standing_of (record_value f)
  unfolding standing_told
  decided_told z l e = ap (stands_decided f.island) l ∙ sym (decided_stands f e)

  pub spent_told : (z : Figure) → z ≡ f.carried → 7 ≤ f.phase → (f.phase ≡ 7 → ⊥)
      → standing_told (Spent f.island z) ≡ standing_of (record_value f)
  unfolding standing_told
  spent_told z l h n = ap (stands_spent f.island) l ∙ sym (spent_stands f h n)

pub ruleset by_phase = (idle_told, going_told, decided_told, spent_told)
