-- `culprit_line` meets its contract: an empty part of the first tape, or the culprit's line where it stands.
-- Relies on the laws of a part of one of two tapes.
use Rattle.std.specs.Prelude.{Ok}
use Rattle.model.proofs.Kit.{ap, ◌∙◌}
use Rattle.tapes.proofs.Laws.TakenParts.{compared_fits, part_refused, part_alike, part_differs}
use Rattle.tapes.proofs.comparing.culprit_line.Goals as goal

pub part_of-requires : goal.part_of-requires
part_of-requires c =
    compared_fits _ _ _ _ c.compare.ensures _ (c.in-Ok-Some.is ∙ ap (λ o. Ok o) c.in-Ok-Some.field-0-is)

pub returns-in-Ok-Some : goal.returns-in-Ok-Some
returns-in-Ok-Some c =
    part_differs _ _ _ _ _ c.compare.ensures _ (c.in-Ok-Some.is ∙ ap (λ o. Ok o) c.in-Ok-Some.field-0-is) c.part_of.ensures

pub returns-in-Ok-None : goal.returns-in-Ok-None
returns-in-Ok-None c =
    part_alike _ _ _ _ _ c.compare.ensures (c.in-Ok-None.is ∙ ap (λ o. Ok o) c.in-Ok-None.field-0-is) (search) (search) (search)

pub returns-in-Err : goal.returns-in-Err
returns-in-Err c = part_refused _ _ _ _ _ c.compare.ensures _ c.in-Err.is (search) (search) (search)
