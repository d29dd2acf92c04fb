-- `print_answer` meets its contract: the culprit's line lies inside its tape.
use Rattle.std.specs.Prelude.{Ok}
use Rattle.model.proofs.Kit.{ap, ◌∙◌}
use Rattle.tapes.proofs.Laws.TakenParts.{compared_fits}
use Rattle.compare.proofs.print_answer.Goals as goal

pub part_of-requires : goal.part_of-requires
part_of-requires g c =
    compared_fits _ _ _ _ c.compare.ensures _ (c.in-Ok-Some.is ∙ ap (λ o. Ok o) c.in-Ok-Some.field-0-is)
