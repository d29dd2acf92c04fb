-- `part_of` meets its contract: the part of the tape that is named.
-- Relies on the laws of a part of one of two tapes.
use Rattle.std.proofs.Common.{rules}
use Rattle.model.proofs.Kit.{refl, arith}
use Rattle.tapes.proofs.Laws.TakenParts.{inside_first, inside_second, part_first, part_second}
use Rattle.tapes.proofs.comparing.part_of.Goals as goal

pub overflow_add-result : goal.overflow_add-result
overflow_add-result c = record { fits = omega (arith, inside_first _ _ _ c.requires (search)) }

pub slice_bounds-result-end : goal.slice_bounds-result-end
slice_bounds-result-end c = search (inside_first, rules)

pub overflow_add-result-in-Second : goal.overflow_add-result-in-Second
overflow_add-result-in-Second c = record { fits = omega (arith, inside_second _ _ _ c.requires (search)) }

pub slice_bounds-result-end-in-Second : goal.slice_bounds-result-end-in-Second
slice_bounds-result-end-in-Second c = search (inside_second, rules)

pub returns-in-First : goal.returns-in-First
returns-in-First c = part_first _ _ _ c.args.found.line _ _ _ (search) refl refl (omega arith)

pub returns-in-Second : goal.returns-in-Second
returns-in-Second c = part_second _ _ _ c.args.found.line _ _ _ (search) refl refl (omega arith)
