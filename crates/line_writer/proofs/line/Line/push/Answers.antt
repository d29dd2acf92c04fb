use Rattle.std.proofs.Common.{◌∙◌, ◌+◌, arith, rules, length-set}
use Rattle.std.proofs.lemmas.List.{drop-set-lt}
use Rattle.line_writer.specs.Padded.{fewer}
use Rattle.line_writer.proofs.line.Line.push.Goals as goal

pub invariant_of-self : goal.invariant_of-self
invariant_of-self c =
    let h = c.self.invariant in (
      search rules,
      length-set _ _ _ ∙ h.1,
      drop-set-lt (c.self.inside.len + 1) _ c.self.inside.len _ (omega arith) ∙ fewer _ _ h.0 h.1 h.2 1,
    )
