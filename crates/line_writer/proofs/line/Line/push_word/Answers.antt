use Rattle.std.proofs.Common.{◌∙◌, length, arith, rules}
use Rattle.std.proofs.lemmas.Grind.{common_steps}
use Rattle.std.proofs.lemmas.Slice.{drop-put_mid}
use Rattle.line_writer.specs.Padded.{fewer}
use Rattle.line_writer.proofs.line.Line.push_word.Goals as goal

pub invariant_of-self : goal.invariant_of-self
invariant_of-self c =
    let h = c.self.invariant in
    let n = length c.args.word.now in (
      search rules,
      grind (arith, common_steps),
      drop-put_mid c.self.inside.len _ _ _ _ (omega arith) (omega (arith, h.0, h.1)) (grind (arith, common_steps))
          ∙ fewer _ _ h.0 h.1 h.2 n,
    )
