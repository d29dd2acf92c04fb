-- `status::write_standing` meets its contract: the line that was put together is the text, and it is put at the place.
use Rattle.std.proofs.Common.{rules}
use Rattle.model.proofs.Kit.{◌≡◌, ap, ◌∙◌, ◌++◌, ℕ, ◌+◌, length, to_z-of_z, w32}
use Rattle.line_writer.proofs.LentBytes.{part_back}
use Rattle.shown.specs.Texts.{standing_bytes}
use Rattle.shown.proofs.status.write_standing.Goals as goal

pub returns-clause-bytes : goal.returns-clause-bytes
returns-clause-bytes c =
    let figure = to_z-of_z {w = w32} (search rules) in
    let whole : c.push_standing.new.line ≡ standing_bytes c.args.word.now c.args.island c.args.figure =
    c.push_standing.ensures
    ∙ (λ j. c.new-line.ensures j ++ standing_bytes c.args.word.now c.args.island (figure j)) in
    part_back _ _ (ap (λ (k : ℕ). c.args.at + k) (c.len.ensures.counted ∙ ap length whole))
    (c.copy_from_slice.ensures.after ∙ c.as_slice.ensures ∙ whole)
