-- A line's reading as the code hands it back: a form's numbers by value; of `steps`, of `rounds` and of pairs the place
-- where what follows the word begins, and of its items, rounds or pairs no more than a summary; or the number of the
-- refusal.
-- Relies on the model's readings, the refusals' numbers, the cap of a count and what rounds ask of a board; the contracts
-- of the reader of a line rely on it.
use Rattle.std.specs.Prelude.{ℕ, length, Ok, Err}
use Rattle.std.specs.declared.result.Result.{Result}
use Rattle.model.specs.declared.refusal.Refusal.{Refusal}
use Rattle.model.specs.Told.{number}
use Rattle.model.specs.Forms.{Form, board, propose, steps, show, rounds, proposals, expand, Reading, reads, unread}
use Rattle.halts.specs.Needs.{needs}
use Rattle.sheet.specs.declared.form.LineForm.{LineForm}
use Rattle.sheet.specs.declared.form.LineForm.TheVariants.{Board, Propose, Steps, Show, Rounds, Proposals}
use Rattle.item_reader.specs.Counts.{capped}

-- what the code answers
abbrev pub told : Result LineForm Refusal → Reading LineForm
told (Ok f) = reads f
told (Err e) = unread (number e)

-- and what it makes of the model's reading
unfoldable pub line_form : (at : ℕ) → Reading Form → Reading LineForm
line_form at (reads (board n K)) = reads (Board n K)
line_form at (reads (propose i v)) = reads (Propose i v)
line_form at (reads (steps is)) = reads (Steps at (capped (length (expand is))))
line_form at (reads show) = reads Show
line_form at (reads (rounds k rs)) = reads (Rounds at (length rs) (needs k rs))
line_form at (reads (proposals ps)) = reads (Proposals at (length ps))
line_form at (unread k) = unread k
