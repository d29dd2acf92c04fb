-- Items run as they stand in a line.
-- Relies on the items that stand in a line and on the run of a list of stations; the contracts of the crate rely on it.
use Rattle.std.specs.Prelude.{◌≡◌, List, ℕ, ◌≤◌, length}
use Rattle.std.proofs.Math.Option.{Option}
use Rattle.std.specs.declared.result.Result.{Result}
use Rattle.model.specs.declared.refusal.Refusal.{Refusal}
use Rattle.model.specs.declared.Ran.{Ran}
use Rattle.model.specs.Calls.{run}
use Rattle.model.specs.Told.{run_told}
use Rattle.model.specs.Forms.{Items, Read, expand_item, expand, item_in, items_in, steps, word_place, reads, read_line}
use Rattle.lexer.specs.declared.At.{At}
use Rattle.sheet.specs.declared.form.LineForm.TheVariants.{Steps}
use Rattle.sheet.specs.LineForms.{line_form}
use Rattle.stepping.specs.Stepped.{RunsOn}
use Rattle.item_walks.specs.ItemWalks.{Readable, ItemDone, ItemsDone}

-- an item, or a list of them, by its reader and the steps that it expands to: it stands at `at` in the line, and is not
-- too long to run
pub record Runnable {A : Type 0} (reader : ℕ → List ℕ → Option (Read A)) (steps : A → List ℕ) (line : List ℕ) (at : ℕ)
    : Type 0 where
  pub there : Readable reader line at
  pub few : length (steps there.value) ≤ 65536

abbrev pub ItemRunnable : List ℕ → ℕ → Type 0
ItemRunnable = Runnable item_in expand_item

abbrev pub ItemsRunnable : List ℕ → ℕ → Type 0
ItemsRunnable = Runnable items_in expand

-- the steps `is` are run from the board b to the board d, and so many of them are taken
unfoldable pub RunFrom : (b : List ℕ) (taken : ℕ) (d is : List ℕ) → Type 0
RunFrom b taken d is = RunsOn is b taken d

-- its steps are run so
abbrev pub ItemRuns : (line : List ℕ) (at : ℕ) (b : List ℕ) → At ℕ → List ℕ → Type 0
ItemRuns line at b r d = ItemDone (RunFrom b r.value d) line at r.next

abbrev pub ItemsRun : (line : List ℕ) (at : ℕ) (b : List ℕ) → At ℕ → List ℕ → Type 0
ItemsRun line at b r d = ItemsDone (RunFrom b r.value d) line at r.next

-- the line was read as `steps` with its items from `at` on and this count
unfoldable pub LineCounts : List ℕ → (at count : ℕ) → Type 0
LineCounts line at c = line_form (word_place line) (read_line line) ≡ reads (Steps at c)

-- and its steps are run as the call `run` runs their list
unfoldable pub RunsLine : (line b : List ℕ) → Result Ran Refusal → List ℕ → Type 0
RunsLine line b r d =
    (is : Items) → read_line line ≡ reads (steps is)
    → (run_told r ≡ (run (expand is) b).answer) × (d ≡ (run (expand is) b).bytes)
