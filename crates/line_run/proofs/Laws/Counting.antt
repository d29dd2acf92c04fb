-- A line that was read as `steps`: where its items stand, how many steps they are, and the answer of its run at each
-- return. Relies on the sheet's Readings, on what a read line holds and on the calls' runs; the proof of `run_line`
-- relies on it.
use Rattle.model.proofs.Kit.{◌≡◌, refl, sym, ap, subst, ◌∙◌, List, [], ◌∷◌, ◌++◌, none, ℕ, ◌+◌, ◌-◌, ◌≤◌, ◌<◌, length}
use Rattle.model.proofs.Kit.{drop, arith}
use Prim.Native.Nat.{min}
use Rattle.std.specs.Prelude.{Ok, Err}
use Rattle.model.specs.declared.refusal.Refusal.{Refusal}
use Rattle.model.specs.declared.refusal.Refusal.TheVariants.{TooManySteps}
use Rattle.model.specs.Calls.{board_refusal}
use Rattle.model.specs.Forms.{Items, done, next, steps, expand, found, items_in, up_to_stop, first_word, word_place, reads}
use Rattle.model.specs.Forms.{read_line}
use Rattle.model.specs.Show.{text, text_from}
use Rattle.model.specs.Told.{verdict}
use Rattle.model.specs.Grammar.{written, written_items, InRange}
use Rattle.model.proofs.Sheet.Written.{items_read}
use Rattle.model.proofs.Sheet.WrittenBack.{LineStood, line_stood}
use Rattle.sheet.specs.declared.form.LineForm.TheVariants.{Steps}
use Rattle.sheet.specs.LineForms.{line_form}
use Rattle.sheet.proofs.Laws.Readings.{read_as_lem}
use Rattle.stepping.specs.Stepped.{RunsOn}
use Rattle.stepping.proofs.Laws.Running.{runs_below, six_answer, six_bytes, board_answer, board_bytes, ran_answer, ran_bytes}
use Rattle.item_walks.specs.ItemWalks.{ItemsRead, PartDone}
use Rattle.lexer.specs.declared.At.{At}
use Rattle.line_run.specs.LineRuns.{ItemsRunnable, RunFrom, ItemsRun, LineCounts, RunsLine}

-- the items stand behind the word, up to the line's last bracket
behind_word : (is : Items) → drop (word_place (written (steps is))) (written (steps is)) ≡ written_items is ++ (41 ∷ [])
unfolding word_place first_word up_to_stop written written_items text text_from
behind_word done = refl
behind_word (next i is) = refl

pub items_at : (line : List ℕ) (is : Items) → read_line line ≡ reads (steps is)
    → items_in (length (written_items is) + 1) (drop (word_place line) line) ≡ found is []
unfolding LineStood InRange
items_at line is e =
    let stood : LineStood line (reads (steps is)) = subst (LineStood line) e (line_stood line) in
    ap (λ (l : List ℕ). items_in (length (written_items is) + 1) (drop (word_place l) l)) stood.0
    ∙ ap (items_in (length (written_items is) + 1)) (behind_word is)
    ∙ items_read is (length (written_items is) + 1) (omega arith) stood.1 []

-- ---- the run of such a line

module _ (line : List ℕ) (at c : ℕ) (counts : LineCounts line at c) where
  -- the place is the word's, and the count that of the steps, up to 65,537
  pub counted : (is : Items) → read_line line ≡ reads (steps is)
      → (word_place line ≡ at) × (c ≡ min (length (expand is)) 65537)
  unfolding LineCounts line_form
  counted is e =
      let q : reads (Steps (word_place line) (min (length (expand is)) 65537)) ≡ reads (Steps at c) =
      ap (line_form (word_place line)) (sym e) ∙ counts in
      let same : word_place line ≡ at = cc in
      let count : c ≡ min (length (expand is)) 65537 = cc in
      (same, count)

  pub items_there : (is : Items) → read_line line ≡ reads (steps is)
      → items_in (length (written_items is) + 1) (drop at line) ≡ found is []
  items_there is e =
      subst (λ (k : ℕ). items_in (length (written_items is) + 1) (drop k line) ≡ found is []) (counted is e).0
      (items_at line is e)

  pub its_items : (is : Items) × (read_line line ≡ reads (steps is))
  unfolding LineCounts
  its_items = read_as_lem (word_place line) (read_line line) (reads (Steps at c)) counts

  pub line_items : ItemsRead line at
  line_items =
      let s = its_items in
      record { fuel = length (written_items s.0) + 1; value = s.0; rest = []; read = items_there s.0 s.1 }

  pub line_reads : c ≤ 65536 → ItemsRunnable line at
  unfolding line_items
  line_reads h =
      let s = its_items in record { there = line_items; few = omega (arith, (counted s.0 s.1).1) }

  pub line_too_many : 65536 < c → (b : List ℕ) → RunsLine line b (Err TooManySteps) b
  unfolding RunsLine
  line_too_many h b is e =
      let long : 65536 < length (expand is) = omega (arith, (counted is e).1) in
      (six_answer (expand is) b long, six_bytes (expand is) b long)

  module _ (small : c ≤ 65536) (b : List ℕ) where
    short : (is : Items) → read_line line ≡ reads (steps is) → length (expand is) ≤ 65536
    short is e = omega (arith, (counted is e).1)

    pub line_refused : (k : Refusal) → verdict (Err k) ≡ board_refusal b none → RunsLine line b (Err k) b
    unfolding RunsLine
    line_refused k v is q =
        (board_answer (expand is) b (short is q) k v, board_bytes (expand is) b (short is q) k v)

    module _ (w : At ℕ) (d : List ℕ) (items-run : ItemsRun line at b w d) where
      ran_on : (is : Items) → read_line line ≡ reads (steps is) → RunsOn (expand is) b w.value d
      unfolding PartDone RunFrom
      ran_on is e = (items-run _ is [] (items_there is e)).ran

      pub taken_below : w.value ≤ c
      taken_below =
          let s = its_items in omega (arith, (counted s.0 s.1).1, runs_below _ _ _ _ (ran_on s.0 s.1))

      pub line_ran : board_refusal b none ≡ none → RunsLine line b (Ok (record { taken = w.value; passed = c - w.value })) d
      unfolding RunsLine
      line_ran sound is e =
          let all : c ≡ length (expand is) = omega (arith, (counted is e).1) in (
            ran_answer (expand is) b (short is e) sound w.value d (ran_on is e) (c - w.value) (ap (λ (x : ℕ). x - w.value) all),
            ran_bytes (expand is) b (short is e) sound w.value d (ran_on is e),
          )

pub ruleset lines = (line_too_many, line_refused, line_reads, taken_below, line_ran)
