-- One more in the steps behind an access, which makes it the model's step.
-- Relies on the promise of `access` and the model's laws of records that are put in; Stepping relies on it.
use Rattle.model.proofs.Kit.{◌≡◌, ap, ◌∙◌, List, Option, ℕ, ◌+◌, ◌≤◌, ◌<◌, [], ◌∷◌, none, some, length, arith}
use Rattle.model.specs.declared.Record.{Record}
use Rattle.model.specs.declared.StepAnswer.{StepAnswer}
use Rattle.model.specs.Bytes.{part}
use Rattle.model.specs.Figure.{Figure}
use Rattle.model.specs.Listing.{Register, active, Array, place_array}
use Rattle.model.specs.Layout.{record_at, record_fields, record_of, read_record, put_changes, steps_is, with_counts, changed}
use Rattle.model.specs.Layout.{board_length}
use Rattle.model.specs.Filled.{filled_in, met_kept_at, report}
use Rattle.model.specs.Calls.{put_record, put_register, access}
use Rattle.model.specs.Told.{told}
use Rattle.model.proofs.Board.Places.{InBoard}
use Rattle.model.proofs.Board.Boards.{register_length, steps_over}
use Rattle.model.proofs.Calls.StepsTaken.{record_steps}
use Rattle.codec.specs.Parts.{meeting, steps_read}
use Rattle.archipelago.specs.Advanced.{Ready}
use Rattle.accessing.specs.Accessed.{register_on, move_on, total_on, Accesses, OnSize}
use Rattle.accessing.proofs.Laws.Accessing.{Standing, standing}

put_length : (n K : ℕ) (b : List ℕ) → length b ≡ board_length n K → (a : Array) → InBoard K a → (j : ℕ) → j < n
    → (o : Option (Register Figure)) → length (put_register n a j o b) ≡ board_length n K
unfolding put_register
put_length n K b len a inside j own none = len
put_length n K b len a inside j own (some r) = register_length n K b len a inside j own r

module _ (n K j at : ℕ) (f : Record) (b : List ℕ) (h : Ready n K f) (z : OnSize n K j b) (place : at ≡ record_at n K j)
    (read : f ≡ meeting 0 (read_record (part at 24 b))) where
  -- the access leaves the steps as they were
  pub steps_kept_lem : f.steps ≤ 3264 → (r : StepAnswer) (d : List ℕ) → Accesses n K j at f b r d → steps_read at d ≡ f.steps
  unfolding Accesses record_of changed
  steps_kept_lem few r d a =
      let s = standing n K j f h z.own in
      let m = move_on n K j s.stage b in
      let len = put_length n K b z.len (place_array s.stage) s.inside j z.own m.written in
      (λ i. (read_record (part (place i) 24 ((a s.stage s.stands).1 i))).steps)
      ∙ record_steps n K _ len j z.own (active f.proposal m.stage) _ (omega arith)

  pub counted : f.steps ≤ 3264 → (r : StepAnswer) (d e : List ℕ) → Accesses n K j at f b r d
      → e ≡ put_changes (steps_is (steps_read at d + 1) ∷ []) at d → (s : Standing n K j f)
      → (told r ≡ (access n K j f.proposal s.stage b).answer)
      × (e ≡ (access n K j f.proposal s.stage b).bytes)
  unfolding Accesses access record_of changed
  counted few r d e a q s =
      let m = move_on n K j s.stage b in
      let p = a s.stage s.stands in
      let met : ℕ → ℕ = λ x. total_on n j x s.stage b in
      let put = put_register n (place_array s.stage) j m.written b in
      let len = put_length n K b z.len (place_array s.stage) s.inside j z.own m.written in (
        p.0 ∙ ap (λ (x : ℕ). report m.answer (filled_in (register_on n j s.stage b)) (met x)) place,
        q ∙ (λ i. put_changes (steps_is (steps_kept_lem few r d a i + 1) ∷ []) (place i) (p.1 i))
            ∙ steps_over n K put len j z.own (active f.proposal m.stage) (f.steps + 1) _
            ∙ ap (λ (g : Record). put_record n K j (record_fields (active f.proposal m.stage)
            (with_counts (g.steps + 1) (met_kept_at m.stage (met at)) g)) put) read
            ∙ ap (λ (x : ℕ). let g = read_record (part x 24 b) in
            put_record n K j (record_fields (active f.proposal m.stage)
            (with_counts (g.steps + 1) (met_kept_at m.stage (met x)) g)) put) place,
      )
