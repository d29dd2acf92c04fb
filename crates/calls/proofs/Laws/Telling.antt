-- Telling how a station stands, with its steps: the answer at each return.
-- Relies on the model's refusals, on the way past the board's own and on the place of a station; the proofs of
-- `standing` rely on it.
use Rattle.model.proofs.Kit.{◌≡◌, sym, ap, ◌∙◌, List, none, some, ℕ}
use Rattle.model.specs.declared.Record.{Record}
use Rattle.std.specs.Prelude.{Ok, Err}
use Rattle.std.specs.declared.result.Result.{Result}
use Rattle.model.specs.declared.refusal.Refusal.{Refusal}
use Rattle.model.specs.declared.Standing as standings
use Rattle.model.specs.Bytes.{part}
use Rattle.model.specs.Layout.{read_record, record_value}
use Rattle.model.specs.Calls.{stations, board_refusal, station_refusal}
use Rattle.model.specs.Standing.{standing_of, stands, standing}
use Rattle.model.specs.Told.{verdict, number, standing_told, standing_answered}
use Rattle.model.proofs.Calls.Refusals.{board_first, station_passes}
use Rattle.soundness.specs.declared.place.Place.{Place}
use Rattle.soundness.specs.Placed.{Placed}
use Rattle.soundness.proofs.Laws.Placing.{place_inside, at_place, not_placed, own_value, own_steps}
use Rattle.soundness.proofs.Laws.Checked.{turned, past_board}

module _ (i : ℕ) (b : List ℕ) where
  refuses : (k : Refusal) → board_refusal b (station_refusal i b none) ≡ some (number k)
      → standing_answered (Err k) ≡ standing i b
  unfolding standing standing_answered
  refuses k e = rw (e, standing)

  pub board_refuses : (v : Result (Unit {0}) Refusal) (k : Refusal) → v ≡ Err k → verdict v ≡ board_refusal b none
      → standing_answered (Err k) ≡ standing i b
  board_refuses v k e h = refuses k (board_first b _ (number k) (turned b v k e h))

  module _ (sound : board_refusal b none ≡ none) (r : Result Place Refusal) (h : Placed i b r) where
    pub no_station : (k : Refusal) → r ≡ Err k → standing_answered (Err k) ≡ standing i b
    no_station k e = refuses k (past_board b sound _ ∙ not_placed i b r k e h none)

    pub tells : (p : Place) → r ≡ Ok p → (f : Record) → f ≡ read_record (part p.at 24 b)
        → (s : standings.Standing) → standing_told s ≡ standing_of (record_value f)
        → standing_answered (Ok (record { standing = s; steps = f.steps })) ≡ standing i b
    unfolding standing_answered standing stations
    tells p is f e s es =
        let on = at_place i b r p is h in
        let passes = past_board b sound _ ∙ station_passes i b (record { low = on.low; high = on.high }) none in
        (λ q. stands ((es ∙ ap standing_of (sym (own_value i b p.index p.at on f e))) q)
        (own_steps i b p.index p.at on f e q))
        ∙ rw (passes, standing)

-- what each step of the call has to show
pub ruleset steps = (place_inside, no_station, tells)
