-- What the head of a sound board says, and where the station with a number stands.
-- Relies on the model's refusals; the proof of place relies on it, and so do those of the calls that name a station.
use Rattle.model.proofs.Kit.{◌≡◌, refl, sym, ap, subst, ◌∙◌, List, none, some, ℕ, ◌+◌, ◌-◌, ◌≤◌, length, get_or, arith}
use Rattle.std.specs.Prelude.{Ok, Err}
use Rattle.std.specs.declared.result.Result.{Result}
use Rattle.model.specs.declared.Record.{Record}
use Rattle.model.specs.declared.refusal.Refusal as refusals
use Rattle.model.specs.declared.refusal.Refusal.TheVariants.{NoStation}
use Rattle.model.specs.Told.{number}
use Rattle.model.specs.Bytes.{part}
use Rattle.model.specs.Layout.{board_length, record_at, read_record, record_value, record_of, fields_of, station_of}
use Rattle.model.specs.Calls.{Refusal, stations, islands, board_refusal, station_refusal, station_at, steps_taken}
use Rattle.model.proofs.Board.Places.{record_inside}
use Rattle.model.proofs.Calls.Refusals.{board_of_lem, station_12}
use Rattle.soundness.specs.declared.place.Place.{Place}
use Rattle.soundness.specs.Placed.{On, Placed}

-- what the head of a sound board says, in the bytes' own terms
pub record Head (b : List ℕ) : Type 0 where
  pub long : 8 ≤ length b
  pub n_low : 1 ≤ get_or b 0 0
  pub n_high : get_or b 0 0 ≤ 16
  pub k_low : 2 ≤ get_or b 1 0
  pub k_high : get_or b 1 0 ≤ 64
  pub len : length b ≡ board_length (get_or b 0 0) (get_or b 1 0)

pub head : (b : List ℕ) → board_refusal b none ≡ none → Head b
unfolding stations islands
head b e =
    let s = (board_of_lem b none e).0.shape in
    record {
      long = s.long;
      n_low = s.stations_low;
      n_high = s.stations_high;
      k_low = s.islands_low;
      k_high = s.islands_high;
      len = s.len;
    }

-- the same one by one: `omega` applies the first rule of its list that fits a fact
module _ (b : List ℕ) (e : board_refusal b none ≡ none) where
  pub head_long : 8 ≤ length b
  head_long = (head b e).long

  pub n_high : get_or b 0 0 ≤ 16
  n_high = (head b e).n_high

  pub k_high : get_or b 1 0 ≤ 64
  k_high = (head b e).k_high

module _ (i : ℕ) (b : List ℕ) where
  pub twelve : (1 ≤ i → i ≤ get_or b 0 0 → ⊥) → Placed i b (Err NoStation)
  unfolding Placed stations
  twelve f = (refl, λ later. station_12 i b later f)

  pub placed : board_refusal b none ≡ none → 1 ≤ i → i ≤ get_or b 0 0
      → (n k j at : ℕ) → n ≡ get_or b 0 0 → k ≡ get_or b 1 0 → j ≡ i - 1 → at ≡ record_at n k j
      → Placed i b (Ok (record { index = j; at = at }))
  unfolding Placed
  placed e l h n k j at en ek ej p =
      let s = head b e in
      let place : at ≡ record_at (get_or b 0 0) (get_or b 1 0) j = p ∙ (λ x. record_at (en x) (ek x) j) in
      record {
        low = l;
        high = h;
        index = omega arith;
        own = omega arith;
        stations = s.n_high;
        islands = s.k_high;
        len = s.len;
        place = place;
        inside = omega (arith, record_inside (get_or b 0 0) (get_or b 1 0) j (omega arith), s.len, place);
      }

  -- as a caller finds it
  module _ (r : Result Place refusals.Refusal) where
    pub at_place : (p : Place) → r ≡ Ok p → Placed i b r → On i b p.index p.at
    unfolding Placed
    at_place p e h = subst (Placed i b) e h

    pub not_placed : (k : refusals.Refusal) → r ≡ Err k → Placed i b r → (later : Refusal)
        → station_refusal i b later ≡ some (number k)
    unfolding Placed
    not_placed k e h later = let f = subst (Placed i b) e h in f.1 later ∙ ap (λ (x : refusals.Refusal). some (number x)) (sym f.0)

    pub place_inside : (p : Place) → r ≡ Ok p → Placed i b r → p.at + 24 ≤ length b
    place_inside p e h = (at_place p e h).inside

-- the record that the code reads there is the station's
module _ (i : ℕ) (b : List ℕ) (j at : ℕ) (on : On i b j at) (f : Record) (e : f ≡ read_record (part at 24 b)) where
  own_record : f ≡ fields_of (stations b) (islands b) (i - 1) b
  unfolding record_of stations islands
  own_record =
      let q : at ≡ record_at (get_or b 0 0) (get_or b 1 0) (i - 1) = on.place
      ∙ ap (record_at (get_or b 0 0) (get_or b 1 0)) on.index in
      e ∙ ap (λ (k : ℕ). read_record (part k 24 b)) q

  pub own_value : station_at i b ≡ record_value f
  unfolding station_at station_of
  own_value = ap record_value (sym own_record)

  pub own_steps : f.steps ≡ steps_taken i b
  unfolding steps_taken
  own_steps = ap (λ (g : Record). g.steps) own_record

pub ruleset placing = (head_long, n_high, k_high, twelve, placed)
