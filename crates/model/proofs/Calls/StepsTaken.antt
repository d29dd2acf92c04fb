-- The steps that a sound board says a station has taken: they are few, a step of the station adds one, and neither a
-- step nor a proposal of another station touches them.
-- Relies on MostSteps, Values and the calls' laws; the theorem on lists and the code's step rely on it.
use Rattle.model.proofs.Kit.{◌≡◌, ap, ◌∙◌, List, none, some, ℕ, ◌+◌, ◌-◌, ◌*◌, ◌≤◌, ◌<◌, length, mul-le-mul}
use Rattle.model.proofs.Kit.{arith}
use Rattle.model.specs.declared.Record.{Record}
use Rattle.model.specs.Bytes.{number, digits}
use Rattle.model.specs.Figure.{Figure}
use Rattle.model.specs.Listing.{Stage, writing, reading, has_decided, is_spent, Station, idle, array, entry}
use Rattle.model.specs.Layout.{board_length, read_record, record_fields, changed, record_of, fields_of, station_of}
use Rattle.model.specs.Sound.{most_steps}
use Rattle.model.specs.Calls.{After, Refusal, stations, islands, station_at, put_record, put_proposal, propose}
use Rattle.model.specs.Calls.{access}
use Rattle.model.proofs.Basics.Numbers.{number_digits}
use Rattle.model.proofs.Board.Codec.{counts_stay, steps_back}
use Rattle.model.proofs.Board.Boards.{record_same, record_other, register_length}
use Rattle.model.proofs.Board.Good.{GoodStage}
use Rattle.model.proofs.Board.Values.{array_inside, sound_station, sound_counts}
use Rattle.model.proofs.Listing.Going.{Going}
use Rattle.model.proofs.Listing.MostSteps.{most_steps_lem}
use Rattle.model.proofs.Calls.Access.{write_bytes, read_bytes}
use Rattle.model.proofs.Calls.Refusals.{Board, OnBoard, board_of_lem, may_propose, index_inside, call_case}
use Rattle.model.proofs.Calls.Refusals.{some_none}

-- "so it always fits", with room for one more
module _ (b : List ℕ) (h : Board b) (j : ℕ) (own : j < stations b) where
  pub steps_most : (fields_of (stations b) (islands b) j b).steps ≤ 3 * (stations b + 1) * islands b
  steps_most =
      omega (
        arith,
        (sound_counts _ _ b h.sound_board j own).steps,
        most_steps_lem (stations b) (islands b) (station_of (stations b) (islands b) j b)
            (sound_station _ _ b h.sound_board j own).good,
      )

  pub steps_few : (fields_of (stations b) (islands b) j b).steps ≤ 3264
  steps_few =
      let product : 3 * (stations b + 1) * islands b ≤ 3 * 17 * 64 =
      mul-le-mul {n₂ = 3 * 17} (omega (arith, h.shape.stations_high)) h.shape.islands_high in
      omega (arith, steps_most)

-- the steps of a record that is put in
pub record_steps : (n K : ℕ) (b : List ℕ) → length b ≡ board_length n K → (j : ℕ) → j < n → (s : Station Figure)
    (f : Record)
    → f.steps < 65536 → (fields_of n K j (put_record n K j (record_fields s f) b)).steps ≡ f.steps
record_steps n K b len j own s f h =
    ap (λ (r : List ℕ). (read_record r).steps) (record_same n K b len j own _) ∙ steps_back (record_fields s f)
    ∙ ap (λ (x : ℕ). number (digits 2 x)) (counts_stay s f).0 ∙ number_digits 2 f.steps h

-- ---- an accepted step

pub access_steps : (n K : ℕ) (b : List ℕ) → length b ≡ board_length n K → (j : ℕ) → j < n
    → (v : Figure) (s : Stage Figure)
    → GoodStage n K s → Going s → (fields_of n K j b).steps < 65535
    → (fields_of n K j (access n K j v s b).bytes).steps ≡ (fields_of n K j b).steps + 1
unfolding GoodStage changed
access_steps n K b len j own v (writing t c x) g h few =
    let inside = array_inside K t c g in
    rw (write_bytes n K j v b t c x)
    (record_steps n K _ (register_length n K b len (array t c) inside j own (entry t c x)) j own _ _ (omega arith))
access_steps n K b len j own v (reading t c x p a) g h few =
    rw (read_bytes n K j v b t c x p a) (record_steps n K b len j own _ _ (omega arith))
access_steps n K b len j own v (has_decided c x) g h few = absurd h
access_steps n K b len j own v (is_spent c x) g h few = absurd h

-- ---- a proposal on the sound board b

module _ (i : ℕ) (v : Figure) (b : List ℕ) (h : Board b) (a : (propose i v b).answer ≡ none) where
  pub proposes : (P : List ℕ → Type 0)
      → (OnBoard i b → station_at i b ≡ idle → P (put_proposal (stations b) (islands b) (i - 1) v b))
      → P (propose i v b).bytes
  unfolding propose
  proposes P f =
      call_case (λ (d : After Refusal). d.answer ≡ none → P d.bytes) _ some b _
      (λ e q. let m = may_propose i b (board_of_lem b _ e).1 in f m.on m.rests)
      (λ k e q. some_none k q) a

  pub proposed_on : OnBoard i b
  proposed_on = proposes (λ d. OnBoard i b) (λ on e. on)

  pub proposed_none : (fields_of (stations b) (islands b) (i - 1) (propose i v b).bytes).steps ≡ 0
  unfolding changed
  proposed_none =
      proposes (λ d. (fields_of (stations b) (islands b) (i - 1) d).steps ≡ 0)
      (λ on e. record_steps _ _ b h.sound_board.len (i - 1) (index_inside i b on) _ _ (omega arith))

  -- an idle station has taken none
  pub idle_none : (fields_of (stations b) (islands b) (i - 1) b).steps ≡ 0
  unfolding station_at most_steps
  idle_none =
      proposes (λ d. (fields_of (stations b) (islands b) (i - 1) b).steps ≡ 0)
      (λ on e. let own = index_inside i b on in
      omega (arith, ap (most_steps (stations b)) e, (sound_counts _ _ b h.sound_board (i - 1) own).steps))

  pub proposed_other : (j : ℕ) → j < stations b → (i - 1 ≡ j → ⊥)
      → record_of (stations b) (islands b) j (propose i v b).bytes ≡ record_of (stations b) (islands b) j b
  proposed_other j l f =
      proposes (λ d. record_of (stations b) (islands b) j d ≡ record_of (stations b) (islands b) j b)
      (λ on e. record_other _ _ b h.sound_board.len (i - 1) (index_inside i b on) _ j l f)
