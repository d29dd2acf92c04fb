-- Laying makes a sound board, and every call keeps one, accepted or refused, reached from a fresh board or not.
-- Relies on Fresh, Keeps, StepKeeps and Refusals; the laws of runs and lists of calls rely on it.
use Rattle.model.proofs.Kit.{◌≡◌, refl, sym, subst, ◌∙◌, List, none, some, ℕ, ◌-◌, ◌<◌, lit<, length, arith}
use Rattle.model.specs.declared.Record.{Record}
use Rattle.model.specs.Bytes.{byte}
use Rattle.model.specs.Figure.{Figure}
use Rattle.model.specs.Listing.{Register, Array, Stage, writing, reading, has_decided, is_spent, Station, idle}
use Rattle.model.specs.Listing.{active, array, entry, proposed}
use Rattle.model.specs.Filled.{refusal}
use Rattle.model.specs.Layout.{board_length, fresh_board, record_of, station_of, changed}
use Rattle.model.specs.Sound.{own_written, own_passed}
use Rattle.model.specs.Calls.{stations, islands, station_at, lay, put_record, put_proposal, propose, not_going}
use Rattle.model.specs.Calls.{access, stepped, step_on, step, put_register}
use Rattle.model.proofs.Board.Places.{InBoard}
use Rattle.model.proofs.Board.Codec.{Fits, FitsStation, FitsStage}
use Rattle.model.proofs.Board.Boards.{record_head, register_head, register_length}
use Rattle.model.proofs.Board.Good.{GoodStation, GoodStage}
use Rattle.model.proofs.Calls.Access.{write_bytes, read_bytes}
use Rattle.model.proofs.Board.SoundFacts.{SoundBoard}
use Rattle.model.proofs.Board.Values.{array_inside, station-Fits, SoundStation, sound_station, sound_counts}
use Rattle.model.proofs.Board.Keeps.{sound_but, station_keeps}
use Rattle.model.proofs.Listing.Going.{Going}
use Rattle.model.proofs.Calls.StepKeeps.{access_keeps}
use Rattle.model.proofs.Board.Fresh.{length_fresh, fresh_sound}
use Rattle.model.proofs.Calls.Refusals.{some_none, Shape, laid_fresh, Board, board_of_lem, station_of_lem, index_inside}
use Rattle.model.proofs.Calls.Refusals.{call_case, may_propose, step_on_lem}

-- Bytes of the right length have the shape that a board had.
shape_again : (n K : ℕ) (b d : List ℕ) → Shape n K b → length d ≡ board_length n K → Shape n K d
shape_again n K b d s e = omega arith

-- A sound board with the head as it was passes 7 to 11 again.
board_again : (b d : List ℕ) → Board b → ((k : ℕ) → k < 8 → byte d k ≡ byte b k) → SoundBoard (stations b) (islands b) d
    → Board d
unfolding stations islands
board_again b d h head s = record {
  shape = rw (head 0 (lit< tt), head 1 (lit< tt)) (shape_again (stations b) (islands b) b d h.shape s.len);
  sound_board = rw (head 0 (lit< tt), head 1 (lit< tt)) s;
}

-- ---- laying

pub fresh_board_lem : (n K : ℕ) (b : List ℕ) → Shape n K b → Board (fresh_board n K)
unfolding fresh_board stations islands
fresh_board_lem n K b s = record {
  shape = shape_again n K b _ s (length_fresh n K);
  sound_board = fresh_sound n K s.stations_low (omega (arith, s.islands_low));
}

pub lay_sound : (n K : ℕ) (b : List ℕ) → (lay n K b).answer ≡ none → Board (lay n K b).bytes
lay_sound n K b e = let s = laid_fresh n K b e in subst Board (sym s.1) (fresh_board_lem n K b s.0)

-- ---- what a call leaves as it was

pub going_of : (v : Figure) (s : Stage Figure) → not_going (active v s) ≡ none → Going s
unfolding not_going
going_of v (writing t c x) e = tt
going_of v (reading t c x p a) e = tt
going_of v (has_decided c x) e = some_none 15 e
going_of v (is_spent c x) e = some_none 16 e

pub good_stage : (n K : ℕ) (v : Figure) (s : Stage Figure) → GoodStation n K (active v s) → GoodStage n K s
unfolding GoodStation
good_stage n K v s h = h

-- A record of station index i that is put in leaves this as it was, and so does a register of it on the board b.
pub record Leaves {X : Type 0} (of : List ℕ → X) (n K i : ℕ) (b : List ℕ) : Type 0 where
  pub record_put : (d : List ℕ) → length d ≡ board_length n K → (f : Record) → of (put_record n K i f d) ≡ of d
  pub register : (a : Array) → InBoard K a → (r : Register Figure) → of (put_register n a i (some r) b) ≡ of b

-- Then an accepted step leaves it.
module _ {X : Type 0} (of : List ℕ → X) (n K : ℕ) (b : List ℕ) (len : length b ≡ board_length n K) (i : ℕ) (own : i < n)
    (leaves : Leaves of n K i b) where
  access_leaves : (v : Figure) (s : Stage Figure) → GoodStage n K s → Going s → of (access n K i v s b).bytes ≡ of b
  unfolding GoodStage
  access_leaves v (writing t c x) g h =
      let inside = array_inside K t c g in
      rw (write_bytes n K i v b t c x)
      (leaves.record_put _ (register_length n K b len (array t c) inside i own (entry t c x)) _
      ∙ leaves.register (array t c) inside (entry t c x))
  access_leaves v (reading t c x p a) g h = rw (read_bytes n K i v b t c x p a) (leaves.record_put b len _)
  access_leaves v (has_decided c x) g h = absurd h
  access_leaves v (is_spent c x) g h = absurd h

  stepped_leaves : (z : Station Figure) → GoodStation n K z → not_going z ≡ none → of (stepped n K i z b).bytes ≡ of b
  unfolding stepped
  stepped_leaves idle g e = refl
  stepped_leaves (active v s) g e = access_leaves v s (good_stage n K v s g) (going_of v s e)

pub step_on_leaves : {X : Type 0} (of : List ℕ → X) (i : ℕ) (b : List ℕ) → Board b
    → (i - 1 < stations b → Leaves of (stations b) (islands b) (i - 1) b) → of (step_on i b).bytes ≡ of b
unfolding step_on station_at
step_on_leaves of i b h leaves =
    call_case (λ a. of a.bytes ≡ of b) _ refusal b _
    (λ e. let s = station_of_lem i b _ e in
    let own = index_inside i b s.0 in
    stepped_leaves of _ _ b h.sound_board.len (i - 1) own (leaves own) (station_at i b)
    (sound_station _ _ b h.sound_board (i - 1) own).good s.1)
    (λ k e. refl)

step_on_head : (i : ℕ) (b : List ℕ) → Board b → (k : ℕ) → k < 8 → byte (step_on i b).bytes k ≡ byte b k
step_on_head i b h k l =
    step_on_leaves (λ d. byte d k) i b h (λ own. record {
      record_put = λ d len f. record_head _ _ d len (i - 1) own f k l;
      register = λ a inside r. register_head _ _ b h.sound_board.len a inside (i - 1) own r k l;
    })

pub step_head : (i : ℕ) (b : List ℕ) → Board b → (k : ℕ) → k < 8 → byte (step i b).bytes k ≡ byte b k
step_head i b h k l = rw (step_on_lem i b h) (step_on_head i b h k l)

-- a proposal that is put in, whether a call takes it or not
pub put_head : (b : List ℕ) → Board b → (j : ℕ) → j < stations b → (v : Figure) (k : ℕ) → k < 8
    → byte (put_proposal (stations b) (islands b) j v b) k ≡ byte b k
put_head b h j own v k l = record_head _ _ b h.sound_board.len j own _ k l

pub propose_head : (i : ℕ) (v : Figure) (b : List ℕ) → Board b → (k : ℕ) → k < 8
    → byte (propose i v b).bytes k ≡ byte b k
unfolding propose
propose_head i v b h k l =
    call_case (λ a. byte a.bytes k ≡ byte b k) _ some b _
    (λ e. put_head b h (i - 1) (index_inside i b (may_propose i b (board_of_lem b _ e).1).on) v k l) (λ j e. refl)

-- ---- proposing

proposed_sound : (n K i : ℕ) (b : List ℕ) (v : Figure) → 0 < K → SoundStation n K i b (proposed v)
unfolding proposed GoodStation GoodStage own_written own_passed
proposed_sound n K i b v h = record { good = h; written = tt; passed = tt }

pub proposed_fits : (v : Figure) → Fits v → FitsStation (proposed v)
unfolding proposed FitsStation FitsStage
proposed_fits v h = (h, h)

pub put_keeps : (b : List ℕ) → Board b → (j : ℕ) → j < stations b → (v : Figure) → Fits v
    → Board (put_proposal (stations b) (islands b) j v b)
unfolding proposed changed
put_keeps b h j own v fits =
    let positive : 0 < islands b = omega (arith, h.shape.islands_low) in
    board_again b _ h (put_head b h j own v)
    (station_keeps j _ _ b (sound_but j _ _ b h.sound_board) own positive v _ _ (proposed_fits v fits)
    (proposed_sound _ _ j b v positive) (record { steps = omega arith; met = omega arith }))

pub propose_keeps : (i : ℕ) (v : Figure) → Fits v → (b : List ℕ) → Board b → Board (propose i v b).bytes
unfolding propose
propose_keeps i v fits b h =
    call_case (λ a. Board a.bytes) _ some b _
    (λ e. put_keeps b h (i - 1) (index_inside i b (may_propose i b (board_of_lem b _ e).1).on) v fits) (λ k e. h)

-- ---- stepping

pub station_of_fits : (n K i : ℕ) (b : List ℕ) → FitsStation (station_of n K i b)
unfolding station_of
station_of_fits n K i b = station-Fits (record_of n K i b)

stepped_sound : (n K i : ℕ) (b : List ℕ) → SoundBoard n K b → 0 < K → i < n → (z : Station Figure)
    → station_of n K i b ≡ z → not_going z ≡ none → SoundBoard n K (stepped n K i z b).bytes
unfolding stepped
stepped_sound n K i b q positive own idle e g = q
stepped_sound n K i b q positive own (active v s) e g =
    access_keeps n K b q positive i own v s (going_of v s g) (rw e at (station_of_fits n K i b))
    (rw e at (sound_station n K b q i own)) (rw e at (sound_counts n K b q i own))

pub step_on_keeps : (i : ℕ) (b : List ℕ) → Board b → Board (step_on i b).bytes
unfolding step_on station_at
step_on_keeps i b h =
    board_again b (step_on i b).bytes h (step_on_head i b h)
    (call_case (λ a. SoundBoard (stations b) (islands b) a.bytes) _ refusal b _
    (λ e. let s = station_of_lem i b _ e in
    let positive : 0 < islands b = omega (arith, h.shape.islands_low) in
    stepped_sound _ _ (i - 1) b h.sound_board positive (index_inside i b s.0) _ refl s.1)
    (λ k e. h.sound_board))

pub step_keeps : (i : ℕ) (b : List ℕ) → Board b → Board (step i b).bytes
step_keeps i b h = rw (step_on_lem i b h) (step_on_keeps i b h)
