-- One call on bytes is one call on the state that the bytes stand for, with the same answer.
-- Relies on View, Access and the calls' laws; lists of calls and the sequential run rely on it.
use Rattle.model.proofs.Kit.{◌≡◌, refl, sym, ap, ◌∙◌, subst₂, true, List, none, some, ℕ, ◌-◌, ◌≤◌, ◌<◌, lit<}
use Rattle.model.proofs.Kit.{arith}
use Rattle.model.specs.Bytes.{byte}
use Rattle.model.specs.Figure.{Figure, figures}
use Rattle.model.specs.Listing.{nothing, Stage, writing, reading, has_decided, is_spent, Station, idle, active}
use Rattle.model.specs.Listing.{array, entry, accepted, outcome, move, place_array, place_column}
use Rattle.model.specs.Listing.{proposed}
use Rattle.model.specs.Filled.{Report, refusal}
use Rattle.model.specs.Layout.{register_of, station_of}
use Rattle.model.specs.Calls.{After, stations, islands, station_at, propose, not_going, access, stepped, step_on}
use Rattle.model.specs.Calls.{step}
use Rattle.model.proofs.Basics.Tests.{clash}
use Rattle.model.proofs.Board.Codec.{Fits, FitsSeen, FitsStage, FitsStation}
use Rattle.model.proofs.Board.Boards.{register_length}
use Rattle.model.proofs.Board.Good.{GoodStage, GoodStation}
use Rattle.model.proofs.Board.SoundFacts.{SoundBoard}
use Rattle.model.proofs.Board.Values.{array_inside, SoundStation, sound_station, readable}
use Rattle.model.proofs.Listing.Moves.{move_fits}
use Rattle.model.proofs.Listing.Written.{read_writes}
use Rattle.model.proofs.Calls.Access.{write_bytes, read_bytes}
use Rattle.model.proofs.Listing.Going.{Going}
use Rattle.model.proofs.Calls.StepKeeps.{entry_fits}
use Rattle.model.proofs.Calls.CallsKeep.{going_of, proposed_fits, good_stage, station_of_fits}
use Rattle.model.proofs.Calls.CallsKeep.{propose_keeps, propose_head, step_keeps, step_head}
use Rattle.model.proofs.Calls.Refusals.{some_none, Board, board_of_lem, OnBoard, station_of_lem, index_inside, call_case}
use Rattle.model.proofs.Calls.Refusals.{may_propose, step_on_lem}
use Rattle.model.proofs.Calls.Accepted.{step_on_access}
use Rattle.model.proofs.Agreement.State.{put_written, proposing, move_of, moving}
use Rattle.model.proofs.Bridge.View.{view, view_register, view_put_station, view_put_register}

module _ (n K : ℕ) (b : List ℕ) (q : SoundBoard n K b) (i : ℕ) (own : i < n) (v : Figure) where
  -- the move over the state's register is the move over the board's
  pub move_as : (s : Stage Figure) → Going s → GoodStage n K s
      → move_of figures n K i s (view n K b) ≡ move figures n K s (register_of n (place_array s) (place_column i s) b)
  unfolding move_of GoodStage move place_array place_column
  move_as (writing t c x) h g = refl
  move_as (reading t c x p a) h g =
      ap (move figures n K (reading t c x p a)) (view_register n K b (array t c) p (array_inside K t c g.0) g.1)
  move_as (has_decided c x) h g = absurd h
  move_as (is_spent c x) h g = absurd h

  pub access_view : (s : Stage Figure) → Going s → FitsStation (active v s) → SoundStation n K i b (active v s)
      → view n K (access n K i v s b).bytes ≡ moving figures n K i v s (view n K b)
  unfolding GoodStation GoodStage FitsStation FitsStage FitsSeen moving move_of put_written place_array place_column
  access_view (writing t c x) h fits g =
      let inside = array_inside K t c g.good in
      let len = register_length n K b q.len (array t c) inside i own (entry t c x) in
      rw (
        write_bytes n K i v b t c x,
        view_put_station n K _ len i own (active v (reading t c x 0 nothing)) _ (fits.0, (fits.1, tt)),
        view_put_register n K b q.len i own (array t c) (entry t c x) inside (entry_fits t c x fits.1),
      ) (unfold move in refl)
  access_view (reading t c x p a) h fits g =
      let m = move figures n K (reading t c x p a) (register_of n (array t c) p b) in
      let stays = move_fits n K (reading t c x p a) _ fits.1 (readable n K b q i own v (reading t c x p a) g) in
      rw (
        read_bytes n K i v b t c x p a,
        view_put_station n K b q.len i own (active v m.stage) _ (fits.0, stays),
        view_register n K b (array t c) p (array_inside K t c g.good.0) g.good.1,
        read_writes K figures n t c x p a,
      )
  access_view (has_decided c x) h fits g = absurd h
  access_view (is_spent c x) h fits g = absurd h

-- a sound board of n and K
pub record Ready (n K : ℕ) (b : List ℕ) : Type 0 where
  pub board : Board b
  pub is_n : stations b ≡ n
  pub is_k : islands b ≡ K

-- a sound board with that one's head
still_ready : (n K : ℕ) (b d : List ℕ) → Ready n K b → Board d → ((k : ℕ) → k < 8 → byte d k ≡ byte b k) → Ready n K d
unfolding stations islands
still_ready n K b d r h e = record { board = h; is_n = e 0 (lit< tt) ∙ r.is_n; is_k = e 1 (lit< tt) ∙ r.is_k }

pub step_ready : (n K i : ℕ) (b : List ℕ) → Ready n K b → Ready n K (step i b).bytes
step_ready n K i b r = still_ready n K b _ r (step_keeps i b r.board) (step_head i b r.board)

pub propose_ready : (n K i : ℕ) (v : Figure) (b : List ℕ) → Fits v → Ready n K b → Ready n K (propose i v b).bytes
propose_ready n K i v b fits r =
    still_ready n K b _ r (propose_keeps i v fits b r.board) (propose_head i v b r.board)

-- what is said of the size in the head is said of n and K
pub by_head : {n K : ℕ} {b : List ℕ} (P : ℕ → ℕ → Type 0) → Ready n K b → P (stations b) (islands b) → P n K
by_head P r = subst₂ P r.is_n r.is_k

-- ---- an accepted proposal, which leaves the bytes d

pub record ProposeSim (n K i : ℕ) (v : Figure) (b d : List ℕ) : Type 0 where
  pub positive : 1 ≤ i
  pub own : i - 1 < n
  pub rests : station_of n K (i - 1) b ≡ idle
  pub after : view n K d ≡ proposing (i - 1) v (view n K b)

pub propose_sim : (n K i : ℕ) (v : Figure) (b : List ℕ) → Fits v → Ready n K b → (propose i v b).answer ≡ none
    → ProposeSim n K i v b (propose i v b).bytes
unfolding propose station_at proposing
propose_sim n K i v b fits r a =
    by_head (λ m L. ProposeSim m L i v b (propose i v b).bytes) r
    (call_case (λ d. d.answer ≡ none → ProposeSim (stations b) (islands b) i v b d.bytes) _ some b _
    (λ e f. let m = may_propose i b (board_of_lem b _ e).1 in
    let own = index_inside i b m.on in
    record {
      positive = m.on.low;
      own = own;
      rests = m.rests;
      after = view_put_station _ _ b r.board.sound_board.len (i - 1) own (proposed v) _ (proposed_fits v fits);
    })
    (λ k e f. some_none k f) a)

-- ---- an accepted step, which gives the answer and bytes d

pub record StepSim (n K i : ℕ) (b : List ℕ) (d : After (Report Figure)) : Type 0 where
  pub positive : 1 ≤ i
  pub own : i - 1 < n
  pub proposal : Figure
  pub stage : Stage Figure
  pub stands : station_of n K (i - 1) b ≡ active proposal stage
  pub goes : Going stage
  pub after : view n K d.bytes ≡ moving figures n K (i - 1) proposal stage (view n K b)
  pub says : d.answer.did ≡ (move_of figures n K (i - 1) stage (view n K b)).answer

pub on_board_lem : (n K i : ℕ) (b : List ℕ) → Ready n K b → 1 ≤ i → i - 1 < n → OnBoard i b
on_board_lem n K i b r low own = record { low = low; high = omega (arith, r.is_n) }

-- a station that stands at a going stage steps as the state does
pub step_at : (n K i : ℕ) (b : List ℕ) → Ready n K b → 1 ≤ i → i - 1 < n → (v : Figure) (s : Stage Figure)
    → station_of n K (i - 1) b ≡ active v s → Going s
    → (view n K (step i b).bytes ≡ moving figures n K (i - 1) v s (view n K b))
    × ((step i b).answer.did ≡ (move_of figures n K (i - 1) s (view n K b)).answer)
unfolding station_at access
step_at n K i b r low own v s e g =
    let q : SoundBoard n K b = rw (r.is_n, r.is_k) at r.board.sound_board in
    let here : station_of (stations b) (islands b) (i - 1) b ≡ active v s = rw (r.is_n, r.is_k) e in
    let access-on = step_on_access i b (on_board_lem n K i b r low own) v s here g in
    let station : SoundStation n K (i - 1) b (active v s) = rw e at (sound_station n K b q (i - 1) own) in
    rw (step_on_lem i b r.board, access-on, r.is_n, r.is_k) (
      access_view n K b q (i - 1) own v s g (rw e at (station_of_fits n K (i - 1) b)) station,
      rw (move_as n K b q (i - 1) own v s g (good_stage n K v s station.good)),
    )

pub step_sim : (n K i : ℕ) (b : List ℕ) → Ready n K b → accepted (step i b).answer.did ≡ true
    → StepSim n K i b (step i b)
unfolding step_on station_at not_going accepted outcome
step_sim n K i b r a =
    call_case (λ (d : After (Report Figure)). accepted d.answer.did ≡ true → StepSim n K i b (step i b)) _ refusal b
    (stepped (stations b) (islands b) (i - 1) (station_at i b) b)
    (λ e f. let s = station_of_lem i b (not_going (station_at i b)) e in
    by s.0 (station_of n K (i - 1) b) refl (rw (r.is_n, r.is_k) at s.1))
    (λ k e f. clash (sym f)) (rw (step_on_lem i b r.board) at a)
  where
    by : OnBoard i b → (z : Station Figure) → station_of n K (i - 1) b ≡ z → not_going z ≡ none
        → StepSim n K i b (step i b)
    by on idle e g = some_none 14 g
    by on (active v s) e g =
        let own : i - 1 < n = omega (arith, r.is_n, on.low, on.high) in
        let (moved, told) = step_at n K i b r on.low own v s e (going_of v s g) in
        record {
          positive = on.low;
          own = own;
          proposal = v;
          stage = s;
          stands = e;
          goes = going_of v s g;
          after = moved;
          says = told;
        }
