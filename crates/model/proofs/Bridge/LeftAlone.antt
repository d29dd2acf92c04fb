-- A station left alone on bytes: the board after any list of calls stands for a state that keeps the invariants, and
-- the run of the station on it is the one on that state.
-- Relies on lists of calls, on a station's run and on what is shown of it on states; it is the first claim of
-- specs/LeftRunning.antt.
use Rattle.model.proofs.Kit.{◌≡◌, refl, sym, ◌∙◌, subst, inl, inr, ◌⊎◌, List, none, ℕ, ◌+◌, ◌-◌, ◌*◌, ◌≤◌, ◌<◌}
use Rattle.model.proofs.Kit.{zero, suc, ap, map, replicate, length-replicate, le-ltb, arith}
use native.Mathlib.Decide.{dec_le}
use Rattle.model.specs.Figure.{Figure, figures}
use Rattle.model.specs.Listing.{Register, empty, filled, Stage, writing, reading, has_decided, is_spent, Station}
use Rattle.model.specs.Listing.{idle, active, in_m, decided}
use Rattle.model.specs.Layout.{register_of, station_of}
use Rattle.model.specs.Calls.{After, RunAnswer, step, run, stations, islands, station_at, not_going}
use Rattle.model.specs.AnyList.{stepping, called, Some, Decides, ends, until}
use Rattle.model.specs.Runs as runs
use Rattle.model.specs.Standing.{stands_decided, standing_of}
use Rattle.model.specs.LeftRunning.{UpTo, StandsUpTo, RoomAbove, NobodyStepped, GoingOn, DecidesWithin}
use Rattle.model.proofs.Basics.Numbers.{same_law, self_law}
use Rattle.model.proofs.Board.Places.{InBoard}
use Rattle.model.proofs.Board.Good.{GoodStage}
use Rattle.model.proofs.Board.Values.{SoundStation, sound_station}
use Rattle.model.proofs.Listing.Going.{Going}
use Rattle.model.proofs.Calls.CallsKeep.{going_of, good_stage}
use Rattle.model.proofs.Basics.Tests.{impossible, by_test}
use Rattle.model.proofs.Calls.Refusals.{some_none, board_passes}
use Rattle.model.proofs.Calls.Runs.{runs_count}
use Rattle.model.proofs.Agreement.State.{State}
use Rattle.model.proofs.Agreement.Cells.{cells}
use Rattle.model.proofs.Agreement.Registers.{Holds}
use Rattle.model.proofs.Termination.Climbs.{Safe, island_at}
use Rattle.model.proofs.Termination.Rest.{alone_steps}
use Rattle.model.proofs.Termination.Passes.{Below, Near}
use Rattle.model.proofs.Termination.LeftAlone as state
use Rattle.model.proofs.Termination.LeftAlone.{Highest, highest, Before}
use Rattle.model.proofs.Bridge.View.{inside, view, view_station, view_register}
use Rattle.model.proofs.Bridge.Single.{Ready}
use Rattle.model.proofs.Bridge.OneRecord.{sound_here}
use Rattle.model.proofs.Bridge.Lists.{Held, held_after}
use Rattle.model.proofs.Bridge.Events.{decides_end}
use Rattle.model.proofs.Bridge.RunCalls.{ran_calls, steps_allowed}
use Rattle.model.proofs.Bridge.Until.{until_sim}

-- ---- a sound board of n and K whose state keeps the invariants

module _ (n K : ℕ) (b : List ℕ) (r : Ready n K b) where
  abbrev st : State Figure
  st = view n K b

  -- m of the state is that of the board, and empty beyond it
  m_outside : (j : ℕ) → n ≤ j → st.register in_m j ≡ empty
  unfolding view inside
  m_outside j l = rw (le-ltb j n l)

  m_inside : (P : Register Figure → Type 0) → ((j : ℕ) → j < stations b → P (register_of (stations b) in_m j b))
      → (j : ℕ) → j < n → P (st.register in_m j)
  unfolding InBoard
  m_inside P h j l = rw (view_register n K b in_m j tt l) (rw r.is_n at (h j (omega (arith, r.is_n))))

  everywhere : (P : Register Figure → Type 0) → P empty → ((j : ℕ) → j < n → P (st.register in_m j))
      → (j : ℕ) → P (st.register in_m j)
  everywhere P e h j = by (dec_le n j)
    where
      by : Dec (n ≤ j) → P (st.register in_m j)
      by (yes l) = subst P (sym (m_outside j l)) e
      by (no f) = h j (omega arith)

  -- with room above the highest island, the first one above all of m is on the board
  room : 2 ≤ K → RoomAbove b → (h : Highest n (st.register in_m)) → h.top < K
  unfolding RoomAbove UpTo
  room two q h = by h.peak
    where
      under : (z : Register Figure) → UpTo (islands b - 2) z → Near h.top z → h.top < K
      under empty a d = absurd d
      under (filled e k y) a d = omega (arith, r.is_k)

      by : ((h.top ≡ 0) ⊎ ((j : ℕ) × (j < n) × Near h.top (st.register in_m j))) → h.top < K
      by (inl e) = omega arith
      by (inr (j, l, d)) = under (st.register in_m j) (m_inside (UpTo (islands b - 2)) q j l) d

  -- a station that is going stands at a stage that has a next step, within its collect
  record Stands (i : ℕ) : Type 0 where
    own : i - 1 < n
    proposal : Figure
    stage : Stage Figure
    is : station_of n K (i - 1) b ≡ active proposal stage
    goes : Going stage
    before : Before n stage

  before : (s : Stage Figure) → GoodStage n K s → Before n s
  unfolding GoodStage
  before (writing t c x) g = tt
  before (reading t c x p a) g = g.1
  before (has_decided c x) g = tt
  before (is_spent c x) g = tt

  stands : (i : ℕ) → GoingOn i b → Stands i
  unfolding station_at not_going
  stands i g = by (station_of n K (i - 1) b) refl (rw (r.is_n, r.is_k) at g.going)
    where
      own : i - 1 < n
      own = omega (arith, r.is_n, g.low, g.high)

      by : (z : Station Figure) → station_of n K (i - 1) b ≡ z → not_going z ≡ none → Stands i
      by idle e q = some_none 14 q
      by (active v s) e q =
          let sound : SoundStation n K (i - 1) b (active v s) =
          rw e at (sound_station n K b (sound_here n K i b r) (i - 1) own) in
          record {
            own = own;
            proposal = v;
            stage = s;
            is = e;
            goes = going_of v s q;
            before = before s (good_stage n K v s sound.good);
          }

  -- a station's own m is on no island above the one where it stands
  own_room : (k : ℕ) (z : Station Figure) (m : Register Figure) → StandsUpTo k (standing_of z)
      → Holds (λ e j y. j ≤ island_at z) m → UpTo k m
  unfolding StandsUpTo standing_of UpTo
  own_room k z empty s h = tt
  own_room k idle (filled e j y) s h = omega arith
  own_room k (active v (writing t c x)) (filled e j y) s h = omega arith
  own_room k (active v (reading t c x p a)) (filled e j y) s h = omega arith
  own_room k (active v (has_decided c x)) (filled e j y) s h = omega arith
  own_room k (active v (is_spent c x)) (filled e j y) s h = omega arith

  pub shown_room : Safe n (cells st)
      → ((j : ℕ) → 1 ≤ j → j ≤ n → StandsUpTo (islands b - 2) (standing_of (station_at j b))) → RoomAbove b
  unfolding RoomAbove station_at cells InBoard
  shown_room h q j l =
      let near : j < n = omega (arith, r.is_n) in
      let index : j + 1 - 1 ≡ j = omega arith in
      let shown = rw (index, r.is_n, r.is_k) at (q (j + 1) (omega arith) (omega arith)) in
      let own = rw (view_station n K b j near, view_register n K b in_m j tt near) at (h.1.behind j).low in
      rw (r.is_n, r.is_k) (own_room (K - 2) (station_of n K j b) (register_of n in_m j b) shown own)

  module _ (two : 2 ≤ K) (h : Safe n (cells st)) where
    pub decides_alone : RoomAbove b → (i : ℕ) → GoingOn i b → (steps : ℕ) → alone_steps n ≤ steps
        → DecidesWithin steps i b
    unfolding DecidesWithin
    decides_alone q i g steps enough =
        let top = highest n (st.register in_m) in
        let s = stands i g in
        let low = everywhere (Holds (Below top.top)) tt top.all in
        let (k, y, says) = state.left_alone figures same_law self_law n K (i - 1) s.own st h top.top
        (room two q top) low top.peak s.proposal s.stage
        (view_station n K b (i - 1) s.own ∙ s.is) s.goes s.before steps enough in
        (k, y, (until_sim n K i g.low s.own steps b r k y says).says ∙ says)

    pub decides_first : NobodyStepped b → (i : ℕ) → 1 ≤ i → (own : i - 1 < n) → (v : Figure) (s : Stage Figure)
        → station_of n K (i - 1) b ≡ active v s → (steps : ℕ) → 3 * (n + 1) ≤ steps
        → (until steps i b).answer.did ≡ decided 0 v
    unfolding NobodyStepped
    decides_first q i low own v s e steps enough =
        let blank = everywhere (λ (z : Register Figure). z ≡ empty) refl (m_inside (λ z. z ≡ empty) q) in
        let says = state.nobody_stepped figures same_law self_law n K (i - 1) own (omega arith) st h blank v s
        (view_station n K b (i - 1) own ∙ e) steps enough in
        (until_sim n K i low own steps b r 0 v says).says ∙ says

-- ---- a run of the station's steps, to its end

-- a decision that the station comes to is one of the list of its steps
until_decides : (i k : ℕ) (v : Figure) (fuel : ℕ) (b : List ℕ) → (until fuel i b).answer.did ≡ decided k v
    → Some (Decides i v) (map stepping (replicate fuel i)) b
unfolding until Some Decides called
until_decides i k v zero b e = impossible (cc)
until_decides i k v (suc fuel) b e =
    by_test (ends (step i b).answer.did) (λ t. inl (refl, (k, rw (t, until) at e)))
    (λ t. inr (until_decides i k v fuel (step i b).bytes (rw (t, until) at e)))

pub run_decides : (n K : ℕ) (b : List ℕ) → Held n K b → (i k : ℕ) (v : Figure) (steps : ℕ) → steps ≤ 65536
    → (until steps i b).answer.did ≡ decided k v
    → (j : ℕ) × (standing_of (station_at i (run (replicate steps i) b).bytes) ≡ stands_decided j v)
unfolding station_at standing_of runs.RunsCount
run_decides n K b h i k v steps few e =
    let is : List ℕ = replicate steps i in
    let d = decides_end n K i v (map stepping is) b h (steps_allowed is b) (until_decides i k v steps b e) in
    let held = held_after n K (map stepping is) b h (steps_allowed is b) in
    let ran = (runs_count is b (board_passes b h.board none) (rw (length-replicate steps i) few)).0 in (
      d.island,
      rw (ap (λ (a : After RunAnswer). a.bytes) ran, ran_calls is b, held.is_n, held.is_k, d.stands),
    )
