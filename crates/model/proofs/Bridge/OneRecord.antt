-- One call on a sound board of n and K and the record of station number i: a call of another station leaves it, and an
-- accepted step of its own is one access.
-- Relies on Single and the calls' laws; the counts along lists rely on it.
use Rattle.model.proofs.Kit.{◌≡◌, refl, ap, true, ⊎_elim, List, none, ℕ, ◌-◌, ◌≤◌, ◌<◌, ℕ_discrete, arith}
use Rattle.model.specs.Figure.{Figure}
use Rattle.model.specs.Listing.{Stage, active, accepted}
use Rattle.model.specs.Layout.{fresh_board, record_of, station_of}
use Rattle.model.specs.Calls.{stations, islands, station_at, lay, propose, access, step}
use Rattle.model.proofs.Basics.Tests.{by_test}
use Rattle.model.proofs.Board.SoundFacts.{SoundBoard}
use Rattle.model.proofs.Board.Values.{SoundStation, sound_station}
use Rattle.model.proofs.Listing.Going.{Going}
use Rattle.model.proofs.Calls.Accepted.{step_on_access}
use Rattle.model.proofs.Calls.Local.{step_other}
use Rattle.model.proofs.Calls.Refusals.{Board, laid_fresh, refusal_case, step_on_lem}
use Rattle.model.proofs.Calls.CallsKeep.{lay_sound}
use Rattle.model.proofs.Calls.Refused.{propose_refused, step_refused}
use Rattle.model.proofs.Calls.StepsTaken.{proposed_on, proposed_other}
use Rattle.model.proofs.Bridge.Single.{Ready, by_head, step_sim, on_board_lem}

-- a sound board, by its own size
pub at_head : (b : List ℕ) → Board b → Ready (stations b) (islands b) b
at_head b h = record { board = h; is_n = refl; is_k = refl }

-- and a laid one, by the size that was asked for
pub laid_ready : (n K : ℕ) (lent : List ℕ) → (lay n K lent).answer ≡ none → Ready n K (lay n K lent).bytes
unfolding stations islands fresh_board
laid_ready n K lent e =
    let fresh = (laid_fresh n K lent e).1 in
    record { board = lay_sound n K lent e; is_n = ap stations fresh; is_k = ap islands fresh }

module _ (n K i : ℕ) (b : List ℕ) (r : Ready n K b) where
  pub sound_here : SoundBoard n K b
  sound_here = by_head (λ m L. SoundBoard m L b) r r.board.sound_board

  -- an accepted step of the station
  pub record OwnStep : Type 0 where
    pub low : 1 ≤ i
    pub own : i - 1 < n
    pub proposal : Figure
    pub stage : Stage Figure
    pub stands : station_of n K (i - 1) b ≡ active proposal stage
    pub goes : Going stage
    pub station : SoundStation n K (i - 1) b (active proposal stage)
    pub is : step i b ≡ access n K (i - 1) proposal stage b

  pub own_step : accepted (step i b).answer.did ≡ true → OwnStep
  unfolding station_at
  own_step a =
      let s = step_sim n K i b r a in
      let here : station_at i b ≡ active s.proposal s.stage = rw (r.is_n, r.is_k) s.stands in
      let on = on_board_lem n K i b r s.positive s.own in
      record {
        low = s.positive;
        own = s.own;
        proposal = s.proposal;
        stage = s.stage;
        stands = s.stands;
        goes = s.goes;
        station = rw s.stands at (sound_station n K b sound_here (i - 1) s.own);
        is = rw (
          step_on_lem i b r.board,
          step_on_access i b on s.proposal s.stage here s.goes,
          r.is_n,
          r.is_k,
        );
      }

  -- what the other stations leave of its record
  module _ (low : 1 ≤ i) (high : i ≤ n) where
    abbrev Left : (d : List ℕ) → Type 0
    Left d = record_of n K (i - 1) d ≡ record_of n K (i - 1) b

    pub other_step : (k : ℕ) → (i ≡ k → ⊥) → Left (step k b).bytes
    other_step k f =
        by_test (accepted (step k b).answer.did)
        (λ a. let s = step_sim n K k b r a in
        by_head (λ m L. record_of m L (i - 1) (step k b).bytes ≡ record_of m L (i - 1) b) r
        (step_other k b r.board (i - 1) (omega (arith, r.is_n)) (λ e. f (omega (arith, s.positive)))))
        (λ a. ap (record_of n K (i - 1)) (step_refused k b a))

    -- a proposal is its own, is refused, or leaves its record
    pub by_proposal : (P : List ℕ → Type 0) → ((d : List ℕ) → Left d → P d) → (k : ℕ) (v : Figure)
        → ((propose i v b).answer ≡ none → P (propose i v b).bytes) → P (propose k v b).bytes
    by_proposal P same k v mine =
        ⊎_elim (λ a. go a (ℕ_discrete i k))
        (λ a. same _ (ap (record_of n K (i - 1)) (propose_refused k v b a.0 a.1)))
        (refusal_case (propose k v b).answer)
      where
        go : (propose k v b).answer ≡ none → Dec (i ≡ k) → P (propose k v b).bytes
        go a (yes e) = rw (← e) (mine (rw (← e) at a))
        go a (no f) =
            same _
            (by_head (λ m L. record_of m L (i - 1) (propose k v b).bytes ≡ record_of m L (i - 1) b) r
            (proposed_other k v b r.board a (i - 1) (omega (arith, r.is_n))
            (λ e. f (omega (arith, (proposed_on k v b r.board a).low)))))
