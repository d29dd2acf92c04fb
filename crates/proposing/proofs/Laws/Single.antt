-- One station's proposal: what a sound board refuses it with, and what it leaves.
-- Relies on the model's refusals and on the place of a station; the proofs of src/single.rt rely on it.
use Rattle.model.proofs.Kit.{◌≡◌, refl, sym, ap, ◌∙◌, List, none, some, ℕ, zero, suc, ◌+◌, ◌-◌, ◌≤◌, ◌<◌, length, get_or}
use Rattle.model.proofs.Kit.{to_z-of_z, w32, to_z, of_z, SFits, add-zero, lit<, arith}
use Rattle.std.specs.Prelude.{Ok, Err}
use Rattle.std.specs.declared.result.Result.{Result}
use Rattle.model.specs.declared.Record.{Record}
use Rattle.model.specs.declared.refusal.Refusal as refusals
use Rattle.model.specs.declared.refusal.Refusal.TheVariants.{TwoStations, NotIdle}
use Rattle.model.specs.Bytes.{part, splice}
use Rattle.model.specs.Figure.{Figure}
use Rattle.model.specs.Listing.{proposed}
use Rattle.model.specs.Layout.{record_at, read_record, lay_record, record_fields, writing_of, reading_of, of_phase}
use Rattle.model.specs.Layout.{record_value, record_of, with_counts}
use Rattle.model.specs.Calls.{After, Refusal, stations, islands, board_refusal, unless_refused, put_record}
use Rattle.model.specs.Calls.{two_refusal, not_idle, proposal_refusal, propose, station_at}
use Rattle.model.specs.Told.{verdict, number}
use Rattle.model.proofs.Basics.Splices.{byte_part}
use Rattle.model.proofs.Board.Places.{record_inside}
use Rattle.model.proofs.Calls.Refusals.{board_of_lem, board_first, OnBoard, station_passes, two_passes, two_22}
use Rattle.model.proofs.Calls.Refusals.{may_propose}
use Rattle.model.proofs.Calls.Proposals.{accepts}
use Rattle.soundness.specs.declared.place.Place.{Place}
use Rattle.soundness.specs.Placed.{On, Placed}
use Rattle.soundness.proofs.Laws.Checked.{turned, past_board}
use Rattle.soundness.proofs.Laws.Placing.{head_long, n_high, k_high, head, at_place, not_placed, own_value}
use Rattle.proposing.specs.Answers.{Proposes}

-- ---- what a station is refused with

module _ (i : ℕ) (b : List ℕ) where
  pub no_station : (r : Result Place refusals.Refusal) (k : refusals.Refusal) → r ≡ Err k → Placed i b r
      → verdict (Err k) ≡ proposal_refusal i b
  unfolding verdict
  no_station r k e h = sym (not_placed i b r k e h _)

  module _ (r : Result Place refusals.Refusal) (p : Place) (is : r ≡ Ok p) (h : Placed i b r) where
    on : On i b p.index p.at
    on = at_place i b r p is h

    pub phase_inside : p.at < length b
    phase_inside = omega (arith, on.inside)

    f : Record
    f = read_record (part p.at 24 b)

    phase_is_lem : f.phase ≡ get_or b p.at 0
    unfolding f read_record
    phase_is_lem = byte_part p.at 24 b 0 (lit< tt) ∙ ap (λ (k : ℕ). get_or b k 0) (add-zero p.at)

    past_twelve : proposal_refusal i b ≡ two_refusal b (not_idle (station_at i b))
    unfolding stations
    past_twelve = station_passes i b (record { low = on.low; high = on.high }) _

    pub head_inside : 0 < length b
    head_inside = omega (arith, on.inside)

    pub twenty_two : get_or b 0 0 ≡ 2 → verdict (Err TwoStations) ≡ proposal_refusal i b
    unfolding verdict stations
    twenty_two e = sym (past_twelve ∙ two_22 b e _)

    by_value : (get_or b 0 0 ≡ 2 → ⊥) → proposal_refusal i b ≡ not_idle (of_phase (get_or b p.at 0) f)
    unfolding f record_value stations
    by_value others =
        past_twelve ∙ two_passes b others _ ∙ ap not_idle (own_value i b p.index p.at on f refl)
        ∙ ap (λ (k : ℕ). not_idle (of_phase k f)) phase_is_lem

    -- any phase but 0 is that of a station that has proposed
    busy : (k : ℕ) → (k ≡ 0 → ⊥) → not_idle (of_phase k f) ≡ some 13
    unfolding not_idle of_phase writing_of reading_of
    busy zero h = absurd (h refl)
    busy (suc zero) h = refl
    busy (suc (suc zero)) h = refl
    busy (suc (suc (suc zero))) h = refl
    busy (suc (suc (suc (suc zero)))) h = refl
    busy (suc (suc (suc (suc (suc zero))))) h = refl
    busy (suc (suc (suc (suc (suc (suc zero)))))) h = refl
    busy (suc (suc (suc (suc (suc (suc (suc zero))))))) h = refl
    busy (suc (suc (suc (suc (suc (suc (suc (suc k)))))))) h = refl

    pub thirteen : (get_or b 0 0 ≡ 2 → ⊥) → (get_or b p.at 0 ≡ 0 → ⊥) → verdict (Err NotIdle) ≡ proposal_refusal i b
    unfolding verdict
    thirteen others ne = sym (by_value others ∙ busy (get_or b p.at 0) ne)

    pub taken : (get_or b 0 0 ≡ 2 → ⊥) → get_or b p.at 0 ≡ 0 → verdict (Ok tt) ≡ proposal_refusal i b
    unfolding verdict not_idle of_phase
    taken others e = sym (by_value others ∙ ap (λ (k : ℕ). not_idle (of_phase k f)) e)

-- ---- a proposal that is taken

module _ (i : ℕ) (b : List ℕ) (sound : board_refusal b none ≡ none) (free : proposal_refusal i b ≡ none) where
  its : OnBoard i b
  its = (may_propose i b free).on

  pub index_from : 1 ≤ i
  index_from = its.low

  pub own_inside : i - 1 < get_or b 0 0
  unfolding stations
  own_inside = omega (arith, its.low, its.high)

  -- its place, as the code comes to it
  module _ (n k j at : ℕ) (en : n ≡ get_or b 0 0) (ek : k ≡ get_or b 1 0) (ej : j ≡ i - 1) (here : at ≡ record_at n k j) where
    place : at ≡ record_at (get_or b 0 0) (get_or b 1 0) (i - 1)
    place = here ∙ (λ x. record_at (en x) (ek x) (ej x))

    pub record_there : at + 24 ≤ length b
    record_there =
        omega (arith, place, record_inside (get_or b 0 0) (get_or b 1 0) (i - 1) own_inside, (head b sound).len)

    pub put_in : (v : Figure) → SFits w32 v
        → (g : Record) → ((f : Record) → g ≡ record_fields (proposed (to_z w32 (of_z w32 v))) (with_counts 0 0 f))
        → (d : List ℕ) → d ≡ splice at (lay_record g) b → d ≡ (propose i v b).bytes
    unfolding put_record record_of stations islands
    put_in v fits g eg d ed =
        let own = eg _ ∙ (λ x. record_fields (proposed (to_z-of_z fits x))
        (with_counts 0 0 (read_record (part (record_at (get_or b 0 0) (get_or b 1 0) (i - 1)) 24 b)))) in
        ed ∙ (λ x. splice (place x) (lay_record (own x)) b)
        ∙ sym (ap (λ (a : After Refusal). a.bytes) (accepts i v b (board_of_lem b none sound).0 free))

-- ---- the call

module _ (i : ℕ) (v : Figure) (b : List ℕ) where
  refuses : (k : refusals.Refusal) → board_refusal b (proposal_refusal i b) ≡ some (number k) → Proposes i v b (Err k) b
  unfolding Proposes propose unless_refused verdict
  refuses k e = rw e (refl, refl)

  pub board_refuses : (w : Result (Unit {0}) refusals.Refusal) (k : refusals.Refusal) → w ≡ Err k
      → verdict w ≡ board_refusal b none
      → (verdict (Err k) ≡ (propose i v b).answer) × (b ≡ (propose i v b).bytes)
  unfolding Proposes
  board_refuses w k e h = refuses k (board_first b _ (number k) (turned b w k e h))

  module _ (sound : board_refusal b none ≡ none) (r : Result (Unit {0}) refusals.Refusal)
      (says : verdict r ≡ proposal_refusal i b) where
    pub station_refuses : (k : refusals.Refusal) → r ≡ Err k → Proposes i v b (Err k) b
    unfolding verdict
    station_refuses k e = refuses k (past_board b sound _ ∙ sym says ∙ ap verdict e)

    pub station_free : (x : Unit {0}) → r ≡ Ok x → proposal_refusal i b ≡ none
    unfolding verdict
    station_free x e = sym says ∙ ap verdict e

    pub proposed_all : (x : Unit {0}) → r ≡ Ok x → (d : List ℕ) → d ≡ (propose i (to_z w32 (of_z w32 v)) b).bytes
        → SFits w32 v → Proposes i v b (Ok tt) d
    unfolding Proposes verdict
    proposed_all x e d q fits = (
      sym (ap (λ (a : After Refusal). a.answer) (accepts i v b (board_of_lem b none sound).0 (station_free x e))),
      q ∙ ap (λ (x : Figure). (propose i x b).bytes) (to_z-of_z fits),
    )

-- the figure as it was passed on
pub same_figure_lem : (i : ℕ) (v : Figure) (b : List ℕ) (r : Result (Unit {0}) refusals.Refusal) (d : List ℕ) → SFits w32 v
    → Proposes i (to_z w32 (of_z w32 v)) b r d → (verdict r ≡ (propose i v b).answer) × (d ≡ (propose i v b).bytes)
unfolding Proposes
same_figure_lem i v b r d fits h = (
  h.0 ∙ ap (λ (x : Figure). (propose i x b).answer) (to_z-of_z fits),
  h.1 ∙ ap (λ (x : Figure). (propose i x b).bytes) (to_z-of_z fits),
)

-- what the code finds by itself: of a refusal, of a proposal that is taken, on a sound board and of the call
pub ruleset refusing = (no_station, head_inside, twenty_two, phase_inside, thirteen, taken)

pub ruleset taking = (head_long, n_high, k_high, index_from, own_inside, record_there)

pub ruleset on_board = (station_refuses, station_free)

pub ruleset call = (board_refuses, same_figure_lem)
