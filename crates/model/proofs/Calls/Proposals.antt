-- Proposals put in together: what passing their refusals says, that each is then accepted by itself and the other way
-- round, and that a refused call alters nothing.
-- Relies on Refusals, CallsKeep and StepsTaken; the claim about any order, a sheet's pairs and the code rely on it.
use Rattle.model.proofs.Kit.{◌≡◌, refl, sym, ap, subst, ◌∙◌, Bool, false, ◌||◌, not, List, [], ◌∷◌, ◌++◌, none}
use Rattle.model.proofs.Kit.{some, ℕ, ◌-◌, lit<, eqb, eqb-true, eqb-false, T, arith}
use Rattle.model.specs.Bytes.{names, Each}
use Rattle.model.specs.Figure.{Figure}
use Rattle.model.specs.Listing.{idle, active, proposed}
use Rattle.model.specs.Layout.{read_record, record_value, record_of, station_of}
use Rattle.model.specs.Calls.{After, Refusal, unless_refused, stations, islands, station_at}
use Rattle.model.specs.Calls.{put_proposal, proposal_refusal, propose}
use Rattle.model.specs.Proposals.{Proposal, AllFit, named, each_once, or_later, first_fault, pairs_refusal}
use Rattle.model.specs.Proposals.{proposals_refusal, one_by_one, propose_all}
use Rattle.model.specs.AnyOrder.{AllAccepted}
use Rattle.model.proofs.Basics.Tests.{and_l, and_r, and_i, T_false, by_test, clash}
use Rattle.model.proofs.Board.Codec.{Fits, station_bytes}
use Rattle.model.proofs.Board.Boards.{record_same}
use Rattle.model.proofs.Calls.Refusals.{some_none, unless_passes, unless_none, call_case, Board}
use Rattle.model.proofs.Calls.Refusals.{board_of_lem, board_passes, OnBoard, may_propose, proposal_passes}
use Rattle.model.proofs.Calls.Refusals.{index_inside}
use Rattle.model.proofs.Calls.CallsKeep.{proposed_fits, propose_keeps, propose_head}
use Rattle.model.proofs.Calls.StepsTaken.{proposed_other}

-- ---- one station

-- the station number i may propose on the sound board b
abbrev pub Free : List ℕ → (i : ℕ) → Type 0
Free b i = proposal_refusal i b ≡ none

pub accepted_of : (i : ℕ) (v : Figure) (b : List ℕ) → (propose i v b).answer ≡ none → Board b × Free b i
unfolding propose
accepted_of i v b =
    call_case (λ a. a.answer ≡ none → Board b × Free b i) _ some b _ (λ e f. board_of_lem b _ e) (λ k e f. some_none k f)

pub accepts : (i : ℕ) (v : Figure) (b : List ℕ) → Board b → Free b i
    → propose i v b ≡ (record { answer = none; bytes = put_proposal (stations b) (islands b) (i - 1) v b })
unfolding propose unless_refused
accepts i v b h e = rw (board_passes b h (proposal_refusal i b) ∙ e)

-- an accepted proposal leaves every other station as it stands, and its own is idle no more
module _ (j : ℕ) (w : Figure) (b : List ℕ) (h : Board b) (free : Free b j) where
  is_put : (propose j w b).bytes ≡ put_proposal (stations b) (islands b) (j - 1) w b
  is_put = ap (λ (a : After Refusal). a.bytes) (accepts j w b h free)

  pub same_stations : stations (propose j w b).bytes ≡ stations b
  unfolding stations
  same_stations = propose_head j w b h 0 (lit< tt)

  pub same_islands : islands (propose j w b).bytes ≡ islands b
  unfolding islands
  same_islands = propose_head j w b h 1 (lit< tt)

  module _ (i : ℕ) (ne : i ≡ j → ⊥) where
    pub other_record : OnBoard i b
        → record_of (stations b) (islands b) (i - 1) (propose j w b).bytes
        ≡ record_of (stations b) (islands b) (i - 1) b
    other_record on =
        proposed_other j w b h (ap (λ (a : After Refusal). a.answer) (accepts j w b h free)) (i - 1)
        (index_inside i b on)
        (λ e. ne (omega (arith, on.low, (may_propose j b free).on.low)))

    other_station : OnBoard i b → station_at i (propose j w b).bytes ≡ station_at i b
    unfolding station_at station_of
    other_station on =
        rw (same_stations, same_islands) (ap (λ (r : List ℕ). record_value (read_record r)) (other_record on))

    pub free_stays : Free b i → Free (propose j w b).bytes i
    free_stays e =
        let m = may_propose i b e in
        proposal_passes i _ (record {
          on = record { low = m.on.low; high = rw same_stations m.on.high };
          not_two = rw same_stations m.not_two;
          rests = other_station m.on ∙ m.rests;
        })

    pub free_back : Free (propose j w b).bytes i → Free b i
    free_back e =
        let m = may_propose i _ e in
        let on : OnBoard i b = record { low = m.on.low; high = rw same_stations at m.on.high } in
        proposal_passes i b (record {
          on = on;
          not_two = rw same_stations at m.not_two;
          rests = sym (other_station on) ∙ m.rests;
        })

  pub free_no_more : Fits w → Free (propose j w b).bytes j → ⊥
  unfolding station_at station_of proposed
  free_no_more fits e =
      let s : station_at j (propose j w b).bytes ≡ proposed w
      = rw (same_stations, same_islands)
      (ap (λ (x : List ℕ). record_value (read_record (record_of (stations b) (islands b) (j - 1) x))) is_put
      ∙ ap (λ (r : List ℕ). record_value (read_record r))
      (record_same _ _ b h.sound_board.len (j - 1) (index_inside j b (may_propose j b free).on) _)
      ∙ station_bytes (proposed w) _ (proposed_fits w fits)) in
      idle_active (sym (may_propose j _ e).rests ∙ s)
    where
      idle_active : {v : Figure} {s : _} → idle ≡ active v s → ⊥
      idle_active q = absurd (let z : ◌≡◌ {A = ℕ} 0 1 = cc in omega arith)

-- ---- pairs

abbrev pub AllFree : List ℕ → List Proposal → Type 0
AllFree b ps = Each (λ p. Free b p.station) ps

both_none : (r later : Refusal) → or_later r later ≡ none → (r ≡ none) × (later ≡ none)
both_none none later e = (refl, e)
both_none (some k) later e = some_none k e

pub faults_none : (ps : List Proposal) (b : List ℕ) → first_fault ps b ≡ none → AllFree b ps
unfolding first_fault Each
faults_none [] b e = tt
faults_none (p ∷ ps) b e =
    let n = both_none (proposal_refusal p.station b) (first_fault ps b) e in (n.0, faults_none ps b n.1)

pub none_faults : (ps : List Proposal) (b : List ℕ) → AllFree b ps → first_fault ps b ≡ none
unfolding first_fault Each
none_faults [] b h = refl
none_faults (p ∷ ps) b h =
    ap (λ (r : Refusal). or_later r (first_fault ps b)) h.0 ∙ none_faults ps b h.1

-- what passing all refusals says
pub record Passed (ps : List Proposal) (b : List ℕ) : Type 0 where
  pub board : Board b
  pub once : T (each_once (named ps))
  pub free : AllFree b ps

pub passed_of : (ps : List Proposal) (b : List ℕ) → proposals_refusal ps b ≡ none → Passed ps b
unfolding proposals_refusal pairs_refusal
passed_of ps b e =
    let s = board_of_lem b _ e in
    let t = unless_none (each_once (named ps)) 20 (first_fault ps b) s.1 in
    record { board = s.0; once = t.0; free = faults_none ps b t.1 }

pub of_passed : (ps : List Proposal) (b : List ℕ) → Passed ps b → proposals_refusal ps b ≡ none
unfolding proposals_refusal pairs_refusal
of_passed ps b p =
    board_passes b p.board _ ∙ unless_passes (each_once (named ps)) 20 (first_fault ps b) p.once
    ∙ none_faults ps b p.free

-- ---- together and one by one

module _ (j : ℕ) (w : Figure) (b : List ℕ) (h : Board b) (free : Free b j) where
  not_this : (i : ℕ) (ps : List Proposal) → names j (i ∷ named ps) ≡ false → (i ≡ j → ⊥) × (names j (named ps) ≡ false)
  unfolding names
  not_this i ps e =
      by_test (eqb j i) (λ t. clash (sym (ap (λ (x : Bool). x || names j (named ps)) t) ∙ e))
      (λ f. (λ q. eqb-false j i f (sym q), sym (ap (λ (x : Bool). x || names j (named ps)) f) ∙ e))

  -- pairs of other stations are as free as they were
  all_stay : (ps : List Proposal) → names j (named ps) ≡ false → AllFree b ps → AllFree (propose j w b).bytes ps
  unfolding Each named
  all_stay [] e f = tt
  all_stay (p ∷ ps) e f =
      let o = not_this p.station ps e in
      (free_stays j w b h free p.station o.0 f.0, all_stay ps o.1 f.1)

  all_back : (ps : List Proposal) → names j (named ps) ≡ false → AllFree (propose j w b).bytes ps → AllFree b ps
  unfolding Each named
  all_back [] e f = tt
  all_back (p ∷ ps) e f =
      let o = not_this p.station ps e in
      (free_back j w b h free p.station o.0 f.0, all_back ps o.1 f.1)

  -- and where all are free afterwards, none names this station
  none_names : Fits w → (ps : List Proposal) → AllFree (propose j w b).bytes ps → names j (named ps) ≡ false
  unfolding Each named names
  none_names fits [] f = refl
  none_names fits (p ∷ ps) f =
      by_test (eqb j p.station)
      (λ t. absurd (free_no_more j w b h free fits
      (subst (Free (propose j w b).bytes) (sym (eqb-true j p.station t)) f.0)))
      (λ n. ap (λ (x : Bool). x || names j (named ps)) n ∙ none_names fits ps f.1)

pub all_accepted : (ps : List Proposal) (b : List ℕ) → AllFit ps → Passed ps b → AllAccepted ps b
unfolding AllFit Each Fits AllAccepted each_once named
all_accepted [] b fits p = tt
all_accepted (q ∷ ps) b fits p =
    let free = p.free.0 in
    let names-not = T_false _ (and_l (not (names q.station (named ps))) (each_once (named ps)) p.once) in (
      ap (λ (a : After Refusal). a.answer) (accepts q.station q.figure b p.board free),
      all_accepted ps _ fits.1 (record {
        board = propose_keeps q.station q.figure fits.0 b p.board;
        once = and_r (not (names q.station (named ps))) (each_once (named ps)) p.once;
        free = all_stay q.station q.figure b p.board free ps names-not p.free.1;
      }),
    )

pub accepted_passed : (ps : List Proposal) (b : List ℕ) → AllFit ps → Board b → AllAccepted ps b → Passed ps b
unfolding AllFit Each Fits AllAccepted each_once named
accepted_passed [] b fits h a = record { board = h; once = tt; free = tt }
accepted_passed (q ∷ ps) b fits h a =
    let free = (accepted_of q.station q.figure b a.0).1 in
    let later = accepted_passed ps _ fits.1 (propose_keeps q.station q.figure fits.0 b h) a.1 in
    let others = none_names q.station q.figure b h free fits.0 ps later.free in
    record {
      board = h;
      once = and_i (not (names q.station (named ps))) (each_once (named ps)) (rw others tt) later.once;
      free = (free, all_back q.station q.figure b h free ps others later.free);
    }

-- ---- the call

module _ (ps : List Proposal) (b : List ℕ) where
  pub together_case : (P : After Refusal → Type 0)
      → (proposals_refusal ps b ≡ none → P (record { answer = none; bytes = one_by_one ps b }))
      → ((k : ℕ) → proposals_refusal ps b ≡ some k → P (record { answer = some k; bytes = b }))
      → P (propose_all ps b)
  unfolding propose_all
  together_case P = call_case P (proposals_refusal ps b) some b _

  pub together_passes : (propose_all ps b).answer ≡ none → proposals_refusal ps b ≡ none
  together_passes =
      together_case (λ a. a.answer ≡ none → proposals_refusal ps b ≡ none) (λ e f. e) (λ k e f. some_none k f)

  pub together_is : proposals_refusal ps b ≡ none
      → propose_all ps b ≡ (record { answer = none; bytes = one_by_one ps b })
  unfolding propose_all unless_refused
  together_is e = rw e

  pub together_turned : (k : ℕ) → proposals_refusal ps b ≡ some k
      → propose_all ps b ≡ (record { answer = some k; bytes = b })
  unfolding propose_all unless_refused
  together_turned k e = rw e

  pub together_refused : (k : ℕ) → (propose_all ps b).answer ≡ some k → (propose_all ps b).bytes ≡ b
  together_refused k =
      together_case (λ a. a.answer ≡ some k → a.bytes ≡ b) (λ e f. some_none k (sym f)) (λ j e f. refl)

-- some pairs, and others behind them
pub one_by_one_more : (ps qs : List Proposal) (b : List ℕ) → one_by_one (ps ++ qs) b ≡ one_by_one qs (one_by_one ps b)
unfolding one_by_one
one_by_one_more [] qs b = refl
one_by_one_more (p ∷ ps) qs b = one_by_one_more ps qs _

pub accepted_later : (ps qs : List Proposal) (b : List ℕ) → AllAccepted (ps ++ qs) b → AllAccepted qs (one_by_one ps b)
unfolding AllAccepted one_by_one
accepted_later [] qs b a = a
accepted_later (p ∷ ps) qs b a = accepted_later ps qs _ a.1

pub one_by_one_keeps : (ps : List Proposal) → AllFit ps → (b : List ℕ) → Board b → Board (one_by_one ps b)
unfolding AllFit Each Fits one_by_one
one_by_one_keeps [] fits b h = h
one_by_one_keeps (p ∷ ps) fits b h =
    one_by_one_keeps ps fits.1 _ (propose_keeps p.station p.figure fits.0 b h)

pub together_keeps : (ps : List Proposal) → AllFit ps → (b : List ℕ) → Board b → Board (propose_all ps b).bytes
together_keeps ps fits b h =
    together_case ps b (λ a. Board a.bytes) (λ e. one_by_one_keeps ps fits b h) (λ k e. h)
