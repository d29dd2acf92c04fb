-- Demand 3, whole: for every list of calls from a laid board, agreement, validity and the sequential order.
-- Relies on the invariant, on what a list leaves on the board, and on stations in turn. The statement is
-- specs/AnyList.antt.
use Rattle.model.proofs.Kit.{◌≡◌, refl, sym, ap, subst, ◌∙◌, ◌&&◌, inl, inr, ⊎_elim, List, [], ◌∷◌, ℕ, suc, ◌+◌}
use Rattle.model.proofs.Kit.{◌-◌, ◌≤◌, ◌<◌, ◌*◌, ltb-true, ltb, lit<, ℕ_discrete, arith}
use native.Mathlib.Nat.{le_refl}
use Rattle.model.specs.Figure.{Figure}
use Rattle.model.specs.Listing.{empty, Stage, Station, idle, active, in_m}
use Rattle.model.specs.Layout.{fresh_board, read_register, register_value, register_of, station_of, read_record}
use Rattle.model.specs.Layout.{record_value, of_phase}
use Rattle.model.specs.Calls.{stations, islands}
use Rattle.model.specs.AnyList.{Call, AllAllowed, Some, Proposes, Steps, Decides, Seat, Among, Once, AsProposed}
use Rattle.model.specs.AnyList.{EachDecides, Ordered, Demand3, AnyList, after}
use Rattle.model.proofs.Basics.Tests.{cond_case}
use Rattle.model.proofs.Board.Codec.{register, station, Fits, FitsStation}
use Rattle.model.proofs.Board.Boards.{register_part}
use Rattle.model.proofs.Board.Fresh.{fresh_zero, fresh_empty}
use Rattle.model.proofs.Listing.Collect.{Filled}
use Rattle.model.proofs.Calls.Refusals.{Shape, laid_fresh, laid_not_two}
use Rattle.model.proofs.Calls.CallsKeep.{fresh_board_lem, station_of_fits}
use Rattle.model.proofs.Agreement.State.{State, initial}
use Rattle.model.proofs.Agreement.StateCalls.{inv_initial}
use Rattle.model.proofs.Bridge.View.{inside, there, view}
use Rattle.model.proofs.Bridge.Lists.{Held, ready}
use Rattle.model.proofs.Bridge.Along.{m_of}
use Rattle.model.proofs.Bridge.History.{absurd_idle, proposal_of}
use Rattle.model.proofs.Bridge.Events.{steps_end}
use Rattle.model.proofs.Bridge.Decided.{Unstepped, Witness, agreement, witness, stepped_in_list}
use Rattle.model.proofs.Bridge.InTurn.{Proper, AllProper, first_decides}
use Rattle.model.proofs.Bridge.Seats.{proposal_in, seat, seats, among_is, is_among, seats_once, all_seats}

-- ---- a fresh board stands for the initial state

module _ (n K : ℕ) where
  pub fresh_station : (j : ℕ) → j < n → station_of n K j (fresh_board n K) ≡ idle
  unfolding station_of read_record record_value of_phase
  fresh_station j h = ap station (fresh_zero n K j h)

  pub fresh_view : view n K (fresh_board n K) ≡ initial
  unfolding view initial register_of register_part read_register register_value
  fresh_view = λ i. record {
    station = λ j. cond_case (λ z. z ≡ idle) (ltb j n) _ idle (λ e. fresh_station j (ltb-true j n e)) (λ e. refl) i;
    register = λ a j. cond_case (λ r. r ≡ empty) (inside K a && ltb j n) _ empty
        (λ e. let p = (there n K a j).0 e in ap register (fresh_empty n K a p.0 j p.1)) (λ e. refl) i;
  }

  pub fresh_held : (b : List ℕ) → Shape n K b → Held n K (fresh_board n K)
  unfolding stations islands fresh_board
  fresh_held b s = record { board = fresh_board_lem n K b s; is_n = refl; is_k = refl; inv = rw fresh_view (inv_initial n) }

  pub fresh_m : Unstepped n K (fresh_board n K)
  unfolding m_of initial
  fresh_m j h = subst (λ (st : State Figure). Filled (st.register in_m j)) fresh_view h

proposal_fits : (z : Station Figure) → FitsStation z → Fits (proposal_in z)
unfolding proposal_in FitsStation Fits
proposal_fits idle h = record { sfits = lit< tt }
proposal_fits (active v s) h = h.0

-- ---- the three clauses, of a list from a fresh board

module _ (n K : ℕ) (b : List ℕ) (shape : Shape n K b) (not_two : n ≡ 2 → ⊥) (cs : List Call)
    (a : AllAllowed cs (fresh_board n K)) where
  start : Held n K (fresh_board n K)
  start = fresh_held n K b shape

  abbrev end : List ℕ
  end = after cs (fresh_board n K)

  abbrev InList : (Call → List ℕ → Type 0) → Type 0
  InList P = Some P cs (fresh_board n K)

  -- a station whose proposal is on the board at the end proposed it in the list
  proposed_in_list : (j : ℕ) → j < n → (v : Figure) (s : Stage Figure) → station_of n K j end ≡ active v s
      → InList (Proposes (suc j) v)
  proposed_in_list j h v s e =
      ⊎_elim (λ q. absurd_idle (fresh_station n K j h) q.1) (λ q. q) (proposal_of n K j h v cs _ start a (s, e))

  stepped : (j : ℕ) → j < n → Filled (m_of n K j end) → InList (Steps (suc j))
  stepped = stepped_in_list n K (fresh_board n K) start cs a (fresh_m n K)

  pub validity : (i : ℕ) (v : Figure) → InList (Decides i v) → (j : ℕ) × InList (Proposes j v) × InList (Steps j)
  validity i v p =
      let w = witness n K _ start cs a i v p in (
        suc w.who,
        proposed_in_list w.who w.own v w.stage w.proposal,
        stepped w.who w.own w.steps,
      )

  -- ---- the order

  -- the proposal of a station that took a step
  seat_proposed : (j : ℕ) → j < n → Filled (m_of n K j end)
      → InList (Proposes (seat n K end j).station (seat n K end j).figure)
  unfolding seat proposal_in
  seat_proposed j h f =
      let t = steps_end n K (suc j) cs (fresh_board n K) start a (stepped j h f) in
      let index : suc j - 1 ≡ j = omega arith in
      let e = rw index at t.stands.1 in
      proposed_in_list j h _ t.stands.0 (rw e)

  seat_proper : (j : ℕ) → j < n → Proper n (seat n K end j)
  unfolding seat
  seat_proper j h = record {
    positive = omega arith;
    own = omega arith;
    fits = proposal_fits (station_of n K j end) (station_of_fits n K j end);
  }

  module _ (v : Figure) (w : Witness n K end v) where
    abbrev others : List Seat
    others = seats n K end w.who n

    named : List Seat
    named = seat n K end w.who ∷ others

    names_each : (i : ℕ) → InList (Steps i) → Among i named
    unfolding named Among seat
    names_each i p =
        let t = steps_end n K i cs (fresh_board n K) start a p in
        let number : i ≡ suc (i - 1) = omega (arith, t.positive) in
        elim (ℕ_discrete (i - 1) w.who) [
          | yes e ↦ inl (number ∙ ap suc e)
          | no f ↦ inr (rw (← number) at
              (is_among n K end w.who n (i - 1) t.own (record { steps = t.filled; other = f })))
        ]

    names_no_other : (i : ℕ) → Among i named → InList (Steps i)
    unfolding named Among seat
    names_no_other i =
        ⊎_elim (λ e. rw e (stepped w.who w.own w.steps))
        (λ q. let (j, h, e, t) = among_is n K end w.who n i q in rw e (stepped j h t.steps))

    named_once : Once named
    unfolding named Once seat
    named_once = (
      (λ q. let (j, h, e, t) = among_is n K end w.who n (suc w.who) q in t.other (omega arith)),
      seats_once n K end w.who n,
    )

    named_figure : (seat n K end w.who).figure ≡ v
    unfolding seat proposal_in
    named_figure = rw w.proposal

    -- what holds of every seat of a station that took a step
    all_named : (P : List Seat → Type 0) → P []
        → ((j : ℕ) (l : List Seat) → j < n → Filled (m_of n K j end) → P l → P (seat n K end j ∷ l)) → P named
    unfolding named
    all_named P base more =
        more w.who others w.own w.steps
        (all_seats n K end w.who P base (λ j l t h q. more j l h t.steps q) n (le_refl n))

    named_decide : (fuel : ℕ) → 6 * (n + 1) ≤ fuel → EachDecides fuel v named (fresh_board n K)
    unfolding named AllProper
    named_decide fuel enough =
        first_decides n K fuel not_two shape.islands_low enough v (seat n K end w.who) others (fresh_board n K)
        (ready n K _ start) (fresh_view n K) named_figure
        (all_named (AllProper n) tt (λ j l h f q. (seat_proper j h, q))) named_once

    ordered : Ordered n K (fresh_board n K) cs v
    unfolding AsProposed
    ordered = record {
      order = named;
      each = names_each;
      no_other = names_no_other;
      once = named_once;
      figures = all_named (AsProposed cs (fresh_board n K)) tt (λ j l h f q. (seat_proposed j h f, q));
      decides = named_decide;
    }

  fresh_demand3 : Demand3 n K (fresh_board n K) cs
  fresh_demand3 = record {
    agreement = agreement n K (fresh_board n K) start cs a;
    validity = validity;
    sequential = λ i v p. ordered v (witness n K _ start cs a i v p);
  }

-- ---- demand 3

pub demand3 : AnyList
unfolding AnyList
demand3 n K lent e =
    let s = laid_fresh n K lent e in
    subst (λ (b : List ℕ). (cs : List Call) → AllAllowed cs b → Demand3 n K b cs) (sym s.1)
    (fresh_demand3 n K lent s.0 (laid_not_two n K lent e))
