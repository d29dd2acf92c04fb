-- Saved boards of two stations at their start, fresh but for the two proposals: what the start keeps for every list of
-- calls from it, and whose figure is decided in one.
-- Relies on the fresh board, proposals on states and decisions in a list; the claim on saved boards relies on it.
use Rattle.model.proofs.Kit.{◌≡◌, ap, ◌∙◌, List, ℕ, zero, suc, ◌-◌, ◌≤◌, ◌<◌, lit<, arith}
use Rattle.model.specs.Figure.{Figure, figures}
use Rattle.model.specs.Listing.{idle, proposed}
use Rattle.model.specs.Layout.{board_length, fresh_board, station_of}
use Rattle.model.specs.Calls.{stations, islands, station_at, put_proposal}
use Rattle.model.specs.AnyList.{Call, AllAllowed, Some, Steps, Decides}
use Rattle.model.specs.TwoStations.{start, Holds}
use Rattle.model.proofs.Basics.Numbers.{same_law}
use Rattle.model.proofs.Board.Codec.{Fits}
use Rattle.model.proofs.Board.Fresh.{length_fresh}
use Rattle.model.proofs.Calls.Refusals.{Shape}
use Rattle.model.proofs.Calls.CallsKeep.{proposed_fits, put_head, put_keeps}
use Rattle.model.proofs.Agreement.State.{proposing}
use Rattle.model.proofs.Agreement.Cells.{Cell, cells}
use Rattle.model.proofs.Agreement.Inductive.{Inductive, propose_keeps}
use Rattle.model.proofs.Agreement.StateCalls.{Any, inductive, inv_initial}
use Rattle.model.proofs.Termination.Climbs.{Safe, climbs_inductive, climbs_initial}
use Rattle.model.proofs.Bridge.View.{view, view_station, view_put_station}
use Rattle.model.proofs.Bridge.Lists.{Held}
use Rattle.model.proofs.Bridge.Along.{m_of, m_of_lem, own_put, other_put}
use Rattle.model.proofs.Bridge.History.{same_proposal, active_after}
use Rattle.model.proofs.Bridge.Decided.{Unstepped, witness, stepped_in_list}
use Rattle.model.proofs.Demand3.{fresh_station, fresh_view, fresh_held, fresh_m}

-- ---- a proposal that is put in for an idle station, though no call would take it

-- what lists carry along from a board on which nobody has taken a step
pub record Begun (n K : ℕ) (b : List ℕ) : Type 0 where
  pub held : Held n K b
  pub safe : Safe n (cells (view n K b))
  pub unstepped : Unstepped n K b

-- the board b with the proposal v of station index j
record Put (n K : ℕ) (b : List ℕ) (j : ℕ) (v : Figure) : Type 0 where
  begun : Begun n K (put_proposal n K j v b)
  stands : station_of n K j (put_proposal n K j v b) ≡ proposed v
  others : (i : ℕ) → i < n → (j ≡ i → ⊥) → station_of n K i (put_proposal n K j v b) ≡ station_of n K i b

module _ (n K : ℕ) (b : List ℕ) (s : Begun n K b) (j : ℕ) (own : j < n) (v : Figure) (fits : Fits v)
    (rests : station_of n K j b ≡ idle) where
  abbrev h : Held n K b
  h = s.held

  put_view : view n K (put_proposal n K j v b) ≡ proposing j v (view n K b)
  unfolding proposing
  put_view =
      view_put_station n K b (rw (h.is_n, h.is_k) at h.board.sound_board.len) j own (proposed v) _
      (proposed_fits v fits)

  -- what proposals keep is kept
  put_state : {P : (ℕ → Cell Figure) → Type 0} → Inductive figures n K Any P → P (cells (view n K b))
      → P (cells (view n K (put_proposal n K j v b)))
  put_state k p = rw put_view (propose_keeps k (view n K b) j v own (view_station n K b j own ∙ rests) tt p)

  put_held : Held n K (put_proposal n K j v b)
  unfolding stations islands
  put_held = record {
    board = rw (h.is_n, h.is_k) at (put_keeps b h.board j (rw h.is_n own) v fits);
    is_n = rw (h.is_n, h.is_k) at (put_head b h.board j (rw h.is_n own) v 0 (lit< tt));
    is_k = rw (h.is_n, h.is_k) at (put_head b h.board j (rw h.is_n own) v 1 (lit< tt));
    inv = record { clauses = put_state (inductive figures same_law n K) h.inv.clauses };
  }

  put : Put n K b j v
  unfolding proposing m_of
  put = record {
    begun = record {
      held = put_held;
      safe = put_state (climbs_inductive figures same_law n K) s.safe;
      unstepped = λ i f. s.unstepped i (rw (m_of_lem n K i _ put_view) at f);
    };
    stands = own_put n K b _ j _ _ put_view own;
    others = other_put n K b _ j _ _ put_view;
  }

-- ---- the start

module _ (K : ℕ) (low : 2 ≤ K) (high : K ≤ 64) (v w : Figure) (fits-v : Fits v) (fits-w : Fits w) where
  shape : Shape 2 K (fresh_board 2 K)
  unfolding board_length
  shape = record {
    long = omega (arith, length_fresh 2 K);
    stations_low = omega arith;
    stations_high = omega arith;
    islands_low = low;
    islands_high = high;
    len = length_fresh 2 K;
  }

  fresh : Begun 2 K (fresh_board 2 K)
  fresh = record {
    held = fresh_held 2 K (fresh_board 2 K) shape;
    safe = rw (fresh_view 2 K) ((inv_initial 2).clauses, climbs_initial);
    unstepped = fresh_m 2 K;
  }

  one : Put 2 K (fresh_board 2 K) 0 v
  one = put 2 K _ fresh 0 (lit< tt) v fits-v (fresh_station 2 K 0 (lit< tt))

  two : Put 2 K (put_proposal 2 K 0 v (fresh_board 2 K)) 1 w
  two =
      put 2 K _ one.begun 1 (lit< tt) w fits-w
      (one.others 1 (lit< tt) (λ e. omega arith) ∙ fresh_station 2 K 1 (lit< tt))

  pub begun : Begun 2 K (start K v w)
  unfolding start
  begun = two.begun

  abbrev pub held : Held 2 K (start K v w)
  held = begun.held

  pub first_stands : station_of 2 K 0 (start K v w) ≡ proposed v
  unfolding start
  first_stands = two.others 0 (lit< tt) (λ e. omega arith) ∙ one.stands

  pub second_stands : station_of 2 K 1 (start K v w) ≡ proposed w
  unfolding start
  second_stands = two.stands

  pub holds : (j : ℕ) (x : Figure) → j < 2 → station_of 2 K j (start K v w) ≡ proposed x → Holds (suc j) x (start K v w)
  unfolding station_at
  holds j x own e = record {
    low = omega arith;
    high = omega (arith, held.is_n);
    proposal = let index : suc j - 1 ≡ j = omega arith in rw (held.is_n, held.is_k, index) e;
  }

  -- each station stands with its figure
  each_stands : (j : ℕ) → j < 2 → (x : Figure) × (station_of 2 K j (start K v w) ≡ proposed x)
  each_stands zero h = (v, first_stands)
  each_stands (suc zero) h = (w, second_stands)
  each_stands (suc (suc j)) h = absurd (omega arith)

  -- ---- every list

  module _ (cs : List Call) (a : AllAllowed cs (start K v w)) where
    pub validity : (i : ℕ) (x : Figure) → Some (Decides i x) cs (start K v w)
        → (j : ℕ) × Holds j x (start K v w) × Some (Steps j) cs (start K v w)
    unfolding proposed
    validity i x p =
        let t = witness 2 K (start K v w) held cs a i x p in
        let (y, e) = each_stands t.who t.own in
        let stays = active_after 2 K t.who t.own y cs (start K v w) held a (_, e) in
        let same : y ≡ x = same_proposal stays.1 t.proposal in (
          suc t.who,
          holds t.who x t.own (e ∙ ap proposed same),
          stepped_in_list 2 K (start K v w) held cs a begun.unstepped t.who t.own t.steps,
        )
