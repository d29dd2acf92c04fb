-- Six of 02, whole: for every list of calls from a laid board, a station left alone decides, and with one figure
-- proposed by all each decides on island 0.
-- Relies on both on bytes and on what a fresh board stands for. The statement is specs/LeftRunning.antt.
use Rattle.model.proofs.Kit.{◌≡◌, refl, sym, ◌∙◌, subst, inl, List, [], ◌∷◌, none, ℕ, ◌+◌, ◌-◌, ◌*◌, ◌≤◌, ◌<◌}
use Rattle.model.proofs.Kit.{arith}
use Rattle.model.specs.Figure.{Figure, figures}
use Rattle.model.specs.Listing.{empty, in_m, decided}
use Rattle.model.specs.Layout.{fresh_board}
use Rattle.model.specs.Calls.{propose}
use Rattle.model.specs.AnyList as call
use Rattle.model.specs.AnyList.{Call, called, Allowed, AllAllowed, Some, Proposes, after, until}
use Rattle.model.specs.LeftRunning.{GoingOn, DecidesWithin, UpTo, RoomAbove, NobodyStepped, Terminates}
use Rattle.model.specs.LeftRunning.{LeftRunning, Single, OnFresh}
use Rattle.model.proofs.Board.Codec.{Fits}
use Rattle.model.proofs.Board.Places.{InBoard}
use Rattle.model.proofs.Basics.Numbers.{same_law}
use Rattle.model.proofs.Calls.Refusals.{Shape, laid_fresh, laid_not_two}
use Rattle.model.proofs.Agreement.Cells.{cells}
use Rattle.model.proofs.Agreement.StateCalls.{inv_initial}
use Rattle.model.proofs.Termination.Climbs.{Safe, climbs_inductive, climbs_initial}
use Rattle.model.proofs.Termination.Rest.{alone_steps}
use Rattle.model.proofs.Agreement.State.{initial, proposing}
use Rattle.model.proofs.Bridge.View.{view, view_register}
use Rattle.model.proofs.Bridge.Single.{Ready, propose_ready, propose_sim}
use Rattle.model.proofs.Bridge.Until.{proposes}
use Rattle.model.proofs.Bridge.Lists.{Held, ready, held_after, along_list}
use Rattle.model.proofs.Bridge.Events.{proposes_end}
use Rattle.model.proofs.Bridge.OneFigure.{one_figure}
use Rattle.model.proofs.Bridge.LeftAlone.{shown_room, decides_alone, decides_first, run_decides}
use Rattle.model.proofs.Demand3.{fresh_station, fresh_view, fresh_held}

module _ (n K : ℕ) (lent : List ℕ) (shape : Shape n K lent) (cs : List Call) (a : AllAllowed cs (fresh_board n K)) where
  start : Held n K (fresh_board n K)
  start = fresh_held n K lent shape

  abbrev end : List ℕ
  end = after cs (fresh_board n K)

  end_held : Held n K end
  end_held = held_after n K cs (fresh_board n K) start a

  end_safe : Safe n (cells (view n K end))
  end_safe =
      along_list n K (climbs_inductive figures same_law n K) cs (fresh_board n K) (ready n K _ start) a (λ i v p. tt)
      (rw (fresh_view n K) ((inv_initial n).clauses, climbs_initial))

  decides_within : RoomAbove end → (i : ℕ) → GoingOn i end → (steps : ℕ) → alone_steps n ≤ steps
      → DecidesWithin steps i end
  decides_within = decides_alone n K end (ready n K end end_held) shape.islands_low end_safe

  fresh_terminates : Terminates n (fresh_board n K) cs
  unfolding DecidesWithin
  fresh_terminates = record {
    alone = decides_within;
    run_alone = λ q i g.
        let (k, v, e) = decides_within q i g (9 * (n + 1)) (omega arith) in
        let (j, d) = run_decides n K end end_held i k v (9 * (n + 1)) (omega (arith, shape.stations_high)) e in
        (j, v, d);
    shown_room = shown_room n K end (ready n K end end_held) end_safe;
    nobody_stepped = λ q i v p steps enough.
        let s = proposes_end n K i v cs (fresh_board n K) start a p in
        decides_first n K end (ready n K end end_held) shape.islands_low end_safe q i s.positive s.own v
        s.stands.0 s.stands.1 steps enough;
    one_figure = one_figure n K (fresh_board n K) start (fresh_view n K) cs a;
  }

-- ---- a fresh board

module _ (n K : ℕ) (b : List ℕ) (r : Ready n K b) where
  -- m of the board is that of the state that it stands for
  none_stepped : ((j : ℕ) → (view n K b).register in_m j ≡ empty) → NobodyStepped b
  unfolding NobodyStepped InBoard
  none_stepped h j l = rw r.is_n (sym (view_register n K b in_m j tt (omega (arith, r.is_n))) ∙ h j)

-- where nobody has stepped there is room
leaves_room : (b : List ℕ) → NobodyStepped b → RoomAbove b
unfolding NobodyStepped RoomAbove UpTo
leaves_room b h j l = rw (h j l) tt

module _ (n K : ℕ) (lent : List ℕ) (shape : Shape n K lent) (not_two : n ≡ 2 → ⊥) where
  laid : Ready n K (fresh_board n K)
  laid = ready n K _ (fresh_held n K lent shape)

  fresh_m : (j : ℕ) → (view n K (fresh_board n K)).register in_m j ≡ empty
  unfolding initial
  fresh_m j = rw (fresh_view n K)

  -- the proposal of a single station leaves m as it was
  single : (i : ℕ) → 1 ≤ i → i ≤ n → (v : Figure) → Fits v → (steps : ℕ) → 3 * (n + 1) ≤ steps
      → (until steps i (propose i v (fresh_board n K)).bytes).answer.did ≡ decided 0 v
  unfolding initial proposing after AllAllowed Allowed Some Proposes called Fits
  single i low high v fits steps enough =
      let own : i - 1 < n = omega arith in
      let b : List ℕ = fresh_board n K in
      let taken : (propose i v b).answer ≡ none =
      proposes n K i low own v b laid not_two (fresh_station n K (i - 1) own) in
      let sim = propose_sim n K i v b fits laid taken in
      let same : (j : ℕ) → (view n K (propose i v b).bytes).register in_m j ≡ empty = λ j. rw sim.after (fresh_m j) in
      (fresh_terminates n K lent shape (call.proposing i v ∷ []) (fits, tt)).nobody_stepped
      (none_stepped n K _ (propose_ready n K i v b fits laid) same) i v (inl (refl, taken)) steps enough

pub on_fresh : OnFresh
unfolding OnFresh Fits
on_fresh n K lent e =
    let s = laid_fresh n K lent e in
    let not_two = laid_not_two n K lent e in
    subst (Single n K) (sym s.1) (record {
      room = leaves_room _ (none_stepped n K _ (laid n K lent s.0 not_two) (fresh_m n K lent s.0 not_two));
      decides = single n K lent s.0 not_two;
    })

-- ---- every list

pub left_running : LeftRunning
unfolding LeftRunning
left_running n K lent e =
    let s = laid_fresh n K lent e in
    subst (λ (b : List ℕ). (cs : List Call) → AllAllowed cs b → Terminates n b cs) (sym s.1)
    (fresh_terminates n K lent s.0)
