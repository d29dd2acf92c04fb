-- Lists of calls whose accepted proposals are all of one figure v: the steps that a station took in the list tell where
-- it stands at the end, and what its next step answers.
-- Relies on OwnSteps of termination and on OwnCount; it is the second claim of specs/LeftRunning.antt.
use Rattle.model.proofs.Kit.{◌≡◌, refl, sym, ap, ◌∙◌, inl, inr, ⊎_elim, ◌⊎◌, List, ℕ, ◌+◌, ◌*◌, ◌-◌, ◌≤◌, ◌<◌}
use Rattle.model.proofs.Kit.{arith}
use Rattle.model.specs.Figure.{Figure, figures}
use Rattle.model.specs.Listing.{Stage, has_decided, Station, idle, active, decided, goes_on, outcome, proposed}
use Rattle.model.specs.Layout.{station_of}
use Rattle.model.specs.Sound.{present_pass, turns_before, island_of, most_steps}
use Rattle.model.specs.Calls.{station_at, propose, step}
use Rattle.model.specs.Standing.{stands_decided, standing_of}
use Rattle.model.specs.AnyList.{Call, after, AllAllowed, Some, Proposes}
use Rattle.model.specs.StepCount.{steps_in}
use Rattle.model.specs.LeftRunning.{OneFigure, Unanimous}
use Rattle.model.proofs.Basics.Numbers.{same_law, self_law}
use Rattle.model.proofs.Board.Codec.{station}
use Rattle.model.proofs.Board.Good.{GoodStage}
use Rattle.model.proofs.Board.Values.{sound_station}
use Rattle.model.proofs.Listing.Going.{Going}
use Rattle.model.proofs.Calls.CallsKeep.{good_stage}
use Rattle.model.proofs.Agreement.State.{initial, proposing}
use Rattle.model.proofs.Agreement.Cells.{cells}
use Rattle.model.proofs.Agreement.Inductive.{Inductive}
use Rattle.model.proofs.Termination.OneFigure.{AlikeStage, alike_at, alike_inductive}
use Rattle.model.proofs.Termination.OwnSteps.{OnlyFigure, only_pass, goes_or_decided, advances, move_adds}
use Rattle.model.proofs.Bridge.View.{view, view_station}
use Rattle.model.proofs.Bridge.Single.{Ready, propose_sim, step_at, step_sim}
use Rattle.model.proofs.Bridge.OneRecord.{sound_here}
use Rattle.model.proofs.Bridge.OwnCount.{Counts, list_adds}
use Rattle.model.proofs.Bridge.Lists.{Held, ready, changed, along_call, along_list, held_after}
use Rattle.model.proofs.Bridge.Along.{own_put, stands_now}
use Rattle.model.proofs.Bridge.Events.{proposes_end, decides_end}

module _ (n K : ℕ) (v : Figure) where
  -- the state of a board, in which all are alike
  abbrev Only : List ℕ → Type 0
  Only b = OnlyFigure v n K (cells (view n K b))

  keeps : Inductive figures n K (λ w. w ≡ v) (OnlyFigure v n K)
  keeps = alike_inductive v figures self_law same_law n K

  held : (b : List ℕ) → Ready n K b → Only b → Held n K b
  held b r o = record { board = r.board; is_n = r.is_n; is_k = r.is_k; inv = record { clauses = o.0 } }

  at_start : (b : List ℕ) → Held n K b → view n K b ≡ initial → Only b
  unfolding initial cells
  at_start b h e = (h.inv.clauses, rw e (λ i. record { station = tt; register = λ a. tt }))

  -- a station whose stage is known
  module _ (b : List ℕ) (j : ℕ) (own : j < n) (w : Figure) (s : Stage Figure)
      (e : station_of n K j b ≡ active w s) where
    in_view : (view n K b).station j ≡ active w s
    in_view = view_station n K b j own ∙ e

    good_at : Ready n K b → GoodStage n K s
    good_at r = good_stage n K w s (rw e at (sound_station n K b (sound_here n K j b r) j own)).good

    alike_here : Only b → AlikeStage v s
    unfolding cells
    alike_here o = alike_at v figures self_law same_law n K j o in_view

  -- ---- a station's own steps along a list

  module _ (i : ℕ) (low : 1 ≤ i) (high : i ≤ n) where
    -- the most steps that a record may count; the station has taken them all
    abbrev most : List ℕ → ℕ
    most r = most_steps n (station r)

    counts : (b : List ℕ) → Ready n K b → Only b → Counts n K i low high most b
    unfolding station_of proposing proposed most_steps present_pass turns_before island_of
    counts b r o = record {
      proposes = λ w fits a.
          let s = propose_sim n K i w b fits r a in
          let now = own_put n K b (propose i w b).bytes (i - 1) _ _ s.after s.own in
          omega (arith, ap (most_steps n) now, ap (most_steps n) s.rests);
      steps = λ a.
          let s = step_sim n K i b r a in
          let now = stands_now n K b (held b r o) i s in
          let here = in_view b (i - 1) s.own s.proposal s.stage s.stands in
          let good = good_at b (i - 1) s.own s.proposal s.stage s.stands r in
          ap (most_steps n) now
          ∙ move_adds n v K (view n K b) (i - 1) s.proposal s.stage s.own here s.goes good o
          ∙ ap (λ (z : Station Figure). most_steps n z + 1) (sym s.stands);
    }

    taken : (cs : List Call) (b : List ℕ) → Ready n K b → AllAllowed cs b → Only b → OneFigure v cs b
        → most_steps n (station_of n K (i - 1) (after cs b)) ≡ most_steps n (station_of n K (i - 1) b) + steps_in i cs b
    unfolding station_of OneFigure Some
    taken cs b r a o one =
        (list_adds n K i low high most (λ cs b. Only b × OneFigure v cs b) (λ c cs b r a p. (
          counts b r p.0,
          (
            along_call n K keeps c b (changed n K c b r a) (λ j w q. p.1 j w (inl q)) p.0,
            λ j w q. p.1 j w (inr q),
          ),
        )) cs b r a (o, one)).0

-- ---- in the words of the claim, of a list from a board where nothing has happened

module _ (n K : ℕ) (b : List ℕ) (h : Held n K b) (fresh : view n K b ≡ initial) (cs : List Call) (a : AllAllowed cs b)
    (v : Figure) (one : OneFigure v cs b) (i : ℕ) (low : 1 ≤ i) (high : i ≤ n) where
  abbrev end : List ℕ
  end = after cs b

  own : i - 1 < n
  own = omega arith

  at_end : Ready n K end
  at_end = ready n K end (held_after n K cs b h a)

  only : Only n K v end
  unfolding OneFigure
  only = along_list n K (keeps n K v) cs b (ready n K b h) a one (at_start n K v b h fresh)

  steps_here : most_steps n (station_of n K (i - 1) end) ≡ steps_in i cs b
  unfolding initial most_steps
  steps_here =
      let rests : station_of n K (i - 1) b ≡ idle = sym (view_station n K b (i - 1) own) ∙ rw fresh in
      omega (
        arith,
        taken n K v i low high cs b (ready n K b h) a (at_start n K v b h fresh) one,
        ap (most_steps n) rests,
      )

  -- what the station's next step answers, by the steps that it has taken
  abbrev NextStep : Type 0
  NextStep =
      (steps_in i cs b + 1 < 3 * (n + 1) → outcome (step i end).answer.did ≡ goes_on)
      × (steps_in i cs b + 1 ≡ 3 * (n + 1) → (step i end).answer.did ≡ decided 0 v)

  -- how the station stands at the end, once it has proposed
  module _ (w : Figure) (s : Stage Figure) (e : station_of n K (i - 1) end ≡ active w s) where
    good : GoodStage n K s
    good = good_at n K v end (i - 1) own w s e at_end

    alike : AlikeStage v s
    alike = alike_here n K v end (i - 1) own w s e only

    pass_here : present_pass n s ≡ steps_in i cs b
    pass_here = sym (only_pass n v w s alike) ∙ rw e at steps_here

    stage_here : (Going s × (steps_in i cs b < 3 * (n + 1))) ⊎ ((s ≡ has_decided 0 v) × (steps_in i cs b ≡ 3 * (n + 1)))
    unfolding present_pass
    stage_here =
        ⊎_elim (λ q. inl (q.0, omega (arith, pass_here, q.1))) (λ d. inr (d, sym pass_here ∙ rw d))
        (goes_or_decided n v K s good alike)

    answers : Going s → NextStep
    answers g =
        let told = (step_at n K i end at_end low own w s e g).1 in
        let next = advances n v K (view n K end) (i - 1) w s own (in_view n K v end (i - 1) own w s e) g good only in (
          λ l. ap outcome told ∙ next.earlier (omega (arith, pass_here)),
          λ l. told ∙ next.exactly (omega (arith, pass_here)),
        )

  next_step : Some (Proposes i v) cs b → steps_in i cs b < 3 * (n + 1) → NextStep
  next_step p l =
      let (s, e) = (proposes_end n K i v cs b h a p).stands in
      ⊎_elim (λ q. answers v s e q.0) (λ d. absurd (omega (arith, d.1))) (stage_here v s e)

  stands_so : (z : Station Figure) → station_of n K (i - 1) end ≡ z → 3 * (n + 1) ≤ steps_in i cs b
      → (standing_of z ≡ stands_decided 0 v) × (steps_in i cs b ≡ 3 * (n + 1))
  unfolding most_steps standing_of
  stands_so idle e l = absurd (omega (arith, rw e at steps_here))
  stands_so (active w s) e l =
      ⊎_elim (λ q. absurd (omega (arith, q.1))) (λ q. (rw q.0, q.1)) (stage_here w s e)

  pub one_figure : Unanimous n b cs v i
  unfolding station_at
  one_figure = record {
    earlier = λ p l. (next_step p (omega arith)).0 l;
    exactly = λ p l. (next_step p (omega arith)).1 l;
    ever_after = λ l. rw (at_end.is_n, at_end.is_k) (stands_so (station_of n K (i - 1) end) refl l);
    only_then = λ w p.
        let d = decides_end n K i w cs b h a p in
        ⊎_elim (λ q. absurd q.0) (λ q. (q.1, cc q.0))
        (stage_here d.proposal (has_decided d.island w) d.stands);
  }
