-- Stations in turn on bytes, each from the board that the one before left: all decide the figure of the first.
-- Relies on Until and the theorem of one turn; the order that demand 3 asks for relies on it.
use Rattle.model.proofs.Kit.{◌≡◌, sym, subst, ◌∙◌, inl, inr, List, [], ◌∷◌, ℕ, suc, ◌+◌, ◌-◌, ◌≤◌, ◌<◌, ◌*◌}
use Rattle.model.proofs.Kit.{arith}
use Rattle.model.specs.Figure.{Figure, figures}
use Rattle.model.specs.Listing.{idle, decided}
use Rattle.model.specs.AnyList.{Seat, turn, EachDecides, Among, Once}
use Rattle.model.proofs.Basics.Numbers.{same_law, self_law}
use Rattle.model.proofs.Board.Codec.{Fits}
use Rattle.model.proofs.Agreement.State.{initial}
use Rattle.model.proofs.Sequential.Turns as values
use Rattle.model.proofs.Sequential.Turns.{Ended}
use Rattle.model.proofs.Sequential.Between.{Between}
use Rattle.model.proofs.Sequential.OneTurn.{Decides, first_turn, next_turn}
use Rattle.model.proofs.Sequential.Sequential.{NotAmong, Distinct, AllFresh, initial_fresh, still_fresh}
use Rattle.model.proofs.Bridge.View.{view, view_station}
use Rattle.model.proofs.Bridge.Single.{Ready, propose_ready, propose_sim}
use Rattle.model.proofs.Bridge.Until.{Ends, proposes, until_sim}

-- a seat of a board with n stations, with a figure of 32 bits
pub record Proper (n : ℕ) (s : Seat) : Type 0 where
  pub positive : 1 ≤ s.station
  pub own : s.station - 1 < n
  pub fits : Fits s.figure

unfoldable pub AllProper : (n : ℕ) → List Seat → Type 0
AllProper n [] = Unit {0}
AllProper n (s ∷ ss) = Proper n s × AllProper n ss

-- the seats by station index
unfoldable pub pairs : List Seat → List (ℕ × Figure)
pairs [] = []
pairs (s ∷ ss) = (s.station - 1, s.figure) ∷ pairs ss

-- who is not among the seats is not by its index, and an order that names each once does so by index
not_among : (n : ℕ) (l : List Seat) → AllProper n l → (m : ℕ) → (Among (suc m) l → ⊥) → NotAmong m (pairs l)
unfolding AllProper Among NotAmong pairs
not_among n [] p m f = tt
not_among n (s ∷ ss) p m f =
    ((λ e. f (inl (omega (arith, p.0.positive)))), not_among n ss p.1 m (λ a. f (inr a)))

distinct : (n : ℕ) (l : List Seat) → AllProper n l → Once l → Distinct (pairs l)
unfolding AllProper Once Distinct pairs
distinct n [] p o = tt
distinct n (s ∷ ss) p o =
    let number : suc (s.station - 1) ≡ s.station = omega (arith, p.0.positive) in
    (not_among n ss p.1 (s.station - 1) (rw number o.0), distinct n ss p.1 o.1)

-- where a proposal is taken: the board is not of two stations
module _ (n K fuel : ℕ) (not_two : n ≡ 2 → ⊥) where
  -- the turn on the state that a board stands for
  abbrev on_state : Seat → List ℕ → Ended Figure
  on_state s b = values.turn figures n K fuel (s.station - 1) s.figure (view n K b)

  -- a fresh station's turn on bytes is its turn on the state
  turn_sim : (s : Seat) → Proper n s → (b : List ℕ) → Ready n K b → (view n K b).station (s.station - 1) ≡ idle
      → (k : ℕ) (x : Figure) → (on_state s b).answer ≡ decided k x → Ends n K (on_state s b) (turn fuel s b)
  unfolding turn values.turn
  turn_sim s p b r e =
      let rests = sym (view_station n K b (s.station - 1) p.own) ∙ e in
      let taken = proposes n K s.station p.positive p.own s.figure b r not_two rests in
      rw (← (propose_sim n K s.station s.figure b p.fits r taken).after)
      (until_sim n K s.station p.positive p.own fuel _ (propose_ready n K _ _ b p.fits r))

  -- from any board between two turns the fresh stations of the list decide v
  abbrev Others : Figure → List Seat → Type 0
  Others v l =
      (b : List ℕ) → Ready n K b → Between n v (view n K b).register → AllFresh (view n K b) (pairs l)
      → EachDecides fuel v l b

  -- a turn that decides v, and then the others from the board that it leaves
  one_turn_lem : (v : Figure) (s : Seat) (ss : List Seat) → Proper n s → NotAmong (s.station - 1) (pairs ss)
      → (b : List ℕ) → Ready n K b → (view n K b).station (s.station - 1) ≡ idle → AllFresh (view n K b) (pairs ss)
      → Decides n v (s.station - 1) s.figure (view n K b) (on_state s b) → Others v ss
      → EachDecides fuel v (s ∷ ss) b
  unfolding EachDecides
  one_turn_lem v s ss p apart b r rests fresh q others =
      let z = turn_sim s p b r rests q.island v q.says in
      let later = still_fresh q (pairs ss) apart fresh in
      ((q.island, z.says ∙ q.says), others _ z.ready (rw z.leaves q.between) (rw z.leaves later))

  module _ (two : 2 ≤ K) (enough : 6 * (n + 1) ≤ fuel) where
    all_decide : (v : Figure) (l : List Seat) → AllProper n l → Distinct (pairs l) → Others v l
    unfolding EachDecides AllProper Distinct AllFresh pairs
    all_decide v [] p d b r w f = tt
    all_decide v (s ∷ ss) p d b r w f =
        one_turn_lem v s ss p.0 d.0 b r f.0.rests f.1
        (next_turn figures same_law self_law n K fuel enough two v _ w (s.station - 1) p.0.own f.0 s.figure)
        (all_decide v ss p.1 d.1)

    -- from a fresh board the first station decides its own figure, and every other the same
    pub first_decides : (v : Figure) (s : Seat) (ss : List Seat) (b : List ℕ) → Ready n K b → view n K b ≡ initial
        → s.figure ≡ v → AllProper n (s ∷ ss) → Once (s ∷ ss) → EachDecides fuel v (s ∷ ss) b
    unfolding AllProper Distinct pairs initial
    first_decides v s ss b r e h p o =
        let d = distinct n (s ∷ ss) p o in
        subst (λ (w : Figure). EachDecides fuel w (s ∷ ss) b) h
        (one_turn_lem s.figure s ss p.0 d.0 b r (rw e) (rw e (initial_fresh (pairs ss)))
        (rw e (first_turn figures same_law self_law n K fuel (omega arith) (s.station - 1) p.0.own s.figure))
        (all_decide s.figure ss p.1 d.1))
