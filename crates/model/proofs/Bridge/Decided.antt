-- Decisions in a list of calls from any board that keeps the invariant, whoever has proposed there: they are one figure,
-- and it is the proposal of a station that took a step, in the list if nobody had before it.
-- Relies on the invariant and on what a list leaves on the board; demand 3 and saved boards of two stations rely on it.
use Rattle.model.proofs.Kit.{◌≡◌, sym, ◌∙◌, ⊎_elim, List, ℕ, suc, ◌-◌, ◌<◌}
use Rattle.model.specs.Figure.{Figure}
use Rattle.model.specs.Listing.{Stage, has_decided, active}
use Rattle.model.specs.Layout.{station_of}
use Rattle.model.specs.AnyList.{Call, AllAllowed, Some, Steps, Decides, after}
use Rattle.model.proofs.Listing.Collect.{Filled}
use Rattle.model.proofs.Agreement.StateCalls.{Inv}
use Rattle.model.proofs.Agreement.Decisions as invariant
use Rattle.model.proofs.Bridge.View.{view, view_station}
use Rattle.model.proofs.Bridge.Lists.{Held, held_after}
use Rattle.model.proofs.Bridge.Along.{m_of}
use Rattle.model.proofs.Bridge.History.{steps_of}
use Rattle.model.proofs.Bridge.Events.{decides_end}

-- nobody has taken a step: no register of m is filled
abbrev pub Unstepped : (n K : ℕ) → List ℕ → Type 0
Unstepped n K b = (j : ℕ) → Filled (m_of n K j b) → ⊥

-- whose proposal v is on the board d: its index, and that it took a step
pub record Witness (n K : ℕ) (d : List ℕ) (v : Figure) : Type 0 where
  pub who : ℕ
  pub own : who < n
  pub stage : Stage Figure
  pub proposal : station_of n K who d ≡ active v stage
  pub steps : Filled (m_of n K who d)

module _ (n K : ℕ) (b : List ℕ) (start : Held n K b) (cs : List Call) (a : AllAllowed cs b) where
  abbrev end : List ℕ
  end = after cs b

  abbrev InList : (Call → List ℕ → Type 0) → Type 0
  InList P = Some P cs b

  kept : Inv n (view n K end)
  kept = (held_after n K cs b start a).inv

  -- a decision stands in the state at the end
  decided : (i : ℕ) (v : Figure) → InList (Decides i v)
      → (w : Figure) × (k : ℕ) × ((view n K end).station (i - 1) ≡ active w (has_decided k v))
  decided i v s =
      let d = decides_end n K i v cs b start a s in
      (d.proposal, d.island, view_station n K end (i - 1) d.own ∙ d.stands)

  pub agreement : (i j : ℕ) (v w : Figure) → InList (Decides i v) → InList (Decides j w) → v ≡ w
  agreement i j v w p q = invariant.agreement (i - 1) (j - 1) kept (decided i v p).2 (decided j w q).2

  pub witness : (i : ℕ) (v : Figure) → InList (Decides i v) → Witness n K end v
  unfolding m_of
  witness i v p =
      let (j, s, h, e, f) = invariant.validity (i - 1) kept (decided i v p).2 in
      record { who = j; own = h; stage = s; proposal = sym (view_station n K end j h) ∙ e; steps = f }

  pub stepped_in_list : Unstepped n K b → (j : ℕ) → j < n → Filled (m_of n K j end) → InList (Steps (suc j))
  stepped_in_list nobody j h f = ⊎_elim (λ q. absurd (nobody j q)) (λ q. q) (steps_of n K j h cs b start a f)
