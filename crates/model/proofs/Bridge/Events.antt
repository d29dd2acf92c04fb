-- A station that proposed in a list, took a step or made a decision, at the board that the list leaves.
-- Relies on History and Single; demand 3 and termination rely on it.
use Rattle.model.proofs.Kit.{sym, ap, ◌∙◌, inl, inr, List, [], ◌∷◌, ℕ, ◌-◌, ◌≤◌, ◌<◌}
use Rattle.model.specs.Figure.{Figure, figures}
use Rattle.model.specs.Listing.{turn_m, writing, active, proposed, accepted, outcome, place_array, place_column}
use Rattle.model.specs.AnyList.{Call, called, after, Allowed, AllAllowed, Some, Proposes, Steps, Decides}
use Rattle.model.specs.Claims.{Tells}
use Rattle.model.proofs.Listing.Tells.{Told, move_tells}
use Rattle.model.proofs.Board.Codec.{Fits}
use Rattle.model.proofs.Agreement.State.{proposing, move_of}
use Rattle.model.proofs.Bridge.View.{view}
use Rattle.model.proofs.Bridge.Single.{propose_sim, step_sim}
use Rattle.model.proofs.Bridge.Lists.{Held, Keeps, ready, held_along}
use Rattle.model.proofs.Bridge.Along.{own_put, stands_now, fills_now}
use Rattle.model.proofs.Bridge.History.{Ended, Stands, Begun, decided_after, active_after, filled_after}

-- what an accepted proposal of station number i leaves behind
pub record Proposed (n K i : ℕ) (v : Figure) (d : List ℕ) : Type 0 where
  pub positive : 1 ≤ i
  pub own : i - 1 < n
  pub stands : Stands n K (i - 1) own v d

-- and an accepted step
pub record Stepped (n K i : ℕ) (d : List ℕ) : Type 0 where
  pub positive : 1 ≤ i
  pub own : i - 1 < n
  pub proposal : Figure
  pub stands : Stands n K (i - 1) own proposal d
  pub filled : Begun n K (i - 1) own d

pub record Decided (n K i : ℕ) (v : Figure) (d : List ℕ) : Type 0 where
  pub own : i - 1 < n
  pub proposal : Figure
  pub island : ℕ
  pub stands : Ended n K (i - 1) own proposal island v d

module _ (n K : ℕ) where
  proposed_now : (i : ℕ) (v : Figure) (c : Call) (b : List ℕ) → Held n K b → Allowed c b → Proposes i v c b
      → Proposed n K i v (called c b)
  unfolding Proposes called proposed proposing Fits Allowed
  proposed_now i v c b h a q =
      let fits : Fits v = rw q.0 at a in
      let s = propose_sim n K i v b fits (ready n K b h) q.1 in
      rw q.0 (record {
        positive = s.positive;
        own = s.own;
        stands = (writing turn_m 0 v, own_put n K b _ (i - 1) _ _ s.after s.own);
      })

  stepped_now : (i : ℕ) (c : Call) (b : List ℕ) → Held n K b → Allowed c b → Steps i c b → Stepped n K i (called c b)
  unfolding Steps called
  stepped_now i c b h a q =
      let s = step_sim n K i b (ready n K b h) q.1 in
      rw q.0 (record {
        positive = s.positive;
        own = s.own;
        proposal = s.proposal;
        stands = ((move_of figures n K (i - 1) s.stage (view n K b)).stage, stands_now n K b h i s);
        filled = fills_now n K b h i s;
      })

  -- a decision is what the last answer told
  decided_now : (i : ℕ) (v : Figure) (c : Call) (b : List ℕ) → Held n K b → Allowed c b → Decides i v c b
      → Decided n K i v (called c b)
  unfolding Decides called accepted Told Tells move_of outcome
  decided_now i v c b h a q =
      let s = step_sim n K i b (ready n K b h) (ap accepted q.1.1) in
      let register = (view n K b).register (place_array s.stage) (place_column (i - 1) s.stage) in
      let told = move_tells K figures n s.stage register in
      rw q.0 (record {
        own = s.own;
        proposal = s.proposal;
        island = q.1.0;
        stands = stands_now n K b h i s ∙ ap (active s.proposal) (rw (sym s.says ∙ q.1.1) at told);
      })

  -- what a call of the list brings, and later calls keep, holds at the end
  at_end : (Q : Call → List ℕ → Type 0) (R : List ℕ → Type 0)
      → ((c : Call) (b : List ℕ) → Held n K b → Allowed c b → Q c b → R (called c b)) → Keeps n K R
      → (cs : List Call) (b : List ℕ) → Held n K b → AllAllowed cs b → Some Q cs b → R (after cs b)
  unfolding Some after AllAllowed
  at_end Q R now on [] b h a s = absurd s
  at_end Q R now on (c ∷ cs) b h a (inl s) =
      on cs (called c b) (held_along n K c b h a.0) a.1 (now c b h a.0 s)
  at_end Q R now on (c ∷ cs) b h a (inr s) = at_end Q R now on cs (called c b) (held_along n K c b h a.0) a.1 s

  pub proposes_end : (i : ℕ) (v : Figure) (cs : List Call) (b : List ℕ) → Held n K b → AllAllowed cs b
      → Some (Proposes i v) cs b → Proposed n K i v (after cs b)
  proposes_end i v = at_end (Proposes i v) (Proposed n K i v) (proposed_now i v) (λ cs b h a s. record {
    positive = s.positive;
    own = s.own;
    stands = active_after n K (i - 1) s.own v cs b h a s.stands;
  })

  pub steps_end : (i : ℕ) (cs : List Call) (b : List ℕ) → Held n K b → AllAllowed cs b → Some (Steps i) cs b
      → Stepped n K i (after cs b)
  steps_end i = at_end (Steps i) (Stepped n K i) (stepped_now i) (λ cs b h a s. record {
    positive = s.positive;
    own = s.own;
    proposal = s.proposal;
    stands = active_after n K (i - 1) s.own s.proposal cs b h a s.stands;
    filled = filled_after n K (i - 1) s.own cs b h a s.filled;
  })

  pub decides_end : (i : ℕ) (v : Figure) (cs : List Call) (b : List ℕ) → Held n K b → AllAllowed cs b
      → Some (Decides i v) cs b → Decided n K i v (after cs b)
  decides_end i v = at_end (Decides i v) (Decided n K i v) (decided_now i v) (λ cs b h a d. record {
    own = d.own;
    proposal = d.proposal;
    island = d.island;
    stands = decided_after n K (i - 1) d.own d.proposal d.island v cs b h a d.stands;
  })
