-- Lists of calls: an invariant that proposals and moves keep holds after any list, and what the list's answers say of a
-- station can be read off the board that it leaves.
-- Relies on Single and the invariant; demand 3 and termination rely on it.
use Rattle.model.proofs.Kit.{◌≡◌, refl, ◌∙◌, inl, inr, ⊎_elim, List, [], ◌∷◌, ℕ, ◌-◌}
use Rattle.model.specs.Figure.{Figure, figures}
use Rattle.model.specs.Listing.{accepted}
use Rattle.model.specs.Calls.{stations, islands, propose, step}
use Rattle.model.specs.AnyList.{Call, laying, proposing, stepping, called, after, Allowed, AllAllowed, Proposes}
use Rattle.model.specs.AnyList.{Steps, Some}
use Rattle.model.proofs.Basics.Numbers.{same_law}
use Rattle.model.proofs.Basics.Tests.{by_test}
use Rattle.model.proofs.Board.Codec.{Fits}
use Rattle.model.proofs.Calls.Refusals.{Board, refusal_case}
use Rattle.model.proofs.Calls.Refused.{lay_refused, propose_refused, step_refused}
use Rattle.model.proofs.Agreement.Cells.{Cell, cells}
use Rattle.model.proofs.Agreement.Inductive.{Inductive, propose_keeps, move_keeps}
use Rattle.model.proofs.Agreement.StateCalls.{Inv, inductive}
use Rattle.model.proofs.Bridge.View.{view, view_station}
use Rattle.model.proofs.Bridge.Single.{Ready, step_ready, propose_ready, ProposeSim, propose_sim, StepSim}
use Rattle.model.proofs.Bridge.Single.{step_sim}

-- what the whole argument carries along a list: a sound board of n and K whose state keeps the invariant
pub record Held (n K : ℕ) (b : List ℕ) : Type 0 where
  pub board : Board b
  pub is_n : stations b ≡ n
  pub is_k : islands b ≡ K
  pub inv : Inv n (view n K b)

pub ready : (n K : ℕ) (b : List ℕ) → Held n K b → Ready n K b
ready n K b h = record { board = h.board; is_n = h.is_n; is_k = h.is_k }

-- One allowed call, told apart by its answer: the bytes stay, the state takes a proposal, or it takes a move.
pub data Change (n K : ℕ) (c : Call) (b : List ℕ) : Type 0 where
  same : called c b ≡ b → Change n K c b
  takes : (i : ℕ) (v : Figure) → Proposes i v c b → ProposeSim n K i v b (called c b) → Change n K c b
  moves : (i : ℕ) → Steps i c b → StepSim n K i b (step i b) → called c b ≡ (step i b).bytes → Change n K c b

pub changed : (n K : ℕ) (c : Call) (b : List ℕ) → Ready n K b → Allowed c b → Change n K c b
unfolding called Allowed Fits Proposes Steps
changed n K (laying m L) b r a = same (lay_refused m L b a.0 a.1)
changed n K (proposing i v) b r a =
    ⊎_elim (λ e. takes i v (refl, e) (propose_sim n K i v b a r e))
    (λ e. same (propose_refused i v b e.0 e.1)) (refusal_case (propose i v b).answer)
changed n K (stepping i) b r a =
    by_test (accepted (step i b).answer.did) (λ e. moves i (refl, e) (step_sim n K i b r e) refl)
    (λ e. same (step_refused i b e))

pub ready_along : (n K : ℕ) (c : Call) (b : List ℕ) → Ready n K b → Allowed c b → Ready n K (called c b)
unfolding called Allowed Fits
ready_along n K (laying m L) b r a = rw (lay_refused m L b a.0 a.1) r
ready_along n K (proposing i v) b r a = propose_ready n K i v b a r
ready_along n K (stepping i) b r a = step_ready n K i b r

-- an invariant along calls whose accepted proposals are of figures with Q
module _ {Q : Figure → Type 0} {P : (ℕ → Cell Figure) → Type 0} (n K : ℕ) (k : Inductive figures n K Q P) where
  pub along_call : (c : Call) (b : List ℕ) → Change n K c b → ((i : ℕ) (v : Figure) → Proposes i v c b → Q v)
      → P (cells (view n K b)) → P (cells (view n K (called c b)))
  along_call c b (same e) q h = rw e h
  along_call c b (takes i v p s) q h =
      let stands = view_station n K b (i - 1) s.own ∙ s.rests in
      rw s.after (propose_keeps k (view n K b) (i - 1) v s.own stands (q i v p) h)
  along_call c b (moves i p s eb) q h =
      let stands = view_station n K b (i - 1) s.own ∙ s.stands in
      rw (eb, s.after) (move_keeps k (view n K b) (i - 1) s.own stands s.goes h)

  pub along_list : (cs : List Call) (b : List ℕ) → Ready n K b → AllAllowed cs b
      → ((i : ℕ) (v : Figure) → Some (Proposes i v) cs b → Q v) → P (cells (view n K b))
      → P (cells (view n K (after cs b)))
  unfolding after AllAllowed Some
  along_list [] b r a q h = h
  along_list (c ∷ cs) b r a q h =
      along_list cs (called c b) (ready_along n K c b r a.0) a.1 (λ i v p. q i v (inr p))
      (along_call c b (changed n K c b r a.0) (λ i v p. q i v (inl p)) h)

pub held_along : (n K : ℕ) (c : Call) (b : List ℕ) → Held n K b → Allowed c b → Held n K (called c b)
held_along n K c b h a =
    let r = ready_along n K c b (ready n K b h) a in
    let change = changed n K c b (ready n K b h) a in
    record {
      board = r.board;
      is_n = r.is_n;
      is_k = r.is_k;
      inv = record {
        clauses = along_call n K (inductive figures same_law n K) c b change (λ i v p. tt) h.inv.clauses;
      };
    }

-- a list of allowed calls keeps P
abbrev pub Keeps : (n K : ℕ) → (List ℕ → Type 0) → Type 0
Keeps n K P = (cs : List Call) (b : List ℕ) → Held n K b → AllAllowed cs b → P b → P (after cs b)

pub held_after : (n K : ℕ) (cs : List Call) (b : List ℕ) → Held n K b → AllAllowed cs b → Held n K (after cs b)
unfolding after AllAllowed
held_after n K [] b h a = h
held_after n K (c ∷ cs) b h a = held_after n K cs (called c b) (held_along n K c b h a.0) a.1
