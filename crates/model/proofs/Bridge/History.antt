-- What a list's answers say of a station, read off the board that the list leaves, and back.
-- Relies on Along; demand 3 relies on it.
use Rattle.model.proofs.Kit.{◌≡◌, sym, ◌∙◌, inl, inr, ⊎_elim, ◌⊎◌, List, [], ◌∷◌, ℕ, suc, ◌<◌}
use Rattle.model.specs.Figure.{Figure}
use Rattle.model.specs.Listing.{Stage, has_decided, Station, idle, active, proposed}
use Rattle.model.specs.Layout.{station_of}
use Rattle.model.specs.AnyList.{Call, called, after, Allowed, AllAllowed, Some, Proposes, Steps}
use Rattle.model.proofs.Basics.Tests.{impossible}
use Rattle.model.proofs.Listing.Collect.{Filled}
use Rattle.model.proofs.Bridge.Lists.{Held, Keeps, ready, changed, held_along}
use Rattle.model.proofs.Bridge.Along.{m_of, Along, stays, starts, goes, along}

pub absurd_idle : {X : Type 0} {v : Figure} {s : Stage Figure} {z : Station Figure} → z ≡ idle → z ≡ active v s → X
absurd_idle p q = impossible (cc)

pub same_proposal : {v w : Figure} {s t : Stage Figure} {z : Station Figure} → z ≡ active v s → z ≡ active w t → v ≡ w
same_proposal p q = cc

pub same_stage : {v w : Figure} {s t : Stage Figure} {z : Station Figure} → z ≡ active v s → z ≡ active w t → s ≡ t
same_stage p q = cc

module _ (n K j : ℕ) (own : j < n) where
  here : (c : Call) (b : List ℕ) → Held n K b → Allowed c b → Along n K c b j
  here c b h a = along n K c b h (changed n K c b (ready n K b h) a) j own

  -- what every call keeps, a list keeps
  kept : (P : List ℕ → Type 0) → ((c : Call) (b : List ℕ) → Along n K c b j → P b → P (called c b)) → Keeps n K P
  unfolding after AllAllowed
  kept P f [] b h a p = p
  kept P f (c ∷ cs) b h a p =
      kept P f cs (called c b) (held_along n K c b h a.0) a.1 (f c b (here c b h a.0) p)

  -- what holds after a list held before it, unless some call brought it
  traced : (P : List ℕ → Type 0) (Q : Call → List ℕ → Type 0)
      → ((c : Call) (b : List ℕ) → Along n K c b j → P (called c b) → P b ⊎ Q c b)
      → (cs : List Call) (b : List ℕ) → Held n K b → AllAllowed cs b → P (after cs b) → P b ⊎ Some Q cs b
  unfolding after AllAllowed Some
  traced P Q f [] b h a p = inl p
  traced P Q f (c ∷ cs) b h a p =
      ⊎_elim (λ q. ⊎_elim inl (λ r. inr (inl r)) (f c b (here c b h a.0) q)) (λ q. inr (inr q))
      (traced P Q f cs (called c b) (held_along n K c b h a.0) a.1 p)

  -- the station stands with proposal w and has decided v on island k
  abbrev pub Ended : Figure → ℕ → Figure → List ℕ → Type 0
  Ended w k v b = station_of n K j b ≡ active w (has_decided k v)

  pub decided_after : (w : Figure) (k : ℕ) (v : Figure) → Keeps n K (Ended w k v)
  decided_after w k v = kept (Ended w k v) (λ c b. elim [
    | stays e m ↦ λ d. e ∙ d
    | starts u p i e m ↦ λ d. absurd_idle i d
    | goes u s t p a g e f ↦ λ d. absurd (rw (same_stage a d) at g)
  ])

  -- the station stands with proposal v
  abbrev pub Stands : Figure → List ℕ → Type 0
  Stands v b = (s : Stage Figure) × (station_of n K j b ≡ active v s)

  pub active_after : (v : Figure) → Keeps n K (Stands v)
  active_after v = kept (Stands v) (λ c b. elim [
    | stays e m ↦ λ d. (d.0, e ∙ d.1)
    | starts u p i e m ↦ λ d. absurd_idle i d.1
    | goes u s t p a g e f ↦ λ d. (t, rw (← same_proposal a d.1) e)
  ])

  pub proposal_of : (v : Figure) (cs : List Call) (b : List ℕ) → Held n K b → AllAllowed cs b → Stands v (after cs b)
      → Stands v b ⊎ Some (Proposes (suc j) v) cs b
  proposal_of v = traced (Stands v) (Proposes (suc j) v) (λ c b. elim [
    | stays e m ↦ λ d. inl (d.0, sym e ∙ d.1)
    | starts u p i e m ↦ λ d. inr (unfold proposed in (rw (same_proposal e d.1) at p))
    | goes u s t p a g e f ↦ λ d. inl (s, rw (← same_proposal e d.1) a)
  ])

  -- its register of m is filled
  abbrev pub Begun : List ℕ → Type 0
  Begun b = Filled (m_of n K j b)

  pub steps_of : (cs : List Call) (b : List ℕ) → Held n K b → AllAllowed cs b → Begun (after cs b)
      → Begun b ⊎ Some (Steps (suc j)) cs b
  steps_of = traced Begun (Steps (suc j)) (λ c b. elim [
    | stays e m ↦ λ d. inl (rw m at d)
    | starts u p i e m ↦ λ d. inl (rw m at d)
    | goes u s t p a g e f ↦ λ d. inr p
  ])

  pub filled_after : Keeps n K Begun
  filled_after = kept Begun (λ c b. elim [
    | stays e m ↦ λ d. rw m d
    | starts u p i e m ↦ λ d. rw m d
    | goes u s t p a g e f ↦ λ d. f
  ])
