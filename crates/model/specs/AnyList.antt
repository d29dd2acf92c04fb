-- Demand 3 as 01 words it under "Any list of calls", about the calls on bytes.
-- Relies on the calls alone; proofs/Demand3.antt proves `Demand3` for every list.
use Rattle.std.specs.Prelude.{Bool, true, false, List, [], ◌∷◌, ℕ, zero, suc, ◌+◌, ◌*◌, ◌≤◌, ◌⊎◌, ◌≡◌}
use Rattle.std.proofs.Math.Option.{none, some}
use Rattle.std.specs.Int.{w32}
use Rattle.std.proofs.Common.{SFits}
use Rattle.model.specs.Figure.{Figure}
use Rattle.model.specs.Layout.{fresh_board}
use Rattle.model.specs.Listing.{Answer, decided, goes_on, comes_to_end, is_refused, outcome}
use Rattle.model.specs.Listing.{accepted}
use Rattle.model.specs.Filled.{Report, refusal}
use Rattle.model.specs.Calls.{After, lay, propose, step}

-- "It holds proposals and single steps, with any station numbers and figures .. refused ones, and refused layings, may
-- stand anywhere."
pub data Call : Type 0 where
  laying : (n K : ℕ) → Call
  proposing : (i : ℕ) → Figure → Call
  stepping : (i : ℕ) → Call

-- "Each call is lent the board exactly as the call before left it"
unfoldable pub called : Call → List ℕ → List ℕ
called (laying n K) b = (lay n K b).bytes
called (proposing i v) b = (propose i v b).bytes
called (stepping i) b = (step i b).bytes

-- the board that a list of calls leaves
unfoldable pub after : List Call → List ℕ → List ℕ
after [] b = b
after (c ∷ cs) b = after cs (called c b)

-- A figure is a 32-bit one, and a laying in the list is a refused one.
unfoldable pub Allowed : Call → List ℕ → Type 0
Allowed (laying n K) b = (k : ℕ) × ((lay n K b).answer ≡ some k)
Allowed (proposing i v) b = SFits w32 v
Allowed (stepping i) b = Unit {0}

unfoldable pub AllAllowed : List Call → List ℕ → Type 0
AllAllowed [] b = Unit {0}
AllAllowed (c ∷ cs) b = Allowed c b × AllAllowed cs (called c b)

-- Some call of the list is as asked, on the board that it is lent.
unfoldable pub Some : (Call → List ℕ → Type 0) → List Call → List ℕ → Type 0
Some P [] b = ⊥
Some P (c ∷ cs) b = P c b ⊎ Some P cs (called c b)

-- "By the calls of the list, a station *proposed* v if its proposal of v was accepted, *took a step* if a step of it
-- was accepted, and *made a decision* for v if a step of it answered *decided* (c, v), on whatever island."
module _ (i : ℕ) where
  unfoldable pub Proposes : Figure → Call → List ℕ → Type 0
  Proposes v c b = (c ≡ proposing i v) × ((propose i v b).answer ≡ none)

  unfoldable pub Steps : Call → List ℕ → Type 0
  Steps c b = (c ≡ stepping i) × (accepted (step i b).answer.did ≡ true)

  unfoldable pub Decides : Figure → Call → List ℕ → Type 0
  Decides v c b = (c ≡ stepping i) × ((k : ℕ) × ((step i b).answer.did ≡ decided k v))

-- the answers after which a station is stepped no more
unfoldable pub ends : {F : Type 0} → Answer F → Bool
ends a = elim (outcome a) [ goes_on ↦ false | comes_to_end ↦ true | is_refused ↦ true ]

-- "the station is stepped until a step of it answers *decided* or *spent*". The fuel bounds the steps; `Demand3` asks
-- for every fuel from 6(n + 1) on, so that it never runs out.
unfoldable pub until : (fuel i : ℕ) → List ℕ → After (Report Figure)
until zero i b = record { answer = refusal 0; bytes = b }
until (suc fuel) i b = elim (ends (step i b).answer.did) [ true ↦ step i b | false ↦ until fuel i (step i b).bytes ]

-- An order names stations, each with the figure it proposed in the list.
pub record Seat : Type 0 where
  pub station : ℕ
  pub figure : Figure

-- "For each station in turn, the figure it proposed in the list is proposed and the station is stepped until ..; then
-- the next begins."
unfoldable pub turn : (fuel : ℕ) → Seat → List ℕ → After (Report Figure)
turn fuel s b = until fuel s.station (propose s.station s.figure b).bytes

-- every station that the order names answers *decided* with v
unfoldable pub EachDecides : (fuel : ℕ) (v : Figure) → List Seat → List ℕ → Type 0
EachDecides fuel v [] b = Unit {0}
EachDecides fuel v (s ∷ ss) b =
    ((k : ℕ) × ((turn fuel s b).answer.did ≡ decided k v)) × EachDecides fuel v ss (turn fuel s b).bytes

unfoldable pub Among : ℕ → List Seat → Type 0
Among i [] = ⊥
Among i (s ∷ ss) = (i ≡ s.station) ⊎ Among i ss

unfoldable pub Once : List Seat → Type 0
Once [] = Unit {0}
Once (s ∷ ss) = (Among s.station ss → ⊥) × Once ss

unfoldable pub AsProposed : List Call → List ℕ → List Seat → Type 0
AsProposed cs b [] = Unit {0}
AsProposed cs b (s ∷ ss) = Some (Proposes s.station s.figure) cs b × AsProposed cs b ss

-- "The order that demand 3 asks for names each station that took a step once, and no other. Its run starts from a fresh
-- board of the same n and K."
pub record Ordered (n K : ℕ) (b : List ℕ) (cs : List Call) (v : Figure) : Type 0 where
  pub order : List Seat
  pub each : (i : ℕ) → Some (Steps i) cs b → Among i order
  pub no_other : (i : ℕ) → Among i order → Some (Steps i) cs b
  pub once : Once order
  pub figures : AsProposed cs b order
  pub decides : (fuel : ℕ) → 6 * (n + 1) ≤ fuel → EachDecides fuel v order (fresh_board n K)

-- "Demand 3 is one claim on the list as a whole": one decided figure, proposed by a station that took a step, and "with
-- a decision for v in the list, some such order has every station that it names answer *decided* with v".
pub record Demand3 (n K : ℕ) (b : List ℕ) (cs : List Call) : Type 0 where
  pub agreement : (i j : ℕ) (v w : Figure) → Some (Decides i v) cs b → Some (Decides j w) cs b → v ≡ w
  pub validity : (i : ℕ) (v : Figure) → Some (Decides i v) cs b
      → (j : ℕ) × Some (Proposes j v) cs b × Some (Steps j) cs b
  pub sequential : (i : ℕ) (v : Figure) → Some (Decides i v) cs b → Ordered n K b cs v

-- "The list starts from the board as an accepted laying of n and K leaves it", whatever was lent to it.
unfoldable pub AnyList : Type 0
AnyList =
    (n K : ℕ) (lent : List ℕ) → (lay n K lent).answer ≡ none → (cs : List Call) → AllAllowed cs (lay n K lent).bytes
    → Demand3 n K (lay n K lent).bytes cs
