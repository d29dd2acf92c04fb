-- What 01 says of every call beside its equation: a refusal changes nothing, soundness is kept, a step is local and its
-- answer tells where the station stands.
-- Relies on the calls; proofs/Calls/Claims.antt proves each claim.
use Rattle.std.specs.Prelude.{false, List, [], ◌∷◌, ℕ, ◌-◌, ◌≡◌, ◌<◌}
use Rattle.std.proofs.Math.Option.{none, some}
use Rattle.std.specs.Int.{w32}
use Rattle.std.proofs.Common.{SFits}
use Rattle.model.specs.Bytes.{splice}
use Rattle.model.specs.Figure.{Figure, figures}
use Rattle.model.specs.Listing.{Flag, flag_number, Turn, turn_m, turn_a, turn_b, Seen, nothing, Register, empty}
use Rattle.model.specs.Listing.{Stage, writing, reading, has_decided, is_spent, Station, idle, active}
use Rattle.model.specs.Listing.{Answer, wrote, read, went, marked, adopted, decided, spent, refused, accepted}
use Rattle.model.specs.Listing.{place_array, place_column, move}
use Rattle.model.specs.Filled.{Report}
use Rattle.model.specs.Layout.{register_of, record_of, station_of}
use Rattle.model.specs.Calls.{After, not_run, stations, islands, board_refusal, lay, propose, step, run}
use Rattle.model.specs.Rounds.{not_played, rounds}
use Rattle.model.specs.Proposals.{Proposal, AllFit, propose_all}

-- ---- "A refusal answers its number only and changes no byte."

pub record Unaltered : Type 0 where
  pub laying : (n K : ℕ) (b : List ℕ) (k : ℕ) → (lay n K b).answer ≡ some k → (lay n K b).bytes ≡ b
  pub proposing : (i : ℕ) (v : Figure) (b : List ℕ) (k : ℕ) → (propose i v b).answer ≡ some k → (propose i v b).bytes ≡ b
  pub stepping : (i : ℕ) (b : List ℕ) → accepted (step i b).answer.did ≡ false → (step i b).bytes ≡ b
  pub running : (is b : List ℕ) (k : ℕ) → (run is b).answer ≡ not_run k → (run is b).bytes ≡ b
  pub playing : (k : ℕ) (rs : List (List ℕ)) (b : List ℕ) (number : ℕ) → (rounds k rs b).answer ≡ not_played number
      → (rounds k rs b).bytes ≡ b
  -- 02: "All are accepted or none"
  pub together : (ps : List Proposal) (b : List ℕ) (k : ℕ) → (propose_all ps b).answer ≡ some k
      → (propose_all ps b).bytes ≡ b

-- ---- "A board that keeps all this is *sound*; accepted calls keep it so."

-- refusals 7 to 11 are passed: the length fits the head, and the board is sound
unfoldable pub Passes : List ℕ → Type 0
Passes b = board_refusal b none ≡ none

-- a refused call leaves the board, so that these speak of every call
pub record KeepSound : Type 0 where
  pub laying : (n K : ℕ) (b : List ℕ) → (lay n K b).answer ≡ none → Passes (lay n K b).bytes
  pub proposing : (i : ℕ) (v : Figure) → SFits w32 v → (b : List ℕ) → Passes b → Passes (propose i v b).bytes
  pub stepping : (i : ℕ) (b : List ℕ) → Passes b → Passes (step i b).bytes
  pub running : (is b : List ℕ) → Passes b → Passes (run is b).bytes
  pub playing : (k : ℕ) (rs : List (List ℕ)) (b : List ℕ) → Passes b → Passes (rounds k rs b).bytes
  pub together : (ps : List Proposal) → AllFit ps → (b : List ℕ) → Passes b → Passes (propose_all ps b).bytes

-- ---- "on a sound board, reached from a fresh one or not, its answer and the bytes it alters follow from n, K, the
-- station's own record .. and, where it reads, that one register"

-- the bytes put in at an offset
pub record Change : Type 0 where
  pub offset : ℕ
  pub content : List ℕ

unfoldable pub change : List Change → List ℕ → List ℕ
change [] b = b
change (c ∷ cs) b = change cs (splice c.offset c.content b)

-- what a step does to whatever board it is lent: its answer, and its changes in order
pub record Effect : Type 0 where
  pub answer : Report Figure
  pub changes : List Change

unfoldable pub apply : Effect → List ℕ → After (Report Figure)
apply e b = record { answer = e.answer; bytes = change e.changes b }

-- the register at the place that a station's next step touches; i is its index from 0
unfoldable pub touched : (n i : ℕ) → Station Figure → List ℕ → Register Figure
touched n i idle b = empty
touched n i (active v s) b = register_of n (place_array s) (place_column i s) b

-- a station whose next step reads
unfoldable pub ReadsNext : Station Figure → Type 0
ReadsNext idle = ⊥
ReadsNext (active v (writing t c x)) = ⊥
ReadsNext (active v (reading t c x p a)) = Unit {0}
ReadsNext (active v (has_decided c x)) = ⊥
ReadsNext (active v (is_spent c x)) = ⊥

-- Two sound boards of one n and K that agree on the station's record and, where it reads, on the one register: one and
-- the same effect is what the step does to both.
unfoldable pub Local : Type 0
Local =
    (n K i : ℕ) (b d : List ℕ) → Passes b → Passes d → stations b ≡ n → stations d ≡ n → islands b ≡ K → islands d ≡ K
    → record_of n K (i - 1) b ≡ record_of n K (i - 1) d
    → (ReadsNext (station_of n K (i - 1) b)
    → touched n (i - 1) (station_of n K (i - 1) b) b ≡ touched n (i - 1) (station_of n K (i - 1) b) d)
    → (e : Effect) × (step i b ≡ apply e b) × (step i d ≡ apply e d)

-- "touches no other station's record"; j is an index from 0
unfoldable pub OthersStay : Type 0
OthersStay =
    (i : ℕ) (b : List ℕ) → Passes b → (j : ℕ) → j < stations b → (i - 1 ≡ j → ⊥)
    → record_of (stations b) (islands b) j (step i b).bytes ≡ record_of (stations b) (islands b) j b

-- ---- "It answers with its kind and fields": the answer tells where the station stands after the step

unfoldable pub Tells : {F : Type 0} → Answer F → Stage F → Type 0
Tells wrote s = (t : Turn) × (c : ℕ) × (x : _) × (s ≡ reading t c x 0 nothing)
Tells read s = (t : Turn) × (c : ℕ) × (x : _) × (p : ℕ) × (a : Seen _) × (s ≡ reading t c x p a)
Tells (went c x) s = s ≡ writing turn_a c x
Tells (marked k x) s = (f : Flag) × (k ≡ flag_number f) × (c : ℕ) × (s ≡ writing (turn_b f) c x)
Tells (adopted c x) s = s ≡ writing turn_m c x
Tells (decided c x) s = s ≡ has_decided c x
Tells (spent c x) s = s ≡ is_spent c x
Tells (refused k) s = Unit {0}

unfoldable pub AnswersTell : Type 0
AnswersTell =
    (n K : ℕ) (s : Stage Figure) (r : Register Figure)
    → Tells (move figures n K s r).answer (move figures n K s r).stage
