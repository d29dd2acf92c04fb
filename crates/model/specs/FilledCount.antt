-- Five of 02 on lists of calls: what a collect has met, and what the total of its last read tells.
-- Relies on the calls and on the lists of demand 3; proofs/Bridge/FilledCount.antt proves `FilledCount`.
use Rattle.std.specs.Prelude.{Bool, true, false, cond, List, [], ◌∷◌, ℕ, ◌+◌, ◌-◌, ◌≤◌, eqb, length, ◌≡◌}
use Rattle.std.proofs.Math.Option.{none}
use Rattle.model.specs.Figure.{Figure}
use Rattle.model.specs.Listing.{Register, Answer, wrote, read, went, marked, adopted, decided, spent, refused}
use Rattle.model.specs.Filled.{filled_in}
use Rattle.model.specs.Calls.{stations, station_at, met_so_far, lay, step}
use Rattle.model.specs.Claims.{Passes, touched}
use Rattle.model.specs.AnyList.{Call, laying, proposing, stepping, called, after, AllAllowed}

-- the register that the next step of station number i touches
unfoldable pub next_of : (i : ℕ) → List ℕ → Register Figure
next_of i b = touched (stations b) (i - 1) (station_at i b) b

-- What "that collect" has met, the latest first: rs before a step of its station, which touched the register r and
-- answered so. A *read* met r; every other step that is taken begins a collect or ends one.
unfoldable pub met_on : Answer Figure → Register Figure → List (Register Figure) → List (Register Figure)
met_on wrote r rs = []
met_on read r rs = r ∷ rs
met_on (went c x) r rs = []
met_on (marked f x) r rs = []
met_on (adopted c x) r rs = []
met_on (decided c x) r rs = []
met_on (spent c x) r rs = []
met_on (refused k) r rs = rs

-- the same by a call on the board b; a call that is no step of station number i changes nothing
unfoldable pub met_by : (i : ℕ) → Call → List ℕ → List (Register Figure) → List (Register Figure)
met_by i (laying n K) b rs = rs
met_by i (proposing j v) b rs = rs
met_by i (stepping j) b rs = cond (eqb i j) (met_on (step j b).answer.did (next_of i b) rs) rs

-- and by the calls of a list, each lent the board as the call before left it
unfoldable pub met_in : (i : ℕ) → List Call → List ℕ → List (Register Figure) → List (Register Figure)
met_in i [] b rs = rs
met_in i (c ∷ cs) b rs = met_in i cs (called c b) (met_by i c b rs)

-- "how many registers of that collect were filled"
unfoldable pub filled_among : List (Register Figure) → ℕ
filled_among [] = 0
filled_among (r ∷ rs) = filled_in r + filled_among rs

-- the answers that "carry the total"
unfoldable pub ends_collect : Answer Figure → Bool
ends_collect wrote = false
ends_collect read = false
ends_collect (went c x) = true
ends_collect (marked f x) = true
ends_collect (adopted c x) = true
ends_collect (decided c x) = true
ends_collect (spent c x) = true
ends_collect (refused k) = false

-- A step of station number i on the board b ends the collect that has met rs: its total counts all n registers, the one
-- that this last read meets included, and one of them at least is filled, the station's own.
pub record Total (i : ℕ) (b : List ℕ) (rs : List (Register Figure)) : Type 0 where
  pub whole : length (next_of i b ∷ rs) ≡ stations b
  pub counted : (step i b).answer.met ≡ filled_among (next_of i b ∷ rs)
  pub least : 1 ≤ (step i b).answer.met
  pub most : (step i b).answer.met ≤ stations b

-- byte 6 counts what the present collect has met, and its end will tell the total
pub record Counted (i : ℕ) (b : List ℕ) (rs : List (Register Figure)) : Type 0 where
  pub so_far : met_so_far i b ≡ filled_among rs
  pub at_end : ends_collect (step i b).answer.did ≡ true → Total i b rs

pub record FilledCount : Type 0 where
  -- "A *read* answer reports whether it met a filled one", whatever board it is lent
  pub reads : (i : ℕ) (b : List ℕ) → (step i b).answer.did ≡ read → (step i b).answer.met ≡ filled_in (next_of i b)
  -- on every board reached from a fresh one
  pub laid : (n K : ℕ) (lent : List ℕ) → (lay n K lent).answer ≡ none → (i : ℕ) → 1 ≤ i → i ≤ n
      → (cs : List Call) → AllAllowed cs (lay n K lent).bytes
      → Counted i (after cs (lay n K lent).bytes) (met_in i cs (lay n K lent).bytes [])
  -- and on any sound board from the station's next write on
  pub written : (b : List ℕ) → Passes b → (i : ℕ) → (step i b).answer.did ≡ wrote
      → (cs : List Call) → AllAllowed cs (step i b).bytes
      → Counted i (after cs (step i b).bytes) (met_in i cs (step i b).bytes [])
  -- A board that was never reached may have met less than it says it has seen, so that a total there has no least
  -- value; but it never exceeds n, and it is one more than byte 6 says, or as much.
  pub bounded : (b : List ℕ) → Passes b → (i : ℕ) → ends_collect (step i b).answer.did ≡ true
      → ((step i b).answer.met ≡ met_so_far i b + filled_in (next_of i b)) × ((step i b).answer.met ≤ stations b)
