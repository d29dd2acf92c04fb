-- Lines 6 to 14 and 26 to 30 as source 001 prints them, on the values that the n reads of a collect met, and the claim
-- that n single reads end exactly as these lines say. A reader can hold this page beside the paper's.
-- Relies on the listing; proofs/Listing/Page.antt proves `Collects` and `Leave` for every order of figures.
use Rattle.std.specs.Prelude.{Bool, true, false, List, [], ◌∷◌, ◌++◌, ℕ, ◌+◌, length, ◌≡◌, ◌⊎◌, map}
use Rattle.std.proofs.Math.Option.{Option, none, some}
use Rattle.model.specs.Listing.{Order, Flag, adopt, commit, flag_number, Register, empty, filled, Turn, turn_m}
use Rattle.model.specs.Listing.{turn_a, turn_b, nothing}
use Rattle.model.specs.Listing.{Stage, writing, reading, has_decided, Move, stay, onward, pair_above, move, read}
use Rattle.model.specs.Listing.{went, marked, decided}

-- ---- sets of values, as lists in the order in which they were read

infix 4 ◌∈◌
unfoldable pub ◌∈◌ : {A : Type 0} → A → List A → Type 0
a ∈ [] = ⊥
a ∈ (b ∷ S) = (a ≡ b) ⊎ (a ∈ S)

-- S = {v}
pub record Only {A : Type 0} (S : List A) (v : A) : Type 0 where
  pub among : v ∈ S
  pub no_other : (w : A) → w ∈ S → w ≡ v

-- v = max(S)
pub record Max {A : Type 0} (above : A → A → Bool) (S : List A) (v : A) : Type 0 where
  pub among : v ∈ S
  pub none_above : (w : A) → w ∈ S → above w v ≡ false

module _ {F : Type 0} where
  -- S \ {⊥}: what the filled registers held, of those that were read
  unfoldable pub without⊥ : {A : Type 0} → (Flag → ℕ → F → A) → List (Register F) → List A
  without⊥ held [] = []
  without⊥ held (empty ∷ rs) = without⊥ held rs
  without⊥ held (filled f k y ∷ rs) = held f k y ∷ without⊥ held rs

  -- a register of m holds ⟨c, v⟩, one of A a figure, one of B (flag, figure)
  unfoldable pub in_max : List (Register F) → List (ℕ × F)
  in_max = without⊥ (λ f k y. (k, y))

  unfoldable pub in_sA : List (Register F) → List F
  in_sA = without⊥ (λ f k y. y)

  unfoldable pub in_sB : List (Register F) → List (Flag × F)
  in_sB = without⊥ (λ f k y. (f, y))

  -- some register of those that were read was filled
  unfoldable pub SomeFilled : List (Register F) → Type 0
  SomeFilled rs = in_sA rs ≡ [] → ⊥

  -- (commit, v') ∈ S_B. Where commits of several figures stand there 01 chooses: "the first commit read displaces
  -- adopts and then stays".
  unfoldable pub first_commit : List (Flag × F) → Option F
  first_commit [] = none
  first_commit (p ∷ S) = elim p.0 [ adopt ↦ first_commit S | commit ↦ some p.1 ]

-- What is asked of an order: it is strict and total, and the test of equality tells equal figures.
pub record Strict {F : Type 0} (o : Order F) : Type 0 where
  pub same_is : (x y : F) → o.same x y ≡ true → x ≡ y
  pub same_self : (x : F) → o.same x x ≡ true
  pub irreflexive : (x : F) → o.above x x ≡ false
  pub transitive : (x y z : F) → o.above x y ≡ true → o.above y z ≡ true → o.above x z ≡ true
  pub total : (x y : F) → o.above x y ≡ false → o.above y x ≡ false → x ≡ y

module _ {F : Type 0} (o : Order F) where
  -- ---- the lines

  -- "⟨x, y⟩ > ⟨x', y'⟩ if x > x' or (x = x' and y > y')" (lines 19, 20)
  unfoldable pub above₂ : ℕ × F → ℕ × F → Bool
  above₂ p q = pair_above o p.0 p.1 q.0 q.1

  -- 26: ⟨c', v'⟩ ← m.readmax()
  unfoldable pub ReadMax : List (ℕ × F) → (c : ℕ) → F → Type 0
  ReadMax S c v = Max above₂ S (c, v)

  -- 7: if S_A \ {⊥} = {v'} then 8: B[i] ← (commit, v'); 9: else B[i] ← (adopt, max(S_A))
  pub data LinesA (S : List F) (flag : Flag) (v : F) : Type 0 where
    line8 : flag ≡ commit → Only S v → LinesA S flag v
    line9 : flag ≡ adopt → ((w : F) → Only S w → ⊥) → Max o.above S v → LinesA S flag v

  -- 11: if S_B \ {⊥} = {(commit, v')} then 12: return (commit, v'); 13: else if (commit, v') ∈ S_B then return (adopt,
  -- v'); 14: else return (adopt, max(S_B))
  pub data LinesB (S : List (Flag × F)) (flag : Flag) (v : F) : Type 0 where
    line12 : flag ≡ commit → Only S (commit, v) → LinesB S flag v
    line13 : flag ≡ adopt → ((w : F) → Only S (commit, w) → ⊥) → first_commit S ≡ some v → LinesB S flag v
    line14 : flag ≡ adopt → first_commit S ≡ none → Max o.above (map (λ p. p.1) S) v → LinesB S flag v

  -- 30: a commit is returned; 28, 29: with an adopt the station goes to c' + 1 with v'', or has come to the end of the
  -- islands
  unfoldable pub returned : (K c : ℕ) → Flag → F → Move F
  returned K c commit v = stay (has_decided c v) (decided c v)
  returned K c adopt v = onward K c v

  -- What the last read of a collect on island c leaves and answers: after readmax the station proposes v' to C[c']
  -- (27); after S_A it goes on to write B; S_B gives what C[c'] returns.
  unfoldable pub Ends : (K : ℕ) → List (Register F) → (c : ℕ) → Turn → Move F → Type 0
  Ends K rs c turn_m m = (k : ℕ) × (v : F) × ReadMax (in_max rs) k v × (m ≡ stay (writing turn_a k v) (went k v))
  Ends K rs c turn_a m =
      (f : Flag) × (v : F) × LinesA (in_sA rs) f v × (m ≡ stay (writing (turn_b f) c v) (marked (flag_number f) v))
  Ends K rs c (turn_b e) m = (f : Flag) × (v : F) × LinesB (in_sB rs) f v × (m ≡ returned K c f v)

  -- ---- the reads

  -- the station after it met the registers of a list, one move for each; each is as it stood when it was read
  unfoldable pub through : (n K : ℕ) → Stage F → List (Register F) → Stage F
  through n K s [] = s
  through n K s (r ∷ rs) = through n K (move o n K s r).stage rs

  -- each of these moves answered *read* and wrote nothing
  unfoldable pub AllRead : (n K : ℕ) → Stage F → List (Register F) → Type 0
  AllRead n K s [] = Unit {0}
  AllRead n K s (r ∷ rs) =
      ((move o n K s r).answer ≡ read) × ((move o n K s r).written ≡ none) × AllRead n K (move o n K s r).stage rs

  -- ---- the claims

  -- "starts at position 0 with nothing seen": of n reads the first n − 1 answer *read*, and the last one ends the
  -- collect as the lines do on what all n met, if any of them was filled. The station's own register is, on a sound
  -- board.
  unfoldable pub Collects : Type 0
  Collects =
      (n K : ℕ) (t : Turn) (c : ℕ) (x : F) (rs : List (Register F)) (r : Register F)
      → length rs + 1 ≡ n → SomeFilled (rs ++ (r ∷ []))
      → AllRead n K (reading t c x 0 nothing) rs
      × Ends K (rs ++ (r ∷ [])) c t (move o n K (through n K (reading t c x 0 nothing) rs) r)

  -- the lines leave nothing open: two ends of one collect are the same
  unfoldable pub Leave : Type 0
  Leave =
      (K : ℕ) (rs : List (Register F)) (c : ℕ) (t : Turn) (m m' : Move F) → Ends K rs c t m → Ends K rs c t m' → m ≡ m'
