-- The sequential order: where each station of a list ends its turn before the next proposes, every one decides the
-- figure that the first proposed, and 6(n + 1) steps a turn are enough.
-- Relies on the turn of one station; it is demand 3's claim on the sequential order.
use Rattle.model.proofs.Kit.{◌≡◌, refl, ◌∙◌, true, List, [], ◌∷◌, ℕ, ◌+◌, ◌≤◌, ◌<◌, ◌*◌, arith}
use Rattle.model.specs.Listing.{Order, Answer, decided}
use Rattle.model.proofs.Agreement.State.{State, initial}
use Rattle.model.proofs.Sequential.Turns.{Ended, turn, answers}
use Rattle.model.proofs.Sequential.Between.{Between}
use Rattle.model.proofs.Sequential.OneTurn.{Fresh, Decides, first_turn, next_turn}

module _ {F : Type 0} where
  -- every station of the list is one of the n
  unfoldable pub AllBelow : (n : ℕ) → List (ℕ × F) → Type 0
  AllBelow n [] = Unit
  AllBelow n (p ∷ rest) = (p.0 < n) × AllBelow n rest

  unfoldable pub NotAmong : (i : ℕ) → List (ℕ × F) → Type 0
  NotAmong i [] = Unit
  NotAmong i (p ∷ rest) = (i ≡ p.0 → ⊥) × NotAmong i rest

  -- no station proposes twice
  unfoldable pub Distinct : List (ℕ × F) → Type 0
  Distinct [] = Unit
  Distinct (p ∷ rest) = NotAmong p.0 rest × Distinct rest

  -- every answer is that v was decided, on island 0 or 1
  unfoldable pub EachDecides : F → List (Answer F) → Type 0
  EachDecides v [] = Unit
  EachDecides v (a ∷ rest) = ((c : ℕ) × (c ≤ 1) × (a ≡ decided c v)) × EachDecides v rest

  unfoldable pub AllFresh : State F → List (ℕ × F) → Type 0
  AllFresh st [] = Unit
  AllFresh st (p ∷ rest) = Fresh st p.0 × AllFresh st rest

  pub initial_fresh : (l : List (ℕ × F)) → AllFresh initial l
  unfolding AllFresh initial
  initial_fresh [] = tt
  initial_fresh (p ∷ rest) = (record { rests = refl; blank = λ a. refl }, initial_fresh rest)

  -- the turn of a station leaves the others fresh
  pub still_fresh : {n : ℕ} {v : F} {i : ℕ} {w : F} {st : State F} {e : Ended F} → Decides n v i w st e
      → (l : List (ℕ × F)) → NotAmong i l → AllFresh st l → AllFresh e.state l
  unfolding AllFresh NotAmong
  still_fresh d [] ne h = tt
  still_fresh d (p ∷ rest) ne h =
      let one : Fresh _ p.0 = record {
        rests = d.stations p.0 ne.0 ∙ h.0.rests;
        blank = λ a. d.registers a p.0 ne.0 ∙ h.0.blank a;
      } in
      (one, still_fresh d rest ne.1 h.1)

  module _ (o : Order F) (sameIs : (x y : F) → o.same x y ≡ true → x ≡ y) (sameRefl : (x : F) → o.same x x ≡ true)
      (n K : ℕ) (two : 2 ≤ K) (fuel : ℕ) (enough : 6 * (n + 1) ≤ fuel) where
    -- From a state between two turns, every fresh station decides the figure of that state.
    pub all_decide : (v : F) (l : List (ℕ × F)) (st : State F) → Between n v st.register
        → AllBelow n l → Distinct l → AllFresh st l
        → EachDecides v (answers o n K fuel l st)
    unfolding AllBelow Distinct AllFresh EachDecides answers
    all_decide v [] st b low dis fresh = tt
    all_decide v (p ∷ rest) st b low dis fresh =
        let d : Decides n v p.0 p.1 st (turn o n K fuel p.0 p.1 st) =
        next_turn o sameIs sameRefl n K fuel enough two v st b p.0 low.0 fresh.0 p.1 in
        let later = still_fresh d rest dis.0 fresh.1 in
        ((d.island, d.small, d.says), all_decide v rest _ d.between low.1 dis.1 later)

    -- Every station decides the first station's figure.
    pub sequential : (i : ℕ) (v : F) (rest : List (ℕ × F)) → AllBelow n ((i, v) ∷ rest) → Distinct ((i, v) ∷ rest)
        → EachDecides v (answers o n K fuel ((i, v) ∷ rest) initial)
    unfolding AllBelow Distinct EachDecides answers
    sequential i v rest low dis =
        let d : Decides n v i v initial (turn o n K fuel i v initial) =
        first_turn o sameIs sameRefl n K fuel (omega arith) i low.0 v in
        let later = still_fresh d rest dis.0 (initial_fresh rest) in
        ((d.island, d.small, d.says), all_decide v rest _ d.between low.1 dis.1 later)
