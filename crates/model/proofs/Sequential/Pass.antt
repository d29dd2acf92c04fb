-- The turns of a pass of a station alone, as equations between runs: the collect of m; A and B where they have only v;
-- A where v stands and the station brings another figure; B where the commit of v stands and it brings an adopt.
-- Relies on the loop's turn alone and on what the collects end with; the turn of one station relies on it.
use Rattle.model.proofs.Kit.{◌≡◌, refl, ap, ◌∙◌, true, ℕ, ◌+◌, ◌≤◌, ◌<◌, lt-ltb, arith}
use Rattle.model.specs.Listing.{Order, Flag, adopt, commit, flag_number, Register, filled, turn_m, turn_a, turn_b}
use Rattle.model.specs.Listing.{Grade, first, second, third, seen, Stage, writing, has_decided, Station, decided}
use Rattle.model.specs.Listing.{marked, adopted, in_m, in_a, in_b, Move, outcome, array, entry, stay, onward, finish}
use Rattle.model.proofs.Agreement.Registers.{adopt≢commit}
use Rattle.model.proofs.Agreement.State.{put, put_same, put_other, same_array, put_written}
use Rattle.model.specs.AnyList.{ends}
use Rattle.model.proofs.Sequential.Turns.{Ended, go_on, step_until}
use Rattle.model.proofs.Sequential.Registers.{Registers, All, Figure, Commit, IfCommit, all_put, all_map, write}
use Rattle.model.proofs.Sequential.Collected.{collected}
use Rattle.model.proofs.Sequential.Collects.{Found, Different, best, two_figures, beside_adopt_lem, one_figure}
use Rattle.model.proofs.Sequential.Collects.{only_commits}
use Rattle.model.proofs.Sequential.Alone.{loops, alone, settle, loop_turn}

marks_adopt : {F : Type 0} (K c : ℕ) (g : Grade) (k : ℕ) (y : F) → Different g
    → finish K turn_a c g k y ≡ stay (writing (turn_b adopt) c y) (marked (flag_number adopt) y)
unfolding finish Different
marks_adopt K c first k y h = absurd h
marks_adopt K c second k y h = refl
marks_adopt K c third k y h = refl

pub goes_on : {F : Type 0} (K c : ℕ) (x : F) → c + 1 < K
    → onward K c x ≡ stay (writing turn_m (c + 1) x) (adopted (c + 1) x)
unfolding onward
goes_on K c x l = rw (lt-ltb (c + 1) K l)

module _ {F : Type 0} (o : Order F) (n K i : ℕ) (below : i < n) (w : F) (others : ℕ → Station F) where
  -- the run of station i alone from a stage and registers
  abbrev pub run : (fuel : ℕ) → Stage F → Registers F → Ended F
  run fuel s f = step_until o n K fuel i (alone i w others s f)

  -- where the collect of m sends the station that wrote (c, x): to a pair with Q, on island l at least
  pub record Sent (Q : ℕ → F → Type 0) (l fuel c : ℕ) (x : F) (f : Registers F) : Type 0 where
    pub island : ℕ
    pub figure : F
    pub least : l ≤ island
    pub fact : Q island figure
    pub goes : run (loops n 1 fuel) (writing turn_m c x) f
        ≡ run fuel (writing turn_a island figure) (write in_m i (filled adopt c x) f)

  module _ (sameIs : (x y : F) → o.same x y ≡ true → x ≡ y) where
    pub pass_m : (Q : ℕ → F → Type 0) (fuel c : ℕ) (x : F) (f : Registers F)
        → All n (λ e. Q) (put i (filled adopt c x) (f in_m))
        → (j : ℕ) → j < n → (e : Flag) (l : ℕ) (y : F) → put i (filled adopt c x) (f in_m) j ≡ filled e l y
        → Sent Q l fuel c x f
    unfolding settle go_on ends outcome finish stay entry array
    pass_m Q fuel c x f all j b e l y at =
        let r : ℕ → Register F = put i (filled adopt c x) (f in_m) in
        let s : Found (λ g k z. (l ≤ k) × Q k z) (collected o turn_m r n) = best o sameIs r n Q all j b e l y at in
        record {
          island = s.island;
          figure = s.figure;
          least = s.fact.0;
          fact = s.fact.1;
          goes = loop_turn o n K i w others turn_m c x f s.grade s.island s.figure fuel (omega arith) s.what;
        }

    -- Station j has the commit of v in B, where commits are of v only: one that brings an adopt goes on with v.
    pub pass_beside_adopt : (fuel c : ℕ) (f : Registers F) (v z : F) → c + 1 < K → All n (Commit v) (f (in_b c))
        → (j : ℕ) → j < n → (i ≡ j → ⊥) → f (in_b c) j ≡ filled commit 0 v
        → run (loops n 1 fuel) (writing (turn_b adopt) c z) f
        ≡ run fuel (writing turn_m (c + 1) v) (write (in_b c) i (filled adopt 0 z) f)
    unfolding settle go_on ends outcome finish stay entry array
    pass_beside_adopt fuel c f v z l all j b ne at =
        let r : ℕ → Register F = put i (filled adopt 0 z) (f (in_b c)) in
        let all_if : All n (IfCommit v) (f (in_b c)) = all_map n (Commit v) (IfCommit v) (λ e k y h d. h.1)
        (f (in_b c)) all in
        let q : (k : ℕ) × (collected o (turn_b adopt) r n ≡ seen third k v) =
        beside_adopt_lem o sameIs r n v
        (all_put n (IfCommit v) i adopt 0 z (f (in_b c)) (λ d. absurd (adopt≢commit d)) all_if)
        i below 0 z (put_same i _ _) j b 0 v (put_other i _ _ j ne ∙ at) in
        loop_turn o n K i w others (turn_b adopt) c z f third q.0 v fuel (omega arith) q.1
        ∙ ap (λ (m : Move F). settle o n K i w others fuel m (write (in_b c) i (filled adopt 0 z) f)) (goes_on K c v l)

    -- Station j has v in A: one that brings another figure sees two, and marks adopt.
    pub pass_two_figures : (v : F) (fuel c : ℕ) (f : Registers F) (y : F) → (y ≡ v → ⊥)
        → (j : ℕ) → j < n → (i ≡ j → ⊥) → f (in_a c) j ≡ filled adopt 0 v
        → (z : F) × (run (loops n 1 fuel) (writing turn_a c y) f
        ≡ run fuel (writing (turn_b adopt) c z) (write (in_a c) i (filled adopt 0 y) f))
    unfolding settle go_on ends outcome stay entry array
    pass_two_figures v fuel c f y other j b ne at =
        let r : ℕ → Register F = put i (filled adopt 0 y) (f (in_a c)) in
        let p : Found (λ g k x. Different g) (collected o turn_a r n) =
        two_figures o sameIs r n y v other
        i below adopt 0 (put_same i _ _) j b adopt 0 (put_other i _ _ j ne ∙ at) in
        let goes : run (loops n 1 fuel) (writing turn_a c y) f
        ≡ run fuel (writing (turn_b adopt) c p.figure) (write (in_a c) i (filled adopt 0 y) f) =
        loop_turn o n K i w others turn_a c y f p.grade p.island p.figure fuel (omega arith) p.what
        ∙ ap (λ (m : Move F). settle o n K i w others fuel m (write (in_a c) i (filled adopt 0 y) f))
        (marks_adopt K c p.grade p.island p.figure p.fact) in
        (p.figure, goes)

    module _ (sameRefl : (x : F) → o.same x x ≡ true) (v : F) where
      -- A and B of island c have only v: the station that brings v decides it there.
      pub pass_agreed : (fuel c : ℕ) (f : Registers F) → All n (Figure v) (f (in_a c)) → All n (Commit v) (f (in_b c))
          → run (loops n 2 fuel) (writing turn_a c v) f
          ≡ record {
            state = alone i w others (has_decided c v)
                (write (in_b c) i (filled commit 0 v) (write (in_a c) i (filled adopt 0 v) f));
            answer = decided c v;
          }
      unfolding settle go_on ends outcome finish stay entry array put_written same_array
      pass_agreed fuel c f allA allB =
          let ra : ℕ → Register F = put i (filled adopt 0 v) (f (in_a c)) in
          let rb : ℕ → Register F = put i (filled commit 0 v) (f (in_b c)) in
          let p : (k : ℕ) × (collected o turn_a ra n ≡ seen first k v) =
          one_figure o sameIs ra n sameRefl v i below (all_put n (Figure v) i adopt 0 v (f (in_a c)) refl allA)
          (rw (put_same i (filled adopt 0 v) (f (in_a c))) refl) in
          let q : (k : ℕ) × (collected o (turn_b commit) rb n ≡ seen second k v) =
          only_commits o sameIs rb n sameRefl v i below
          (all_put n (Commit v) i commit 0 v (f (in_b c)) (refl, refl) allB)
          (rw (put_same i (filled commit 0 v) (f (in_b c))) (refl, refl)) in
          loop_turn o n K i w others turn_a c v f first p.0 v (loops n 1 fuel) (omega arith) p.1
          ∙ loop_turn o n K i w others (turn_b commit) c v (write (in_a c) i (filled adopt 0 v) f)
          second q.0 v fuel (omega arith) q.1
