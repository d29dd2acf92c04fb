-- The state that a board's bytes stand for, and that putting in a record or a register puts just that into the state.
-- Relies on Boards, Codec and the abstract state; the bridge of single calls relies on it.
use Rattle.model.proofs.Kit.{◌≡◌, refl, sym, ap, ◌∙◌, Bool, true, false, cond, ◌&&◌, List, some, ℕ, ◌<◌, lt-ltb}
use Rattle.model.proofs.Kit.{eqb-true, eqb-false, eq-eqb, ltb-true, eqb, ltb, length}
use mathlib.Core.Logic.{◌↔◌}
use Rattle.model.specs.declared.Record.{Record}
use Rattle.model.specs.Figure.{Figure}
use Rattle.model.specs.Listing.{Register, empty, Station, idle, Array, in_m, in_a, in_b}
use Rattle.model.specs.Layout.{record_fields, board_length, register_of, station_of}
use Rattle.model.specs.Calls.{put_record, put_register}
use Rattle.model.proofs.Basics.Tests.{both_true, clash}
use Rattle.model.proofs.Board.Places.{InBoard}
use Rattle.model.proofs.Board.Codec.{register, station, FitsRegister, FitsStation, register_bytes_lem, station_bytes}
use Rattle.model.proofs.Board.Boards.{register_part, record_same, record_other, record_register, register_same}
use Rattle.model.proofs.Board.Boards.{register_other, register_record}
use Rattle.model.proofs.Agreement.State.{State, put, same_array, array_is, array_self, put_written}

-- an array of a board with K islands, as a test
unfoldable pub inside : (K : ℕ) → Array → Bool
inside K in_m = true
inside K (in_a c) = ltb c K
inside K (in_b c) = ltb c K

inside_is : (K : ℕ) (a : Array) → (inside K a ≡ true) ↔ InBoard K a
unfolding inside InBoard
inside_is K in_m = (λ e. tt, λ h. refl)
inside_is K (in_a c) = (ltb-true c K, lt-ltb c K)
inside_is K (in_b c) = (ltb-true c K, lt-ltb c K)

-- the register of station index j there
pub there : (n K : ℕ) (a : Array) (j : ℕ) → (inside K a && ltb j n ≡ true) ↔ InBoard K a × (j < n)
there n K a j = (
  λ e. let p = both_true (inside K a) (ltb j n) e in ((inside_is K a).0 p.0, ltb-true j n p.1),
  λ h. cc ((inside_is K a).1 h.0, lt-ltb j n h.1),
)

-- Outside the board every station is idle and every register empty.
unfoldable pub view : (n K : ℕ) → List ℕ → State Figure
view n K b = record {
  station = λ j. cond (ltb j n) (station_of n K j b) idle;
  register = λ a j. cond (inside K a && ltb j n) (register_of n a j b) empty;
}

pub view_station : (n K : ℕ) (b : List ℕ) (j : ℕ) → j < n → (view n K b).station j ≡ station_of n K j b
unfolding view
view_station n K b j h = rw (lt-ltb j n h)

pub view_register : (n K : ℕ) (b : List ℕ) (a : Array) (j : ℕ) → InBoard K a → j < n
    → (view n K b).register a j ≡ register_of n a j b
unfolding view
view_register n K b a j h l = rw ((there n K a j).1 (h, l))

-- two choices by one test agree if they do where it passes
cond_as : {A : Type 0} (t : Bool) (x y z : A) → (t ≡ true → x ≡ y) → cond t x z ≡ cond t y z
cond_as true x y z h = h refl
cond_as false x y z h = refl

-- the same with a test for a change in front
cond_put : {A : Type 0} (t s : Bool) (x y z w : A) → (s ≡ true → (t ≡ true) × (x ≡ w)) → (s ≡ false → t ≡ true → x ≡ y)
    → cond t x z ≡ cond s w (cond t y z)
cond_put t true x y z w f g = cc ((f refl).0, (f refl).1)
cond_put t false x y z w f g = cond_as t x y z (g refl)

module _ (n K : ℕ) (b : List ℕ) (len : length b ≡ board_length n K) (i : ℕ) (own : i < n) where
  pub view_put_station : (s : Station Figure) (f : Record) → FitsStation s
      → view n K (put_record n K i (record_fields s f) b)
      ≡ (record { station = put i s (view n K b).station; register = (view n K b).register })
  unfolding view put station_of register_of register_part
  view_put_station s f fits = λ k. record {
    station = λ j. cond_put (ltb j n) (eqb i j) _ _ idle s
        (λ e. let h : j ≡ i = sym (eqb-true i j e) in (
          lt-ltb j n (rw h own),
          rw h (ap station (record_same n K b len i own (record_fields s f)) ∙ station_bytes s f fits),
        ))
        (λ e t. ap station (record_other n K b len i own (record_fields s f) j (ltb-true j n t) (eqb-false i j e))) k;
    register = λ a j. cond_as (inside K a && ltb j n) _ _ empty
        (λ e. let h = (there n K a j).0 e in
        ap register (record_register n K b len i own (record_fields s f) a j h.0 h.1)) k;
  }

  pub view_put_register : (a : Array) (r : Register Figure) → InBoard K a → FitsRegister r
      → view n K (put_register n a i (some r) b)
      ≡ (record { station = (view n K b).station; register = put_written a i (some r) (view n K b).register })
  unfolding view put_written station_of register_of register_part
  view_put_register a r h fits = λ k. record {
    station = λ j. cond_as (ltb j n) _ _ idle
        (λ e. ap station (register_record n K b len a h i own r j (ltb-true j n e))) k;
    register = λ c j. cond_put (inside K c && ltb j n) (same_array a c && eqb i j) _ _ empty r
        (λ e. let p = both_true (same_array a c) (eqb i j) e in
        let q : c ≡ a = sym (array_is a c p.0) in
        let m : j ≡ i = sym (eqb-true i j p.1) in
        let same = ap register (register_same n K b len a h i own r) ∙ register_bytes_lem r fits in
        (rw (q, m) ((there n K a i).1 (h, own)), rw (q, m) same))
        (λ e t. let p = (there n K c j).0 t in ap register (register_other n K b len a h i own r c j p.0 p.1
        (λ q. clash (sym (cc (array_self a, eq-eqb i i refl, q.0, q.1)) ∙ e)))) k;
  }
