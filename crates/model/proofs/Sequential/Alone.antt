-- One station alone, as equations between runs: each kind of step, the whole collect, and the turn of the loop that is
-- a write and a collect. Each holds for any number of stations and any kind of register.
-- Relies on the definition of a run and on what a collect has seen; the passes rely on it.
use Rattle.model.proofs.Kit.{◌≡◌, refl, ap, ◌∙◌, Option, ℕ, zero, suc, ◌+◌, ◌-◌, ◌<◌, zero-add, add-one, arith}
use native.Mathlib.Nat.{add-suc, suc-add}
use Rattle.model.specs.Listing.{Order, Register, Turn, turn_m, Grade, Seen, nothing, seen, Stage, writing, reading}
use Rattle.model.specs.Listing.{Station, active, Move, array, place_array, place_column, entry, proposed, stay}
use Rattle.model.specs.Listing.{finish}
use Rattle.model.specs.Listing.{outcome, ended, see, move}
use Rattle.model.proofs.Listing.Cases.{read_on, read_last}
use Rattle.model.proofs.Listing.Written.{ended_writes}
use Rattle.model.proofs.Agreement.Cells.{put_put}
use Rattle.model.proofs.Agreement.State.{State, put, put_same, put_written, proposing, move_of, moving}
use Rattle.model.specs.AnyList.{ends}
use Rattle.model.proofs.Sequential.Turns.{Ended, go_on, step_once, step_until}
use Rattle.model.proofs.Sequential.Registers.{Registers, write, write_at}
use Rattle.model.proofs.Sequential.Collected.{collected}

-- the steps of k turns of the loop, and fuel more
abbrev pub loops : (n k fuel : ℕ) → ℕ
loops n zero fuel = fuel
loops n (suc k) fuel = suc (n + loops n k fuel)

module _ {F : Type 0} where
  -- Station i with proposal v stands at stage s; the other stations' records and all registers are as given.
  unfoldable pub alone : (i : ℕ) (v : F) (others : ℕ → Station F) → Stage F → Registers F → State F
  alone i v others s f = record { station = put i (active v s) others; register = f }

  pub proposing_alone : (i : ℕ) (v : F) (st : State F)
      → proposing i v st ≡ alone i v st.station (writing turn_m 0 v) st.register
  unfolding proposing proposed alone
  proposing_alone i v st = refl

  module _ (o : Order F) (n K i : ℕ) (v : F) (others : ℕ → Station F) where
    -- the rest of the run after a move of station i that left the registers so
    unfoldable pub settle : (fuel : ℕ) → Move F → Registers F → Ended F
    settle fuel m f = go_on (alone i v others m.stage f) m.answer (λ t. step_until o n K fuel i t)

    one_step : (fuel : ℕ) (s : Stage F) (f : Registers F) (m : Move F)
        → move o n K s (f (place_array s) (place_column i s)) ≡ m
        → step_until o n K (suc fuel) i (alone i v others s f)
        ≡ settle fuel m (put_written (place_array s) i m.written f)
    unfolding step_until step_once alone settle moving move_of
    one_step fuel s f m e =
        let w : Move F = move o n K s (f (place_array s) (place_column i s)) in
        let g : Registers F = put_written (place_array s) i w.written f in
        let again : State F → Ended F = λ t. step_until o n K fuel i t in
        ap (λ (r : Station F). step_once o n K i r (alone i v others s f) again) (put_same i (active v s) others)
        ∙ ap (λ (r : ℕ → Station F). go_on (record { station = r; register = g }) w.answer again)
        (put_put i (active v w.stage) (active v s) others)
        ∙ ap (λ (m : Move F). settle fuel m (put_written (place_array s) i m.written f)) e

    -- a write starts the collect
    pub step_write : (fuel : ℕ) (t : Turn) (c : ℕ) (x : F) (f : Registers F)
        → step_until o n K (suc fuel) i (alone i v others (writing t c x) f)
        ≡ step_until o n K fuel i (alone i v others (reading t c x 0 nothing) (write (array t c) i (entry t c x) f))
    unfolding settle go_on ends outcome move place_array
    step_write fuel t c x f = one_step fuel (writing t c x) f _ refl

    module _ (t : Turn) (c : ℕ) (x : F) (f : Registers F) where
      pub step_read : (fuel p : ℕ) (a : Seen F) → suc p < n
          → step_until o n K (suc fuel) i (alone i v others (reading t c x p a) f)
          ≡ step_until o n K fuel i (alone i v others (reading t c x (suc p) (see o t a (f (array t c) p))) f)
      unfolding settle go_on ends outcome place_array place_column stay put_written
      step_read fuel p a l = one_step fuel (reading t c x p a) f _
          (rw add-one at (read_on o n K t c x p a (f (array t c) p) (omega arith)))

      pub step_last : (fuel p : ℕ) (a : Seen F) → suc p ≡ n
          → step_until o n K (suc fuel) i (alone i v others (reading t c x p a) f)
          ≡ settle fuel (ended K t c x (see o t a (f (array t c) p))) f
      unfolding place_array place_column put_written
      step_last fuel p a e =
          let b : Seen F = see o t a (f (array t c) p) in
          one_step fuel (reading t c x p a) f (ended K t c x b)
          (read_last o n K t c x p a (f (array t c) p) (omega arith))
          ∙ ap (λ (w : Option (Register F)). settle fuel (ended K t c x b) (put_written (array t c) i w f))
          (ended_writes K t c x b)

      -- The first p reads, with p < n: registers 0 to p - 1 in their order. Only the station's record changes.
      pub reads : (fuel p : ℕ) → p < n
          → step_until o n K (p + fuel) i (alone i v others (reading t c x 0 nothing) f)
          ≡ step_until o n K fuel i (alone i v others (reading t c x p (collected o t (f (array t c)) p)) f)
      unfolding collected
      reads fuel zero l = rw zero-add
      reads fuel (suc p) l =
          rw (suc-add, ← add-suc)
          (reads (suc fuel) p (omega arith) ∙ step_read fuel p (collected o t (f (array t c)) p) l)

      -- A whole collect: n reads, the last of which ends it.
      pub whole_collect : (fuel : ℕ) → 0 < n
          → step_until o n K (n + fuel) i (alone i v others (reading t c x 0 nothing) f)
          ≡ settle fuel (ended K t c x (collected o t (f (array t c)) n)) f
      unfolding collected
      whole_collect fuel l =
          let p : ℕ = n - 1 in
          let e : suc p ≡ n = omega arith in
          let s : p + suc fuel ≡ n + fuel = omega arith in
          rw (← s)
          (reads (suc fuel) p (omega arith) ∙ step_last fuel p (collected o t (f (array t c)) p) e
          ∙ ap (λ (k : ℕ). settle fuel (ended K t c x (collected o t (f (array t c)) k)) f) e)

    -- A turn of the loop whose collect has seen something; the own register is filled, so every turn is one.
    pub loop_turn : (t : Turn) (c : ℕ) (x : F) (f : Registers F) (g : Grade) (k : ℕ) (y : F) (fuel : ℕ) → 0 < n
        → collected o t (put i (entry t c x) (f (array t c))) n ≡ seen g k y
        → step_until o n K (loops n 1 fuel) i (alone i v others (writing t c x) f)
        ≡ settle fuel (finish K t c g k y) (write (array t c) i (entry t c x) f)
    unfolding ended
    loop_turn t c x f g k y fuel l e =
        let after : Registers F = write (array t c) i (entry t c x) f in
        step_write (n + fuel) t c x f ∙ whole_collect t c x after fuel l
        ∙ ap (λ (r : ℕ → Register F). settle fuel (ended K t c x (collected o t r n)) after)
        (write_at (array t c) i (entry t c x) f)
        ∙ ap (λ (a : Seen F). settle fuel (ended K t c x a) after) e
