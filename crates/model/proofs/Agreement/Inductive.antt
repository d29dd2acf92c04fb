-- Invariants of all cells, said once for each of them: what a proposal, a write, a read and the end of a collect keep
-- is kept by the two calls on a state. The last read of a collect is a read and then the end, no case of its own.
-- Relies on cells and on what a write leaves; the invariant of demand 3 and those of termination rely on it.
use Rattle.model.proofs.Kit.{◌≡◌, refl, sym, ap, subst, none, some, Option, ℕ, ◌+◌, ◌≤◌, ◌<◌}
use Rattle.model.specs.Listing.{Order, Register, Turn, Seen, nothing, Stage, writing, reading, has_decided}
use Rattle.model.specs.Listing.{is_spent, Station, idle, active, Move, Array, in_m, array, entry, place_array}
use Rattle.model.specs.Listing.{place_column, proposed, stay, ended, see, move}
use Rattle.model.proofs.Listing.Cases.{read_case}
use Rattle.model.proofs.Listing.Going.{Going}
use Rattle.model.proofs.Listing.Written.{ended_writes}
use Rattle.model.proofs.Agreement.State.{State, put, put_same, put_written, proposing, move_of, moving}
use Rattle.model.proofs.Agreement.Cells.{Cell, standing, cells, written, rewritten, cells_rewritten, put_put}
use Rattle.model.proofs.Agreement.Writes.{wrote}

module _ {F : Type 0} where
  -- the record after the read of register r
  abbrev pub looked : Order F → F → Turn → ℕ → F → ℕ → Seen F → Register F → Station F
  looked o v t c x p a r = active v (reading t c x (p + 1) (see o t a r))

  -- the cell of registers R after the write of turn t
  abbrev pub begun : F → Turn → ℕ → F → (Array → Register F) → Cell F
  begun v t c x R = record { station = active v (reading t c x 0 nothing); register = wrote t c x R }

  -- P is kept by every proposal of a figure with Q, and by each part of a move.
  pub record Inductive (o : Order F) (n K : ℕ) (Q : F → Type 0) (P : (ℕ → Cell F) → Type 0) : Type 0 where
    pub proposes : {f : ℕ → Cell F} (i : ℕ) (v : F) → i < n → (f i).station ≡ idle → Q v → P f
        → P (put i (standing (proposed v) (f i)) f)
    pub writes : {f : ℕ → Cell F} (i : ℕ) (v : F) (t : Turn) (c : ℕ) (x : F) → i < n
        → (f i).station ≡ active v (writing t c x) → P f → P (put i (begun v t c x (f i).register) f)
    pub reads : {f : ℕ → Cell F} (i : ℕ) (v : F) (t : Turn) (c : ℕ) (x : F) (p : ℕ) (a : Seen F) → i < n
        → (f i).station ≡ active v (reading t c x p a) → P f
        → P (put i (standing (looked o v t c x p a ((f p).register (array t c))) (f i)) f)
    pub settles : {f : ℕ → Cell F} (i : ℕ) (v : F) (t : Turn) (c : ℕ) (x : F) (p : ℕ) (a : Seen F) → i < n
        → (f i).station ≡ active v (reading t c x p a) → n ≤ p → P f
        → P (put i (standing (active v (ended K t c x a).stage) (f i)) f)

  module _ (P : (ℕ → Cell F) → Type 0) where
    -- a state in which one cell is rewritten
    rewritten_kept : (st : State F) (i : ℕ) (S : Station F) (a : Array) (w : Option (Register F))
        → P (put i (record { station = S; register = written a w (λ (b : Array). st.register b i) }) (cells st))
        → P (cells (rewritten i S a w st))
    rewritten_kept st i S a w h = subst P (sym (cells_rewritten i S a w st)) h

    -- a state in which one station has another record, and nothing is written
    unwritten_kept : (st : State F) (i : ℕ) (S : Station F) (a : Array) (w : Option (Register F)) → w ≡ none
        → P (put i (standing S (cells st i)) (cells st)) → P (cells (rewritten i S a w st))
    unfolding cells written
    unwritten_kept st i S a w e h =
        subst (λ (w : Option (Register F)). P (cells (rewritten i S a w st))) (sym e) (rewritten_kept st i S a none h)

  module _ {o : Order F} {n K : ℕ} {Q : F → Type 0} {P : (ℕ → Cell F) → Type 0} (k : Inductive o n K Q P) where
    pub propose_keeps : (st : State F) (i : ℕ) (v : F) → i < n → st.station i ≡ idle → Q v → P (cells st)
        → P (cells (proposing i v st))
    unfolding proposing cells rewritten put_written
    propose_keeps st i v near is q h =
        unwritten_kept P st i (proposed v) in_m none refl (k.proposes i v near is q h)

    -- the last read of a collect: the station looks and then ends the collect
    last_keeps : (f : ℕ → Cell F) (i : ℕ) (v : F) (t : Turn) (c : ℕ) (x : F) (p : ℕ) (a : Seen F) → i < n → n ≤ p + 1
        → (f i).station ≡ active v (reading t c x p a) → P f
        → P (put i (standing (active v (ended K t c x (see o t a ((f p).register (array t c)))).stage) (f i)) f)
    last_keeps f i v t c x p a near end is h =
        subst P (put_put i (standing last looks) looks f)
        (subst (λ (D : Cell F). P (put i (standing last D) (put i looks f))) (put_same i looks f)
        (k.settles i v t c x (p + 1) now near
        (ap (λ (D : Cell F). D.station) (put_same i looks f)) end (k.reads i v t c x p a near is h)))
      where
        now : Seen F
        now = see o t a ((f p).register (array t c))

        looks : Cell F
        looks = standing (looked o v t c x p a ((f p).register (array t c))) (f i)

        last : Station F
        last = active v (ended K t c x now).stage

    pub move_keeps : (st : State F) {v : F} {s : Stage F} (i : ℕ) → i < n → st.station i ≡ active v s → Going s
        → P (cells st) → P (cells (moving o n K i v s st))
    unfolding moving move_of move place_array place_column stay cells rewritten put_written wrote
    move_keeps st {v} {s = writing t c x} i near is g h =
        rewritten_kept P st i (active v (reading t c x 0 nothing)) (array t c) (some (entry t c x))
        (k.writes i v t c x near is h)
    move_keeps st {v} {s = reading t c x p a} i near is g h =
        let r = st.register (array t c) p in
        let last = ended K t c x (see o t a r) in
        read_case K (λ (m : Move F). P (cells (rewritten i (active v m.stage) (array t c) m.written st)))
        c t x o n p a r
        (λ l. unwritten_kept P st i (looked o v t c x p a r) (array t c) none refl
        (k.reads i v t c x p a near is h))
        (λ l. unwritten_kept P st i (active v last.stage) (array t c) last.written
        (ended_writes K t c x (see o t a r))
        (last_keeps (cells st) i v t c x p a near l is h))
    move_keeps st {v} {s = has_decided c x} i near is g h = absurd g
    move_keeps st {v} {s = is_spent c x} i near is g h = absurd g
