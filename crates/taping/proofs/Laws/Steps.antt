-- Steps taped one after another: what one of them can leave, what all of them keep, and when they leave everything as
-- it was.
-- Relies on the definition of steps taped, on steps of a sound board and on the length of a tape line; the proofs of
-- one step taped, of items and of rounds rely on it.
use Rattle.model.proofs.Kit.{◌≡◌, refl, sym, ap, subst, ◌∙◌, inl, inr, ◌⊎◌, List, [], ◌∷◌, ◌++◌, ℕ, zero, suc, ◌+◌, ◌-◌}
use Rattle.model.proofs.Kit.{◌≤◌, ◌<◌, eqb, eqb-true, eqb-false, length, get_or, arith}
use Rattle.model.specs.Bytes.{splice}
use Rattle.model.specs.Listing.{accepted}
use Rattle.model.specs.Calls.{step_on}
use Rattle.model.specs.Forms.{repeated}
use Rattle.model.specs.Runs.{after}
use Rattle.model.specs.Tape.{Entry}
use Rattle.model.proofs.Basics.Splices.{length_splice}
use Rattle.model.proofs.Basics.Tests.{cond_case}
use Rattle.stepping.proofs.Laws.Repeated.{Ran, ran_none, ran_then}
use Rattle.tape_writer.proofs.Laws.WritingLength.{line_short}
use Rattle.taping.specs.Taping.{Taping, tape_line, line_taken, taped_one, taped_steps, slot, Ready}

-- ---- one step

-- the tape's next line is put in, or passed over
abbrev pub written : Entry → (d : List ℕ) → Taping → Taping
written e d s = record {
  board = d;
  out = splice s.len (tape_line e) s.out;
  left = 0;
  room = s.room - 1;
  len = s.len + length (tape_line e);
}

abbrev pub passed_over : (d : List ℕ) → Taping → Taping
passed_over d s = record { board = d; out = s.out; left = s.left - 1; room = s.room; len = s.len }

-- the entry of a step of station number i
abbrev pub entry_at : ℕ → List ℕ → Entry
entry_at i b = record { station = i; report = (step_on i b).answer }

-- What a step taped leaves: all as it was, or one line more put in, or one line more passed over.
module _ (P : Taping → Type 0) (i : ℕ) (s : Taping) where
  pub one_case : P s
      → ((s.room ≡ 0 → ⊥) → s.left ≡ 0 → P (written (entry_at i s.board) (step_on i s.board).bytes s))
      → ((s.room ≡ 0 → ⊥) → (s.left ≡ 0 → ⊥) → P (passed_over (step_on i s.board).bytes s))
      → P (taped_one i s)
  unfolding taped_one line_taken
  one_case same line passed =
      cond_case P (eqb s.room 0) _ _ (λ e. same)
      (λ e. cond_case P (accepted (step_on i s.board).answer.did) _ _
      (λ f. cond_case P (eqb s.left 0) _ _ (λ g. line (eqb-false s.room 0 e) (eqb-true s.left 0 g))
      (λ g. passed (eqb-false s.room 0 e) (eqb-false s.left 0 g)))
      (λ f. same))

-- ---- what steps keep

-- from the state s to the state t
pub record Kept (s t : Taping) : Type 0 where
  pub ready : Ready t
  pub board : length t.board ≡ length s.board
  pub out : length t.out ≡ length s.out
  pub head : get_or t.board 0 0 ≡ get_or s.board 0 0

pub kept_none : (s : Taping) → Ready s → Kept s s
kept_none s h = record { ready = h; board = refl; out = refl; head = refl }

pub kept_then : {s t u : Taping} → Kept s t → Kept t u → Kept s u
kept_then k l = record {
  ready = l.ready;
  board = l.board ∙ k.board;
  out = l.out ∙ k.out;
  head = l.head ∙ k.head;
}

module _ (i : ℕ) (s : Taping) (h : Ready s) where
  ran : Ran s.board (i ∷ []) (step_on i s.board).bytes
  unfolding after
  ran = ran_then s.board [] s.board (i ∷ []) _ (ran_none s.board h.sound) refl

  pub one_kept : Kept s (taped_one i s)
  unfolding slot tape_line
  one_kept =
      one_case (Kept s) i s (kept_none s h)
      (λ room left.
      let e = entry_at i s.board in
      let fits : s.len + length (tape_line e) ≤ length s.out = omega (arith, h.fits, line_short e) in
      let out = length_splice s.len (tape_line e) s.out fits in
      record {
        ready = record { sound = ran.sound; fits = omega (arith, h.fits, line_short e, out) };
        board = ran.len;
        out = out;
        head = ran.head;
      })
      (λ room left. record {
        ready = record { sound = ran.sound; fits = h.fits };
        board = ran.len;
        out = refl;
        head = ran.head;
      })

  pub one_ready : Ready (taped_one i s)
  one_ready = one_kept.ready

pub steps_kept_lem : (is : List ℕ) (s : Taping) → Ready s → Kept s (taped_steps is s)
unfolding taped_steps
steps_kept_lem [] s h = kept_none s h
steps_kept_lem (i ∷ is) s h =
    let k = one_kept i s h in
    kept_then k (steps_kept_lem is (taped_one i s) k.ready)

pub steps_ready : (is : List ℕ) (s : Taping) → Ready s → Ready (taped_steps is s)
steps_ready is s h = (steps_kept_lem is s h).ready

pub steps_lengths : (is : List ℕ) (s : Taping) → Ready s
    → (length (taped_steps is s).board ≡ length s.board) × (length (taped_steps is s).out ≡ length s.out)
steps_lengths is s h = let k = steps_kept_lem is s h in (k.board, k.out)

-- ---- one list of steps after another

pub steps_append : (is js : List ℕ) (s : Taping) → taped_steps (is ++ js) s ≡ taped_steps js (taped_steps is s)
unfolding taped_steps
steps_append [] js s = refl
steps_append (i ∷ is) js s = steps_append is js (taped_one i s)

-- the steps `is` were taped from the state s, and t is the state that they leave
pub record Tapes (s : Taping) (is : List ℕ) (t : Taping) : Type 0 where
  pub state : t ≡ taped_steps is s
  pub kept : Kept s t

pub tapes_none : (s : Taping) → Ready s → Tapes s [] s
unfolding taped_steps
tapes_none s h = record { state = refl; kept = kept_none s h }

pub tapes_then : (s : Taping) (is : List ℕ) (t : Taping) (js : List ℕ) (u : Taping) → Tapes s is t → u ≡ taped_steps js t
    → Tapes s (is ++ js) u
tapes_then s is t js u p q = record {
  state = q ∙ ap (taped_steps js) p.state ∙ sym (steps_append is js s);
  kept = kept_then p.kept (subst (Kept t) (sym q) (steps_kept_lem js t p.kept.ready));
}

pub tapes_ready : (s : Taping) (is : List ℕ) (t : Taping) → Tapes s is t → Ready t
tapes_ready s is t p = p.kept.ready

-- ---- steps that leave everything as it was

-- what is still to do, which each step that does something makes less
abbrev Todo : Taping → ℕ
Todo s = s.left + s.room

one_falls : (i : ℕ) (s : Taping) → (taped_one i s ≡ s) ⊎ (Todo (taped_one i s) < Todo s)
one_falls i s =
    one_case (λ t. (t ≡ s) ⊎ (Todo t < Todo s)) i s (inl refl) (λ room left. inr (omega arith))
    (λ room left. inr (omega arith))

steps_fall : (is : List ℕ) (s : Taping) → Todo (taped_steps is s) ≤ Todo s
unfolding taped_steps
steps_fall [] s = omega arith
steps_fall (i ∷ is) s = by (one_falls i s) (steps_fall is (taped_one i s))
  where
    by : (taped_one i s ≡ s) ⊎ (Todo (taped_one i s) < Todo s) → Todo (taped_steps is (taped_one i s)) ≤ Todo (taped_one i s)
        → Todo (taped_steps is (taped_one i s)) ≤ Todo s
    by (inl e) h = omega (arith, h, ap (λ (t : Taping). Todo t) e)
    by (inr l) h = omega arith

pub unchanged : (is : List ℕ) (s : Taping) → (taped_steps is s).left ≡ s.left → (taped_steps is s).room ≡ s.room
    → taped_steps is s ≡ s
unfolding taped_steps
unchanged [] s l r = refl
unchanged (i ∷ is) s l r = by (one_falls i s) (unchanged is s)
  where
    by : (taped_one i s ≡ s) ⊎ (Todo (taped_one i s) < Todo s)
        → ((taped_steps is s).left ≡ s.left → (taped_steps is s).room ≡ s.room → taped_steps is s ≡ s)
        → taped_steps is (taped_one i s) ≡ s
    by (inl e) again =
        let same = ap (taped_steps is) e in
        same ∙ again (ap (λ (t : Taping). t.left) (sym same) ∙ l) (ap (λ (t : Taping). t.room) (sym same) ∙ r)
    by (inr f) again = absurd (omega (arith, l, r, f, steps_fall is (taped_one i s)))

pub repeated_unchanged : (k : ℕ) (is : List ℕ) (s : Taping) → taped_steps is s ≡ s → taped_steps (repeated k is) s ≡ s
unfolding repeated taped_steps
repeated_unchanged zero is s e = refl
repeated_unchanged (suc k) is s e =
    steps_append is (repeated k is) s ∙ ap (taped_steps (repeated k is)) e ∙ repeated_unchanged k is s e
