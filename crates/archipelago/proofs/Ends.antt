-- The ends of a collect on a record's fields: what each branch of `finish` and `onward` returns is the listing's move.
-- Relies on Collected, Advanced and the listing; the proofs of src/finish.rt rely on it.
use Rattle.model.proofs.Kit.{◌≡◌, refl, sym, ap, subst, ◌∙◌, Bool, cond, ℕ, zero, suc, ◌+◌, ◌≤◌, ◌<◌, lt-ltb}
use Rattle.model.proofs.Kit.{le-ltb, eqb, arith}
use Rattle.model.specs.declared.Record.{Record}
use Rattle.model.specs.declared.StepAnswer.{StepAnswer}
use Rattle.model.specs.declared.StepAnswer.TheVariants.{Went, Marked, Adopted, Decided, Spent}
use Rattle.collect.specs.declared.Turn as Coded
use Rattle.collect.specs.declared.Turn.TheVariants.{M, A, B}
use Rattle.model.specs.Figure.{Figure}
use Rattle.model.specs.Listing.{Flag, turn_m, turn_a, turn_b, first, second, third, Seen, nothing, seen, Move, Stage}
use Rattle.model.specs.Listing.{writing, reading, has_decided, is_spent, active, stay, onward, finish, ended}
use Rattle.model.specs.Layout.{seen_number, best_island, best_figure, seen_of, fields, record_fields, write_phase, flag_byte}
use Rattle.model.specs.Layout.{changed}
use Rattle.model.specs.Listing.{flag_number}
use Rattle.model.specs.Filled.{reported}
use Rattle.model.specs.Told.{told}
use Rattle.archipelago.specs.declared.Moved.{Moved}
use Rattle.collect.specs.Collected.{collected, noting, with_seen, Kept, ended_seen, turn_of}
use Rattle.archipelago.specs.Advanced.{Advanced, Finishes, Written, decision, staying, begins, marks}

-- ---- `ended`

pub ended_nothing : (f : Record) (y : Figure) → f.seen ≡ 0 → y ≡ f.carried
    → noting f 3 f.island y ≡ with_seen f (ended_seen f.island f.carried (collected f))
unfolding collected seen_of ended_seen with_seen seen_number best_island best_figure
ended_nothing f y e z =
    ap (noting f 3 f.island) z
    ∙ ap (λ (s : ℕ). with_seen f (ended_seen f.island f.carried (seen_of s f.highest f.best))) (sym e)

seen_ended : (c : ℕ) (x : Figure) (s k : ℕ) (y : Figure) → (s ≡ 0 → ⊥) → ended_seen c x (seen_of s k y) ≡ seen_of s k y
unfolding ended_seen seen_of
seen_ended c x zero k y h = absurd (h refl)
seen_ended c x (suc zero) k y h = refl
seen_ended c x (suc (suc zero)) k y h = refl
seen_ended c x (suc (suc (suc s))) k y h = refl

pub ended_seen_lem : (f : Record) → Kept f → (f.seen ≡ 0 → ⊥)
    → f ≡ with_seen f (ended_seen f.island f.carried (collected f))
unfolding Kept collected
ended_seen_lem f kept h =
    sym kept ∙ ap (with_seen f) (sym (seen_ended f.island f.carried f.seen f.highest f.best h))

-- ---- the listing's moves at the end of a collect that saw a, c and x being the station's own pair

module _ (K : ℕ) (f : Record) (c : ℕ) (x : Figure) where
  island_at_lem : Seen Figure → ℕ
  island_at_lem a = best_island (ended_seen c x a)

  figure_at_lem : Seen Figure → Figure
  figure_at_lem a = best_figure (ended_seen c x a)

  number_at : Seen Figure → ℕ
  number_at a = seen_number (ended_seen c x a)

  end_m : (a : Seen Figure)
      → Advanced f (ended K turn_m c x a)
      (begins 3 (island_at_lem a) 0 f (figure_at_lem a) (Went (island_at_lem a) 0 (figure_at_lem a)))
  unfolding island_at_lem figure_at_lem ended_seen best_island best_figure ended finish stay begins staying Written told reported
      record_fields write_phase flag_byte
  end_m nothing = record { station = refl; written = refl; answer = refl }
  end_m (seen g k y) = record { station = refl; written = refl; answer = refl }

  end_a : (a : Seen Figure)
      → let flag : ℕ = cond (eqb (number_at a) 1) 2 1 in
      Advanced f (ended K turn_a c x a) (begins 5 c flag f (figure_at_lem a) (Marked flag 0 (figure_at_lem a)))
  unfolding figure_at_lem number_at ended_seen seen_number best_figure ended finish stay begins staying Written told reported
      record_fields write_phase flag_byte flag_number
  end_a nothing = record { station = refl; written = refl; answer = refl }
  end_a (seen first k y) = record { station = refl; written = refl; answer = refl }
  end_a (seen second k y) = record { station = refl; written = refl; answer = refl }
  end_a (seen third k y) = record { station = refl; written = refl; answer = refl }

  end_decided : (e : Flag) (a : Seen Figure) → number_at a ≡ 2 → decision c (figure_at_lem a) ≡ ended K (turn_b e) c x a
  unfolding figure_at_lem number_at ended_seen seen_number best_figure ended finish decision
  end_decided e nothing q = absurd (omega arith)
  end_decided e (seen first k y) q = absurd (omega arith)
  end_decided e (seen second k y) q = refl
  end_decided e (seen third k y) q = absurd (omega arith)

  end_onward : (e : Flag) (a : Seen Figure) → (number_at a ≡ 2 → ⊥) → onward K c (figure_at_lem a) ≡ ended K (turn_b e) c x a
  unfolding figure_at_lem number_at ended_seen seen_number best_figure ended finish
  end_onward e nothing q = refl
  end_onward e (seen first k y) q = refl
  end_onward e (seen second k y) q = absurd (q refl)
  end_onward e (seen third k y) q = refl

-- ---- the same for what the functions return

-- a mark is laid with the flag of its test
pub marks_is : (f : Record) (flag : ℕ) (t : Bool) (r : Moved) → flag ≡ cond t 2 1
    → r ≡ begins 5 f.island flag f f.best (Marked flag 0 f.best) → r ≡ marks f t
unfolding marks
marks_is f flag t r e q = q ∙ ap (λ (flag : ℕ). begins 5 f.island flag f f.best (Marked flag 0 f.best)) e

-- a figure y goes through the machine by its bits, whose number is w, into the record and into the answer
pub begun : (phase island flag : ℕ) (f : Record) (y w : Figure) (answer : Figure → StepAnswer) (next : Record) (r : Moved)
    → w ≡ y → next ≡ fields phase 0 island nothing flag f.proposal w f → r ≡ staying next (answer w)
    → r ≡ begins phase island flag f y (answer y)
unfolding begins
begun phase island flag f y w answer next r u p q =
    q ∙ (λ i. staying
    ((p ∙ ap (λ (y : Figure). fields phase 0 island nothing flag f.proposal y f) u) i) (answer (u i)))

module _ (K : ℕ) (f : Record) (y w : Figure) (next : Record) (r : Moved) (u : w ≡ y) where
  pub decision_made : next ≡ fields 7 0 f.island nothing 0 f.proposal w f
      → r ≡ staying next (Decided f.island 0 w) → Advanced f (decision f.island y) r
  unfolding decision stay begins staying Written told reported record_fields
  decision_made p q =
      subst (Advanced f _) (sym (begun 7 f.island 0 f y w (Decided f.island 0) next r u p q))
      (record { station = refl; written = refl; answer = refl })

  pub adopted : f.island + 1 < K → next ≡ fields 1 0 (f.island + 1) nothing 0 f.proposal w f
      → r ≡ staying next (Adopted (f.island + 1) 0 w) → Advanced f (onward K f.island y) r
  unfolding onward stay begins staying Written told reported record_fields write_phase flag_byte
  adopted h p q =
      rw (lt-ltb (f.island + 1) K h)
      (subst (Advanced f _) (sym (begun 1 (f.island + 1) 0 f y w (Adopted (f.island + 1) 0) next r u p q))
      (record { station = refl; written = refl; answer = refl }))

  pub exhausted : K ≤ f.island + 1 → next ≡ fields 8 0 f.island nothing 0 f.proposal w f
      → r ≡ staying next (Spent f.island 0 w) → Advanced f (onward K f.island y) r
  unfolding onward stay begins staying Written told reported record_fields
  exhausted h p q =
      rw (le-ltb (f.island + 1) K h)
      (subst (Advanced f _) (sym (begun 8 f.island 0 f y w (Spent f.island 0) next r u p q))
      (record { station = refl; written = refl; answer = refl }))

-- the island stays that of the station
pub last_island : (K : ℕ) (f last : Record) → last ≡ with_seen f (ended_seen f.island f.carried (collected f))
    → f.island < K → last.island < K
unfolding with_seen noting changed
last_island K f last l h = subst (λ (g : Record). g.island < K) (sym l) h

-- what a collect has seen is none of what its end leaves
seen_gone : (f : Record) (a : Seen Figure) (v : Figure) (s : Stage Figure)
    → record_fields (active v s) (with_seen f a) ≡ record_fields (active v s) f
unfolding with_seen noting changed record_fields fields
seen_gone f a v (writing t c x) = refl
seen_gone f a v (reading t c x p b) = refl
seen_gone f a v (has_decided c x) = refl
seen_gone f a v (is_spent c x) = refl

pub over_seen : (f : Record) (a : Seen Figure) (m : Move Figure) (r : Moved) → Advanced (with_seen f a) m r
    → Advanced f m r
unfolding with_seen noting changed
over_seen f a m r h = record {
  station = h.station ∙ seen_gone f a f.proposal m.stage;
  written = h.written;
  answer = h.answer;
}

of_turn : (K : ℕ) (f : Record) (r : Moved) (t u : Coded.Turn) (e : Flag) → t ≡ u → Finishes (turn_of u e) K f r
    → Finishes (turn_of t e) K f r
of_turn K f r t u e v h = subst (λ (t : Coded.Turn). Finishes (turn_of t e) K f r) (sym v) h

module _ (K : ℕ) (f last : Record) (r : Moved) (l : last ≡ with_seen f (ended_seen f.island f.carried (collected f))) where
  pub went_lem : (t : Coded.Turn) → t ≡ M → r ≡ begins 3 last.highest 0 last last.best (Went last.highest 0 last.best)
      → (e : Flag) → Finishes (turn_of t e) K f r
  unfolding Finishes begins fields with_seen noting changed island_at_lem figure_at_lem turn_of
  went_lem t v q e =
      of_turn K f r t M e v
      (subst (Advanced _ _) (sym (q ∙ ap (λ (g : Record). begins 3 g.highest 0 g g.best (Went g.highest 0 g.best)) l))
      (end_m K _ _ _ (collected f)))

  pub marked_lem : (t : Coded.Turn) → t ≡ A → r ≡ marks last (eqb last.seen 1) → (e : Flag) → Finishes (turn_of t e) K f r
  unfolding Finishes marks begins fields with_seen noting changed figure_at_lem number_at turn_of
  marked_lem t v q e =
      of_turn K f r t A e v
      (subst (Advanced _ _) (sym (q ∙ ap (λ (g : Record). marks g (eqb g.seen 1)) l)) (end_a K _ _ _ (collected f)))

module _ (K : ℕ) (f last : Record) (w : Figure) (r : Moved)
    (l : last ≡ with_seen f (ended_seen f.island f.carried (collected f)))
    (u : w ≡ last.best) where
  -- the collect of B: both ways go on from the last record and its best figure
  of_last : (e : Flag) (m : ℕ → Figure → Move Figure)
      → m f.island (figure_at_lem K f f.island f.carried (collected f))
      ≡ ended K (turn_b e) f.island f.carried (collected f)
      → Advanced last (m last.island w) r → Finishes (turn_b e) K f r
  unfolding Finishes with_seen noting changed figure_at_lem
  of_last e m p a =
      subst (λ (m : Move Figure). Advanced f m r) p
      (over_seen f _ _ r (subst (λ (g : Record). Advanced g (m g.island g.best) r) l
      (subst (λ (x : Figure). Advanced last (m last.island x) r) u a)))

  pub settled : (t : Coded.Turn) → t ≡ B → last.seen ≡ 2 → Advanced last (decision last.island w) r → (e : Flag)
      → Finishes (turn_of t e) K f r
  unfolding Finishes with_seen noting changed number_at turn_of
  settled t v n a e =
      of_turn K f r t B e v
      (of_last e decision (end_decided K _ _ _ e (collected f) (ap (λ (g : Record). g.seen) (sym l) ∙ n)) a)

  pub went_on : (t : Coded.Turn) → t ≡ B → (last.seen ≡ 2 → ⊥) → Advanced last (onward K last.island w) r → (e : Flag)
      → Finishes (turn_of t e) K f r
  unfolding Finishes with_seen noting changed number_at turn_of
  went_on t v n a e =
      of_turn K f r t B e v
      (of_last e (onward K) (end_onward K _ _ _ e (collected f) (λ s. n (ap (λ (g : Record). g.seen) l ∙ s))) a)
