-- What an access tells of filled registers, and what its record then says that it has met: for a write, for a read in
-- the middle of a collect, and for its end. The move knows nothing of it.
-- Relies on Ready and the listing's moves; the law of an accepted step relies on it.
use Rattle.model.proofs.Kit.{◌≡◌, refl, sym, ap, subst, ◌∙◌, Bool, true, false, cond, Option, ℕ, zero, suc, ◌+◌, ◌≤◌}
use Rattle.model.proofs.Kit.{List, length, not, eqb, eqb-true, eqb-false, ◌<◌, arith}
use mir.Val.{bool_byte}
use Rattle.model.proofs.Basics.Tests.{by_test}
use Rattle.std.specs.Prelude.{Some, None}
use Rattle.model.specs.declared.Record.{Record}
use Rattle.model.specs.declared.Register as Fields
use Rattle.model.specs.declared.StepAnswer.{StepAnswer}
use Rattle.model.specs.declared.StepAnswer.TheVariants.{Wrote, Read}
use Rattle.model.specs.Bytes.{byte}
use Rattle.model.specs.Figure.{Figure, figures}
use Rattle.model.specs.Listing.{Register, Turn, Seen, Stage, writing, reading, has_decided, is_spent, active}
use Rattle.model.specs.Listing.{Move, stay, move, see}
use Rattle.model.specs.Listing as listing
use Rattle.model.specs.Filled.{filled_in, met_with, met_kept_at, reported, report}
use Rattle.model.specs.Layout.{register_value, fields, record_fields, changed}
use Rattle.model.specs.Sound.{most_met}
use Rattle.model.specs.Told.{told}
use Rattle.model.proofs.Listing.Cases.{ended_case, read_case}
use Rattle.model.proofs.Listing.Going.{Going}
use Rattle.model.proofs.Listing.Written.{read_writes}
use Rattle.codec.specs.Parts.{meeting, met_read}
use Rattle.codec.proofs.Laws.Stores.{met_read_lem}
use Rattle.archipelago.specs.declared.Moved.{Moved}
use Rattle.archipelago.specs.Advanced.{Written, Advanced}
use Rattle.accessing.proofs.Laws.Ready.{never_both}
use Rattle.accessing.proofs.Laws.Putting.{ended_rests}

-- an empty register is the one whose mark is 0
pub empty_met : (g : Fields.Register) → g.mark ≡ 0 → filled_in (register_value g) ≡ 0
unfolding register_value filled_in
empty_met g e = by_mark g.mark e
  where
    by_mark : (k : ℕ) → k ≡ 0
        → filled_in (register_value (record { mark = k; island = g.island; figure = g.figure })) ≡ 0
    by_mark zero q = refl
    by_mark (suc k) q = absurd (omega arith)

pub filled_met : (g : Fields.Register) → (g.mark ≡ 0 → ⊥) → filled_in (register_value g) ≡ 1
unfolding register_value filled_in
filled_met g e = by_mark g.mark e
  where
    by_mark : (k : ℕ) → (k ≡ 0 → ⊥)
        → filled_in (register_value (record { mark = k; island = g.island; figure = g.figure })) ≡ 1
    by_mark zero q = absurd (q refl)
    by_mark (suc k) q = refl

-- as a number that the code adds
filled_told : (g : Fields.Register) (x : ℕ) → x ≡ bool_byte (not (eqb g.mark 0)) → x ≡ filled_in (register_value g)
filled_told g x e =
    by_test (eqb g.mark 0)
    (λ t. e ∙ ap (λ (b : Bool). bool_byte (not b)) t ∙ sym (empty_met g (eqb-true g.mark 0 t)))
    (λ t. e ∙ ap (λ (b : Bool). bool_byte (not b)) t ∙ sym (filled_met g (eqb-false g.mark 0 t)))

-- the count that stands on the board b at `at`, with the register g
module _ (b : List ℕ) (at : ℕ) (h : at + 24 ≤ length b) (g : Fields.Register) (x : ℕ)
    (e : x ≡ bool_byte (not (eqb g.mark 0))) where
  pub total_is : byte b (at + 6) + x ≡ met_read at b + filled_in (register_value g)
  total_is = omega (arith, met_read_lem at b h, filled_told g x e)

  pub total_fits : met_read at b < 255 → byte b (at + 6) + x < 256
  total_fits l = omega (arith, met_read_lem at b h, at_most (not (eqb g.mark 0)))
    where
      at_most : (t : Bool) → bool_byte t ≤ 1
      at_most true = omega arith
      at_most false = omega arith

-- An answer a with the total k: y is the case that it is, with what this case has beside the total; a figure goes through
-- the machine by its bits.
pub with_figure : (y : ℕ → ℕ → Figure → StepAnswer)
    → ((c k i : ℕ) (v : Figure) → told (y c k v) ≡ report (told (y c i v)).did (told (y c i v)).met k)
    → (a : StepAnswer) (c k i : ℕ) (v w : Figure) → a ≡ y c i v → w ≡ v
    → told (y c k w) ≡ report (told a).did (told a).met k
with_figure y same a c k i v w e q =
    ap (λ (u : Figure). told (y c k u)) q ∙ same c k i v
    ∙ ap (λ (z : StepAnswer). report (told z).did (told z).met k) (sym e)

pub without : {A : Type 0} (y : A → StepAnswer) → ((x : A) (k : ℕ) → told (y x) ≡ report (told (y x)).did (told (y x)).met k)
    → (a : StepAnswer) (k : ℕ) (x : A) → a ≡ y x → told (y x) ≡ report (told a).did (told a).met k
without y same a k x e = same x k ∙ ap (λ (z : StepAnswer). report (told z).did (told z).met k) (sym e)

pub wrote_without : (a : StepAnswer) (k : ℕ) → a ≡ Wrote → told Wrote ≡ report (told a).did (told a).met k
unfolding told reported
wrote_without a k e = without {A = ℕ} (λ x. Wrote) (λ x j. refl) a k 0 e

-- the move z of the station with the record f over the register g: its collect had met `before`, and has met `total` with
-- it
module _ (f : Record) (g : Register Figure) (before : ℕ) where
  -- what the answer r tells, and the record q that is left
  abbrev Tells : (z : Move Figure) (total : ℕ) → StepAnswer → Type 0
  Tells z total r = told r ≡ report z.answer (filled_in g) total

  abbrev Leaves : (z : Move Figure) (total : ℕ) → Record → Type 0
  Leaves z total q = q ≡ record_fields (active f.proposal z.stage) (meeting (met_kept_at z.stage total) f)

  module _ (n K : ℕ) (m : Moved) where
    abbrev pub TellsAt : Stage Figure → StepAnswer → Type 0
    TellsAt s r = Tells (move figures n K s g) (met_with s g before) r

    abbrev pub LeavesAt : Stage Figure → Record → Type 0
    LeavesAt s q = Leaves (move figures n K s g) (met_with s g before) q

    -- before a write nothing has been met
    pub write_met : (s : Stage Figure) → Going s → before ≤ most_met (active f.proposal s)
        → Advanced f (move figures n K s g) m → (w : Fields.Register) → m.written ≡ Some w
        → TellsAt s Wrote × LeavesAt s (meeting before m.station)
    unfolding move most_met met_with met_kept_at reported told record_fields fields changed Written
    write_met (writing t c x) h few a w q =
        let none : before ≡ 0 = omega arith in (refl, (λ i. meeting (none i) (a.station i)))
    write_met (reading t c x p b) h few a w q =
        never_both m w
        (subst (λ (o : Option (Register Figure)). Written o m) (read_writes K figures n t c x p b g) a.written) q
    write_met (has_decided c x) h few a w q = absurd h
    write_met (is_spent c x) h few a w q = absurd h

    -- the end of a collect tells the total and has met nothing any more
    module _ (w : m.written ≡ None) (r : StepAnswer) (k : ℕ) (e : told r ≡ report (told m.answer).did (told m.answer).met k)
        (sum : k ≡ before + filled_in g) (rests : m.station.position ≡ 0) where
      abbrev Ended : Move Figure → Type 0
      Ended z = Advanced f z m → Tells z (before + filled_in g) r × Leaves z (before + filled_in g) (meeting 0 m.station)

      at_end : (z : Move Figure) → reported z.answer (reported z.answer 0 0) k ≡ reported z.answer (filled_in g) k
          → meeting 0 (record_fields (active f.proposal z.stage) f)
          ≡ record_fields (active f.proposal z.stage) (meeting (met_kept_at z.stage (before + filled_in g)) f)
          → Ended z
      at_end z q l a = (
        e ∙ (λ i. report (a.answer i).did (a.answer i).met k) ∙ (λ i. record { did = z.answer; met = q i })
            ∙ (λ i. report z.answer (filled_in g) (sum i)),
        ap (meeting 0) a.station ∙ l,
      )

      pub end_met : (s : Stage Figure) → Going s → Advanced f (move figures n K s g) m
          → TellsAt s r × LeavesAt s (meeting 0 m.station)
      unfolding move stay met_with met_kept_at reported record_fields fields changed Written
      end_met (writing t c x) h a = never_both m _ w a.written
      end_met (reading t c x p b) h a =
          read_case K Ended c t x figures n p b g
          (λ l o. absurd (let q : p + 1 ≡ 0 = sym (ap (λ (z : Record). z.position) o.station) ∙ rests in omega arith))
          (λ l. ended_case K Ended c t x _ (record {
            goes = at_end _ refl refl;
            marks = λ d. at_end _ refl refl;
            decides = at_end _ refl refl;
            adopts = λ d. at_end _ refl refl;
            spends = at_end _ refl refl;
          })) a
      end_met (has_decided c x) h a = absurd h
      end_met (is_spent c x) h a = absurd h

    -- a read before the last tells its register, which is counted if it is filled
    module _ (w : m.written ≡ None) (goes : m.station.position ≡ 0 → ⊥) (l : Bool) (k : ℕ)
        (here : cond l 1 0 ≡ filled_in g) (sum : k ≡ before + filled_in g) where
      abbrev Collected : Move Figure → Type 0
      Collected z =
          Advanced f z m
          → Tells z (before + filled_in g) (Read l) × Leaves z (before + filled_in g) (meeting k m.station)

      pub collect_met : (s : Stage Figure) → Going s → Advanced f (move figures n K s g) m
          → TellsAt s (Read l) × LeavesAt s (meeting k m.station)
      unfolding move stay met_with met_kept_at reported told record_fields fields changed Written
      collect_met (writing t c x) h a = never_both m _ w a.written
      collect_met (reading t c x p b) h a =
          read_case K Collected c t x figures n p b g
          (λ d o. (
            (λ i. report (stay (reading t c x (p + 1) (see figures t b g)) listing.read).answer (here i) before),
            (λ i. meeting (sum i) (o.station i)),
          ))
          (λ d o. absurd (goes (ap (λ (z : Record). z.position) o.station
          ∙ ended_rests K f.proposal f t c x (see figures t b g)))) a
      collect_met (has_decided c x) h a = absurd h
      collect_met (is_spent c x) h a = absurd h
