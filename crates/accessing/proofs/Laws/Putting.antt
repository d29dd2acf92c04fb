-- What a move changes in a station's record: a write the phase alone, a read in the middle of a collect what it has
-- seen, and no move the proposal. Relies on Ready, the listing's move and the codec's parts of a record; the law of an
-- accepted step relies on it, which puts back only what changed.
use Rattle.model.proofs.Kit.{◌≡◌, refl, sym, ap, subst, ◌∙◌, List, Option, ℕ, ◌+◌, ltb}
use Rattle.std.specs.Prelude.{Some, None}
use Rattle.model.specs.declared.Record.{Record}
use Rattle.model.specs.declared.Register as Fields
use Rattle.model.specs.Figure.{Figure, figures}
use Rattle.model.specs.Listing.{Turn, Register, Seen, Stage, writing, reading, has_decided, is_spent, active}
use Rattle.model.specs.Listing.{Move, stay, ended, see, move}
use Rattle.model.specs.Layout.{fields, record_fields, Change, changed}
use Rattle.model.proofs.Basics.Tests.{cond_case}
use Rattle.model.proofs.Listing.Cases.{ended_case}
use Rattle.model.proofs.Listing.Written.{read_writes}
use Rattle.codec.specs.Parts.{meeting, phase_part, collected_part, started_part}
use Rattle.archipelago.specs.declared.Moved.{Moved}
use Rattle.archipelago.specs.Advanced.{Written, Advanced}
use Rattle.accessing.proofs.Laws.Ready.{never_both}

-- ---- a collect that has ended leaves the station at position 0

module _ (K : ℕ) (v : Figure) (f : Record) where
  abbrev pub Rests : Move Figure → Type 0
  Rests m = (record_fields (active v m.stage) f).position ≡ 0

  pub ended_rests : (t : Turn) (c : ℕ) (x : Figure) (a : Seen Figure) → Rests (ended K t c x a)
  unfolding stay record_fields fields changed
  ended_rests t c x a = ended_case K Rests c t x a (search)

-- ---- the record f of a station at stage s, and the record that a move leaves

module _ (n K : ℕ) (f : Record) (g : Register Figure) (m : Moved) where
  -- the record is that of its station at stage s
  abbrev Of : Stage Figure → Type 0
  Of s = f ≡ record_fields (active f.proposal s) f

  -- fields changed in f, where they are changed in an equal record
  over : (part : Record → List Change) (p q : Record) → f ≡ p → m.station ≡ q → changed (part q) p ≡ q
      → changed (part m.station) f ≡ m.station
  over part p q ep eq h = (λ i. changed (part (eq i)) (ep i)) ∙ h ∙ sym eq

  pub write_changes : (s : Stage Figure) → Of s → Advanced f (move figures n K s g) m → (w : Fields.Register)
      → m.written ≡ Some w → changed (phase_part m.station) f ≡ m.station
  unfolding move stay Written record_fields fields changed phase_part
  write_changes (writing t c x) e a w q = over phase_part _ _ e a.station refl
  write_changes (reading t c x p r) e a w q =
      never_both m w (subst (λ (o : Option (Register Figure)). Written o m) (read_writes K figures n t c x p r g) a.written) q
  write_changes (has_decided c x) e a w q = never_both m w a.written q
  write_changes (is_spent c x) e a w q = never_both m w a.written q

  pub read_changes : (s : Stage Figure) → Of s → Advanced f (move figures n K s g) m → m.written ≡ None
      → (m.station.position ≡ 0 → ⊥) → changed (collected_part m.station) f ≡ m.station
  unfolding move stay Written record_fields fields changed collected_part
  read_changes (writing t c x) e a w l = never_both m _ w a.written
  read_changes (reading t c x p r) e a w l =
      cond_case (λ (z : Move Figure). Advanced f z m → changed (collected_part m.station) f ≡ m.station)
      (ltb (p + 1) n) _ _
      (λ b o. over collected_part _ _ e o.station refl)
      (λ b o. absurd (l (ap (λ (z : Record). z.position) o.station
      ∙ ended_rests K f.proposal f t c x (see figures t r g)))) a
  read_changes (has_decided c x) e a w l = over collected_part _ _ e a.station refl
  read_changes (is_spent c x) e a w l = over collected_part _ _ e a.station refl

  -- the end of a collect puts back all but the proposal and the steps, and clears what was met
  started : (s : Stage Figure)
      → changed (started_part (record_fields (active f.proposal s) f)) f
      ≡ meeting 0 (record_fields (active f.proposal s) f)
  unfolding record_fields fields changed started_part collected_part
  started (writing t c x) = refl
  started (reading t c x p r) = refl
  started (has_decided c x) = refl
  started (is_spent c x) = refl

  pub move_changes : (s : Stage Figure) → Advanced f (move figures n K s g) m
      → changed (started_part m.station) f ≡ meeting 0 m.station
  move_changes s a =
      ap (λ (q : Record). changed (started_part q) f) a.station ∙ started _ ∙ ap (meeting 0) (sym a.station)
