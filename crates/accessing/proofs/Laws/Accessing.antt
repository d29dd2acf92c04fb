-- An accepted step: where it reads and writes lies on the board, and what is put back is what the model's access puts.
-- Relies on Ready, Putting, Met and the promise of `move_station`; the proof of `access` relies on it.
use Rattle.model.proofs.Kit.{◌≡◌, refl, sym, ap, subst, ◌∙◌, true, false, List, Option, ℕ, zero, suc, ◌+◌, ◌≤◌, ◌<◌}
use Rattle.model.proofs.Kit.{[], ◌∷◌, length, arith}
use Rattle.std.specs.Prelude.{Some, None}
use Rattle.model.specs.declared.Record.{Record}
use Rattle.model.specs.declared.Register as Fields
use Rattle.model.specs.Bytes.{part, splice, digits}
use Rattle.model.specs.Figure.{Figure, figures, figure_bytes}
use Rattle.model.specs.Listing.{Turn, turn_m, turn_a, turn_b, Register, Stage, writing, reading, has_decided, is_spent}
use Rattle.model.specs.Listing.{Station, active, move, place_array, place_column}
use Rattle.model.specs.Layout.{register_at, record_at, read_register, lay_register, register_value, lay_record, record_fields}
use Rattle.model.specs.Layout.{record_value, writing_of, reading_of, of_phase, register_of, read_record}
use Rattle.model.specs.Layout.{Change, put_changes, met_is, changed}
use Rattle.model.specs.Sound.{most_met}
use Rattle.model.specs.Filled.{filled_in, report}
use Rattle.model.specs.Calls.{put_record, put_register}
use Rattle.model.proofs.Board.Codec.{length_record}
use Rattle.model.proofs.Basics.Splices.{length_splice, part_same, part_after}
use Rattle.model.proofs.Board.Places.{InBoard, register_inside, register_fits, record_inside}
use Rattle.model.proofs.Board.Values.{array_inside}
use Rattle.model.proofs.Listing.Going.{Going}
use Rattle.model.proofs.Listing.Written.{read_writes}
use Rattle.model.proofs.Board.Changes.{all_put, put_back}
use Rattle.codec.specs.Parts.{meeting, met_read, phase_part, collected_part, started_part}
use Rattle.archipelago.specs.declared.Moved.{Moved}
use Rattle.archipelago.specs.Advanced.{Ready, Written, Advanced, Moves}
use Rattle.model.specs.declared.StepAnswer.{StepAnswer}
use Rattle.model.specs.declared.StepAnswer.TheVariants.{Wrote, Read}
use Rattle.model.specs.Told.{told}
use Rattle.accessing.specs.Accessed.{Touches, register_on, move_on, total_on, record_on, Accesses}
use Rattle.accessing.specs.Accessed.{OnSize, Stands}
use Rattle.accessing.proofs.Laws.Ready.{never_both, put_written_lem, put_nothing}
use Rattle.accessing.proofs.Laws.Putting.{write_changes, read_changes, move_changes}
use Rattle.accessing.proofs.Laws.Met.{TellsAt, LeavesAt, empty_met, filled_met, write_met, end_met, collect_met}

-- the stage that a ready record stands for, and its place on the board
pub record Standing (n K j : ℕ) (f : Record) : Type 0 where
  pub stage : Stage Figure
  pub stands : record_value f ≡ active f.proposal stage
  pub goes : Going stage
  pub inside : InBoard K (place_array stage)
  pub column : place_column j stage < n

module _ (n K j : ℕ) (f : Record) (h : Ready n K f) (own : j < n) where
  write_stands : (t : Turn) → record_value f ≡ writing_of t f → Standing n K j f
  unfolding writing_of place_array place_column
  write_stands t e = record {
    stage = writing t f.island f.carried;
    stands = e;
    goes = tt;
    inside = array_inside K t f.island h.island;
    column = own;
  }

  read_stands : (t : Turn) → record_value f ≡ reading_of t f → Standing n K j f
  unfolding reading_of place_array place_column
  read_stands t e = record {
    stage = reading t f.island f.carried f.position _;
    stands = e;
    goes = tt;
    inside = array_inside K t f.island h.island;
    column = h.position;
  }

  by_phase : (k : ℕ) → f.phase ≡ k → Standing n K j f
  unfolding record_value of_phase
  by_phase zero e = absurd (omega (arith, h.begun))
  by_phase (suc zero) e = write_stands turn_m (ap (λ (m : ℕ). of_phase m f) e)
  by_phase (suc (suc zero)) e = read_stands turn_m (ap (λ (m : ℕ). of_phase m f) e)
  by_phase (suc (suc (suc zero))) e = write_stands turn_a (ap (λ (m : ℕ). of_phase m f) e)
  by_phase (suc (suc (suc (suc zero)))) e = read_stands turn_a (ap (λ (m : ℕ). of_phase m f) e)
  by_phase (suc (suc (suc (suc (suc zero))))) e = write_stands (turn_b _) (ap (λ (m : ℕ). of_phase m f) e)
  by_phase (suc (suc (suc (suc (suc (suc zero)))))) e = read_stands (turn_b _) (ap (λ (m : ℕ). of_phase m f) e)
  by_phase (suc (suc (suc (suc (suc (suc (suc k))))))) e = absurd (omega (arith, h.going))

  pub standing : Standing n K j f
  standing = by_phase f.phase refl

pub place_fits : (n K j : ℕ) (f : Record) (b : List ℕ) (r : ℕ) → Ready n K f → OnSize n K j b → Touches n j f r
    → r + 8 ≤ length b
unfolding Touches
place_fits n K j f b r h z t =
    let s = standing n K j f h z.own in
    omega (
      arith,
      register_fits n K (place_array s.stage) (place_column j s.stage) s.inside s.column,
      t
          s.stage s.stands,
      z.len,
    )

pub record_fits : (n K j : ℕ) (b : List ℕ) (at : ℕ) → OnSize n K j b → at ≡ record_at n K j → at + 24 ≤ length b
record_fits n K j b at z e = omega (arith, record_inside n K j z.own, z.len)

length_put : (at : ℕ) (r : Fields.Register) (b d : List ℕ) → at + 8 ≤ length b → d ≡ splice at (lay_register r) b
    → length d ≡ length b
unfolding lay_register figure_bytes digits
length_put at r b d h e = ap length e ∙ length_splice at (lay_register r) b h

pub record_fits_after : (n K j : ℕ) (f : Record) (b e : List ℕ) (place at : ℕ) (r : Fields.Register) → Ready n K f
    → OnSize n K j b → Touches n j f place
    → at ≡ record_at n K j → e ≡ splice place (lay_register r) b → at + 24 ≤ length e
record_fits_after n K j f b e place at r h z t q p =
    omega (arith, record_fits n K j b at z q, length_put place r b e (place_fits n K j f b place h z t) p)

-- ---- what is put back

module _ (n K j : ℕ) (f : Record) (b : List ℕ) (place at : ℕ) (g : Fields.Register) (m : Moved) (h : Ready n K f)
    (z : OnSize n K j b)
    (t : Touches n j f place) (eg : g ≡ read_register (part place 8 b)) (a : Moves n K f g m)
    (o : Stands n K j at f b) where
  here : Standing n K j f
  here = standing n K j f h z.own

  -- the register that the code read there, and what the move over it gave
  read_here : register_value g ≡ register_on n j here.stage b
  unfolding Touches register_of
  read_here =
      ap register_value eg
      ∙ ap (λ (k : ℕ). register_value (read_register (part k 8 b))) (t here.stage here.stands)

  moved : Advanced f (move_on n K j here.stage b) m
  unfolding Moves
  moved =
      subst (λ (r : Register Figure). Advanced f (move figures n K here.stage r) m) read_here
      (a f.proposal here.stage here.stands)

  -- only a write writes, and it writes the station's own register
  own_column : (s : Stage Figure) → Written (move_on n K j s b).written m → (w : Fields.Register) → m.written ≡ Some w
      → place_column j s ≡ j
  unfolding place_column Written
  own_column (writing u c x) q w e = refl
  own_column (reading u c x p r) q w e =
      never_both m w (subst (λ (o : Option (Register Figure)). Written o m) (read_writes K figures n u c x p r _) q) e
  own_column (has_decided c x) q w e = refl
  own_column (is_spent c x) q w e = refl

  -- what is to be shown of an answer r and the record q that is put back, the register standing in the bytes e
  abbrev Told : StepAnswer → Type 0
  Told r = TellsAt f (register_on n j here.stage b) (met_read at b) n K m here.stage r

  abbrev Left : Record → Type 0
  Left q = LeavesAt f (register_on n j here.stage b) (met_read at b) n K m here.stage q

  accessed : (r : StepAnswer) (q : Record) (e d : List ℕ) → Told r × Left q
      → e ≡ put_register n (place_array here.stage) j (move_on n K j here.stage b).written b
      → d ≡ splice at (lay_record q) e → Accesses n K j at f b r d
  unfolding Accesses put_record
  accessed r q e d is put ed s es =
      let same : here.stage ≡ s = let stands = here.stands in cc in
      subst (λ (s : Stage Figure). (told r ≡ report (move_on n K j s b).answer (filled_in (register_on n j s b))
      (total_on n j at s b)) × (d ≡ put_record n K j (record_on n K j at f s b)
      (put_register n (place_array s) j (move_on n K j s b).written b))) same
      (is.0, ed ∙ (λ i. splice (o.place i) (lay_record (is.1 i)) (put i)))

  -- the record by the fields of its stage
  laid : f ≡ record_fields (active f.proposal here.stage) f
  laid = sym h.whole ∙ ap (λ (s : Station Figure). record_fields s f) here.stands

  -- fields other than what was met, changed in the record that stands there
  over : (cs : List Change) (q : Record) → changed cs f ≡ q
      → meeting (met_read at b) (changed cs f) ≡ changed cs (meeting (met_read at b) f)
      → changed cs (meeting (met_read at b) f) ≡ meeting (met_read at b) q
  over cs q e c = sym c ∙ ap (meeting (met_read at b)) e

  -- a register stands before the records, so a write to it leaves the record
  beside : (r : Fields.Register) (e : List ℕ) → e ≡ splice place (lay_register r) b
      → part at 24 e ≡ lay_record (meeting (met_read at b) f)
  unfolding Touches lay_register figure_bytes digits
  beside r e q =
      let before = register_inside n K (place_array here.stage) (place_column j here.stage) j here.inside
      here.column in
      let there = t here.stage here.stands in
      ap (part at 24) q
      ∙ part_after place (lay_register r) b (place_fits n K j f b place h z t) at 24 (omega arith)
      (record_fits n K j b at z o.place) ∙ o.laid

  -- only the part that changed put back: over the rest, which stands there, it makes the whole record
  pub accessed_writing : (e d : List ℕ) (w : Fields.Register) → m.written ≡ Some w → e ≡ splice place (lay_register w) b
      → d ≡ put_changes (phase_part m.station) at e → Accesses n K j at f b Wrote d
  unfolding Touches phase_part changed
  accessed_writing e d w q ee ed =
      let s = here.stage in
      let put = ee ∙ ap (λ (k : ℕ). splice k (lay_register w) b)
      (t s here.stands ∙ ap (register_at n (place_array s)) (own_column s moved.written w q))
      ∙ sym (put_written_lem n (place_array s) j b m _ moved.written w q) in
      accessed Wrote (meeting (met_read at b) m.station) e d
      (write_met f _ _ n K m s here.goes (rw here.stands at o.met) moved w q) put
      (ed ∙ put_back at e (record_fits_after n K j f b e place at w h z t o.place ee) _ _ _
      (beside w e ee) (over (phase_part m.station) _ (write_changes n K f _ m s laid moved w q) refl))

  -- ---- reads, and what the collect has met by them

  met_few : met_read at b ≤ 15
  unfolding most_met place_column
  met_few = by_stage here.stage (rw here.stands at o.met) here.column
    where
      by_stage : (s : Stage Figure) → met_read at b ≤ most_met (active f.proposal s) → place_column j s < n
          → met_read at b ≤ 15
      by_stage (writing u c x) k l = omega arith
      by_stage (reading u c x p e) k l = omega (arith, z.stations)
      by_stage (has_decided c x) k l = omega arith
      by_stage (is_spent c x) k l = omega arith

  pub total_room : met_read at b < 255
  total_room = omega (arith, met_few)

  module _ (q : m.written ≡ None) where
    unwritten : b ≡ put_register n (place_array here.stage) j (move_on n K j here.stage b).written b
    unwritten = sym (put_nothing n (place_array here.stage) j b m _ moved.written q)

    pub accessed_ending : m.station.position ≡ 0 → (k : ℕ) → k ≡ met_read at b + filled_in (register_value g)
        → (r : StepAnswer) → told r ≡ report (told m.answer).did (told m.answer).met k
        → (d : List ℕ) → d ≡ put_changes (started_part m.station) at b → Accesses n K j at f b r d
    unfolding started_part collected_part changed
    accessed_ending rests k sum r e d ed =
        let total = sum ∙ ap (λ (x : Register Figure). met_read at b + filled_in x) read_here in
        accessed r (meeting 0 m.station) b d
        (end_met f _ _ n K m q r k e total rests here.stage here.goes moved) unwritten
        (ed ∙ put_back at b (record_fits n K j b at z o.place) _ _ _ o.laid
        (move_changes n K f _ m here.stage moved))

    -- the record after what a read in the middle of a collect has seen was put back
    module _ (l : m.station.position ≡ 0 → ⊥) (c : List ℕ) (ec : c ≡ put_changes (collected_part m.station) at b) where
      seen : Record
      seen = meeting (met_read at b) m.station

      seen_put : c ≡ splice at (lay_record seen) b
      unfolding seen collected_part changed
      seen_put =
          ec ∙ put_back at b (record_fits n K j b at z o.place) _ _ _ o.laid
          (over (collected_part m.station) _ (read_changes n K f _ m here.stage laid moved q l) refl)

      pub accessed_empty : g.mark ≡ 0 → Accesses n K j at f b (Read false) c
      unfolding seen
      accessed_empty e =
          let none = sym (empty_met g e) ∙ ap filled_in read_here in
          accessed (Read false) seen b c
          (collect_met f _ _ n K m q l false (met_read at b) none (omega arith) here.stage here.goes moved)
          unwritten seen_put

      count_inside : at + length (lay_record seen) ≤ length b
      count_inside = omega (arith, length_record seen, record_fits n K j b at z o.place)

      pub count_fits : at + 24 ≤ length c
      count_fits =
          omega (
            arith,
            record_fits n K j b at z o.place,
            ap length seen_put ∙ length_splice at (lay_record seen) b count_inside,
          )

      met_there : met_read at c ≡ met_read at b
      unfolding seen read_record lay_record changed
      met_there =
          ap (met_read at) seen_put
          ∙ ap (λ (k : ℕ). (read_record (part at k (splice at (lay_record seen) b))).met) (sym (length_record seen))
          ∙ ap (λ (r : List ℕ). (read_record r).met) (part_same at (lay_record seen) b count_inside)

      pub count_room : met_read at c < 255
      count_room = omega (arith, met_there, met_few)

      pub accessed_filled : (g.mark ≡ 0 → ⊥) → (d : List ℕ) → d ≡ put_changes (met_is (met_read at c + 1) ∷ []) at c
          → Accesses n K j at f b (Read true) d
      unfolding seen changed
      accessed_filled ne d ed =
          let one = sym (filled_met g ne) ∙ ap filled_in read_here in
          accessed (Read true) (meeting (met_read at c + 1) seen) b d
          (collect_met f _ _ n K m q l true (met_read at c + 1) one (omega (arith, met_there)) here.stage
          here.goes moved)
          unwritten
          (ed ∙ ap (put_changes (met_is (met_read at c + 1) ∷ []) at) seen_put
          ∙ all_put at b (record_fits n K j b at z o.place) (met_is (met_read at c + 1) ∷ []) seen)
