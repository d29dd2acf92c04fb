-- One move on a record's fields, from its parts: what the branches of `advance`, its write and its reads return is the
-- listing's move. Relies on OneRead and Ends; the proofs of src/lib.rt rely on it.
use Rattle.model.proofs.Kit.{◌≡◌, refl, sym, ap, subst, ◌∙◌, Bool, true, false, [], ◌∷◌, ℕ, ◌+◌, ◌≤◌, ◌<◌, ltb, w8}
use Rattle.model.proofs.Kit.{Fits, arith}
use Rattle.std.specs.Prelude.{Some}
use Rattle.model.specs.declared.Record.{Record}
use Rattle.model.specs.declared.Register as Fields
use Rattle.model.specs.declared.StepAnswer.TheVariants.{Read}
use Rattle.model.specs.Figure.{Figure, figures}
use Rattle.model.specs.Listing.{Turn, turn_m, turn_a, turn_b, Seen, Station, Stage, reading, active, Register}
use Rattle.model.specs.Listing.{flag_of, flag_number, entry, stay, ended, see, move}
use Rattle.model.specs.Listing as listing
use Rattle.model.specs.Layout.{fields, flag_byte, record_fields, record_value, register_fields, register_value}
use Rattle.model.specs.Layout.{writing_of, reading_of, of_phase, changed, phase_is, seen_is, highest_is, best_is}
use Rattle.model.specs.Filled.{reported}
use Rattle.model.specs.Told.{told}
use Rattle.archipelago.specs.declared.Moved.{Moved}
use Rattle.collect.specs.Collected.{collected, noting, with_seen, Kept, seeing}
use Rattle.archipelago.specs.Advanced.{Advanced, Written, Ready, Reads, Moves, MovesReading, Finishes, staying}
use Rattle.archipelago.specs.Advanced.{passing, writing}
use Rattle.collect.proofs.OneRead.{collected_with, kept_with}
use Rattle.archipelago.proofs.Ends.{over_seen}

-- ---- reads

module _ (t : Turn) (n : ℕ) (f : Record) (reads : Reads t n f) where
  pub reads_kept : Kept f
  unfolding Kept with_seen noting changed record_fields fields
  reads_kept =
      let e = reads.whole in
      λ i. changed (seen_is (e i).seen ∷ highest_is (e i).highest ∷ best_is (e i).best ∷ []) f

  -- a read that is not the last, by the test b of whether the collect goes on
  pub passed : (K : ℕ) (g : Fields.Register) (next : Record) (r : Moved) (b : Bool) → b ≡ ltb (f.position + 1) n
      → b ≡ true
      → next ≡ seeing t f g → r ≡ passing next → MovesReading t n K f g r
  unfolding MovesReading move stay Written told reported passing staying seeing with_seen noting changed record_fields fields
  passed K g next r b d h q p =
      let e = reads.whole in
      let a = see figures t (collected f) (register_value g) in
      rw (sym d ∙ h)
      (subst (Advanced _ _) (sym (p ∙ ap passing q
      ∙ ap (λ (z : Record). staying
      (fields z.phase (f.position + 1) f.island a z.flag f.proposal f.carried f) (Read false)) (sym e)))
      (record { station = refl; written = refl; answer = refl }))

-- the record that a collect ends with is kept too
pub seeing_kept : (t : Turn) (f next : Record) (g : Fields.Register) → next ≡ seeing t f g → Kept next
unfolding seeing
seeing_kept t f next g q = subst Kept (sym q) (kept_with f _)

-- its position can be passed
pub seeing_position : (t : Turn) (n : ℕ) (f next : Record) (g : Fields.Register) → next ≡ seeing t f g → Reads t n f
    → Fits w8 n
    → next.position < 255
unfolding seeing with_seen noting changed
seeing_position t n f next g q reads h =
    subst (λ (f : Record). f.position < 255) (sym q) (omega (arith, reads.position, h.fits))

-- and it is on the same island
pub seeing_island : (t : Turn) (f next : Record) (g : Fields.Register) (K : ℕ) → next ≡ seeing t f g → f.island < K
    → next.island < K
unfolding seeing with_seen noting changed
seeing_island t f next g K q h = subst (λ (f : Record). f.island < K) (sym q) h

-- the last read
pub finished : (t : Turn) (n K : ℕ) (f : Record) (g : Fields.Register) (next : Record) (r : Moved) (b : Bool)
    → b ≡ ltb (f.position + 1) n → b ≡ false → next ≡ seeing t f g → Finishes t K next r → MovesReading t n K f g r
unfolding MovesReading Finishes move seeing with_seen noting changed
finished t n K f g next r b d h q a =
    rw (sym d ∙ h)
    (subst (λ (b : Seen Figure). Advanced f (ended K t f.island f.carried b) r) (collected_with f _)
    (over_seen f _ _ r
    (subst (λ (f : Record). Advanced f (ended K t f.island f.carried (collected f)) r) q a)))

-- ---- writes

pub wrote : (t : Turn) (n K : ℕ) (f : Record) (g : Fields.Register) (mark island : ℕ) (r : Moved)
    → record_fields (active f.proposal (listing.writing t f.island f.carried)) f ≡ f
    → register_fields (entry t f.island f.carried) ≡ (record { mark = mark; island = island; figure = f.carried })
    → r ≡ writing f mark island
    → Advanced f (move figures n K (listing.writing t f.island f.carried) (register_value g)) r
unfolding move Written told reported writing changed record_fields fields
wrote t n K f g mark island r e w q =
    subst (Advanced _ _) (sym q)
    (record {
      station = ap (λ (z : Record). changed (phase_is (z.phase + 1) ∷ []) z) (sym e);
      written = ap (λ (o : Fields.Register). Some o) (sym w);
      answer = refl;
    })

-- ---- the phases

-- the stage that a record stands for is the only one
pub moved_as : (n K : ℕ) (f : Record) (g : Fields.Register) (r : Moved) (s : Stage Figure)
    → record_value f ≡ active f.proposal s
    → Advanced f (move figures n K s (register_value g)) r → Moves n K f g r
unfolding Moves
moved_as n K f g r s e a v z d =
    let stage : s ≡ z = cc in subst (λ (z : Stage Figure). Advanced f (move figures n K z (register_value g)) r) stage a

module _ (f : Record) where
  at_phase : (p : ℕ) → f.phase ≡ p → record_value f ≡ of_phase p f
  unfolding record_value
  at_phase p e = ap (λ (p : ℕ). of_phase p f) e

  pub Writes : Turn → Type 0
  Writes t = record_value f ≡ active f.proposal (listing.writing t f.island f.carried)

  pub Collects : Turn → Type 0
  Collects t = record_value f ≡ active f.proposal (reading t f.island f.carried f.position (collected f))

  pub phase_1 : f.phase ≡ 1 → Writes turn_m
  unfolding Writes of_phase writing_of
  phase_1 e = at_phase 1 e

  pub phase_2 : f.phase ≡ 2 → Collects turn_m
  unfolding Collects of_phase reading_of collected
  phase_2 e = at_phase 2 e

  pub phase_3 : f.phase ≡ 3 → Writes turn_a
  unfolding Writes of_phase writing_of
  phase_3 e = at_phase 3 e

  pub phase_4 : f.phase ≡ 4 → Collects turn_a
  unfolding Collects of_phase reading_of collected
  phase_4 e = at_phase 4 e

  pub phase_5 : f.phase ≡ 5 → Writes (turn_b (flag_of f.flag))
  unfolding Writes of_phase writing_of
  phase_5 e = at_phase 5 e

  pub phase_6 : f.phase ≡ 6 → Collects (turn_b (flag_of f.flag))
  unfolding Collects of_phase reading_of collected
  phase_6 e = at_phase 6 e

module _ (n K : ℕ) (f : Record) (ready : Ready n K f) where
  pub ready_reads : (t : Turn) → Collects f t → Reads t n f
  unfolding Collects
  ready_reads t e = record {
    whole = ap (λ (s : Station Figure). record_fields s f) (sym e) ∙ ready.whole;
    position = ready.position;
  }

  ready_writes : (t : Turn) → Writes f t
      → record_fields (active f.proposal (listing.writing t f.island f.carried)) f ≡ f
  unfolding Writes
  ready_writes t e = ap (λ (s : Station Figure). record_fields s f) (sym e) ∙ ready.whole

  module _ (g : Fields.Register) (r : Moved) where
    pub read_moves : (t : Turn) → Collects f t → MovesReading t n K f g r → Moves n K f g r
    unfolding Collects MovesReading
    read_moves t e a = moved_as n K f g r _ e a

    pub wrote_m : f.phase ≡ 1 → r ≡ writing f 1 f.island → Moves n K f g r
    unfolding Writes register_fields entry flag_number
    wrote_m e q =
        moved_as n K f g r _ (phase_1 f e)
        (wrote turn_m n K f g 1 f.island r (ready_writes turn_m (phase_1 f e)) refl q)

    pub wrote_a : f.phase ≡ 3 → r ≡ writing f 1 0 → Moves n K f g r
    unfolding Writes register_fields entry flag_number
    wrote_a e q =
        moved_as n K f g r _ (phase_3 f e) (wrote turn_a n K f g 1 0 r (ready_writes turn_a (phase_3 f e)) refl q)

    pub wrote_b : f.phase ≡ 5 → r ≡ writing f f.flag 0 → Moves n K f g r
    unfolding Writes register_fields entry record_fields fields changed flag_byte
    wrote_b e q =
        let whole = ready_writes (turn_b (flag_of f.flag)) (phase_5 f e) in
        moved_as n K f g r _ (phase_5 f e)
        (wrote (turn_b (flag_of f.flag)) n K f g f.flag 0 r whole
        (λ i. record { mark = (whole i).flag; island = 0; figure = f.carried }) q)

  pub last_phase : (f.phase ≡ 1 → ⊥) → (f.phase ≡ 2 → ⊥) → (f.phase ≡ 3 → ⊥) → (f.phase ≡ 4 → ⊥)
      → (f.phase ≡ 5 → ⊥) → f.phase ≡ 6
  last_phase a b c d e = phase_of f.phase ready.begun ready.going a b c d e
    where
      phase_of : (p : ℕ) → 1 ≤ p → p ≤ 6 → (p ≡ 1 → ⊥) → (p ≡ 2 → ⊥) → (p ≡ 3 → ⊥) → (p ≡ 4 → ⊥) → (p ≡ 5 → ⊥) → p ≡ 6
      phase_of p l h a b c d e = omega arith
