-- A step on a sound board: each refusal, and the accepted step.
-- Relies on the place of a station and on the model's soundness; the proofs of `step_on` and
-- `step_going` and the laws of Going and Repeated rely on it.
use Rattle.model.proofs.Kit.{◌≡◌, refl, sym, ap, subst, ◌∙◌, true, List, [], ◌∷◌, none, some, ℕ, suc, ◌-◌, ◌≤◌, ◌<◌, T}
use Rattle.model.proofs.Kit.{get_or, ◌+◌, lit<, length, add-zero, w8, Fits, arith}
use Rattle.model.specs.declared.Record.{Record}
use Rattle.model.specs.declared.StepAnswer.{StepAnswer}
use Rattle.model.specs.declared.StepAnswer.TheVariants.{Refused}
use Rattle.model.specs.Bytes.{byte, part}
use Rattle.model.specs.Figure.{Figure}
use Rattle.model.specs.Listing.{Station, idle, active, has_decided, is_spent, accepted}
use Rattle.model.specs.Filled.{Report, refusal}
use Rattle.model.specs.Layout.{record_at, read_record, lay_record, of_phase, record_value, record_of, put_changes, steps_is}
use Rattle.model.specs.Layout.{station_of, changed}
use Rattle.model.specs.Sound.{fields_sound, record_sound, most_met}
use Rattle.model.specs.Calls.{After, Refusal, stations, islands, board_refusal, station_refusal, station_at, unless_refused}
use Rattle.model.specs.Calls.{not_going, access, stepped, step_on}
use Rattle.model.specs.Told.{told, number}
use Rattle.model.proofs.Basics.Tests.{and_l, and_r}
use Rattle.model.proofs.Basics.Numbers.{Bytes}
use Rattle.model.proofs.Basics.Splices.{length_part, byte_part}
use Rattle.model.proofs.Basics.Parts.{part-Bytes}
use Rattle.model.proofs.Board.Canon.{bytes_record}
use Rattle.model.proofs.Board.Codec.{value_beside}
use Rattle.model.proofs.Board.Values.{sound_counts}
use Rattle.model.proofs.Calls.Refusals.{board_of_lem, OnBoard, station_passes}
use Rattle.model.proofs.Calls.Accepted.{step_on_access}
use Rattle.model.proofs.Calls.StepsTaken.{steps_few}
use Rattle.model.proofs.Calls.Refused.{access_accepts}
use Rattle.std.specs.Prelude.{Ok, Err}
use Rattle.std.specs.declared.result.Result.{Result}
use Rattle.model.specs.declared.refusal.Refusal as refusals
use Rattle.soundness.specs.declared.place.Place.{Place}
use Rattle.codec.specs.Parts.{meeting, steps_read}
use Rattle.soundness.specs.Placed.{On, Placed}
use Rattle.soundness.proofs.Laws.Placing.{at_place, not_placed, own_value}
use Rattle.archipelago.specs.Advanced.{Ready}
use Rattle.accessing.specs.Accessed.{Accesses, OnSize, Stands, Known, StepsOn}
use Rattle.accessing.proofs.Laws.Accessing.{Standing, standing}
use Rattle.accessing.proofs.Laws.Counting.{steps_kept_lem, counted}
use Rattle.accessing.proofs.Laws.Ready.{ready, ready_unmet}

-- the contents of a lent slice of bytes are bytes
pub all_bytes : (b : List ℕ) → ((i : ℕ) → get_or b i 0 < 256) → Bytes b
unfolding Bytes
all_bytes [] h = tt
all_bytes (x ∷ xs) h = (h 0, all_bytes xs (λ i. h (suc i)))

-- ---- refusals

turned_down_lem : (i : ℕ) (b : List ℕ) (k : ℕ) → station_refusal i b (not_going (station_at i b)) ≡ some k
    → StepsOn i b (Refused k) b
unfolding StepsOn step_on unless_refused told
turned_down_lem i b k e = (
  ap (λ (r : Refusal). (unless_refused r refusal b (stepped (stations b) (islands b) (i - 1) (station_at i b) b)).answer)
      (sym e),
  ap (λ (r : Refusal). (unless_refused r refusal b (stepped (stations b) (islands b) (i - 1) (station_at i b) b)).bytes)
      (sym e),
)

pub no_station : (i : ℕ) (b : List ℕ) (r : Result Place refusals.Refusal) (k : refusals.Refusal) → r ≡ Err k → Placed i b r
    → StepsOn i b (Refused (number k)) b
no_station i b r k e h = turned_down_lem i b (number k) (not_placed i b r k e h _)

-- byte 0 of a record is its phase
phase_byte : (b : List ℕ) (at : ℕ) (f : Record) → f ≡ read_record (part at 24 b) → f.phase ≡ get_or b at 0
unfolding read_record
phase_byte b at f e =
    ap (λ (g : Record). g.phase) e ∙ byte_part at 24 b 0 (lit< tt) ∙ ap (λ (k : ℕ). get_or b k 0) (add-zero at)

module _ (i : ℕ) (b : List ℕ) (found : Result Place refusals.Refusal) (p : Place) (is : found ≡ Ok p)
    (h : Placed i b found) where
  abbrev j : ℕ
  j = p.index

  abbrev at : ℕ
  at = p.at

  on : On i b p.index p.at
  on = at_place i b found p is h

  on_board_lem : OnBoard i b
  unfolding stations
  on_board_lem = record { low = on.low; high = on.high }

  pub phase_inside : at < length b
  phase_inside = omega (arith, on.inside)

  abbrev own : Record
  own = read_record (part at 24 b)

  by_phase : (k : ℕ) (z : Station Figure) (m : ℕ) → get_or b at 0 ≡ k → of_phase k own ≡ z → not_going z ≡ some m
      → StepsOn i b (Refused m) b
  unfolding record_value
  by_phase k z m e q g =
      turned_down_lem i b m (station_passes i b on_board_lem _
      ∙ ap not_going (own_value i b j at on own refl
      ∙ ap (λ (k : ℕ). of_phase k own) (phase_byte b at own refl ∙ e) ∙ q) ∙ g)

  pub fourteen : get_or b at 0 ≡ 0 → StepsOn i b (Refused 14) b
  unfolding of_phase not_going
  fourteen e = by_phase 0 idle 14 e refl refl

  pub fifteen : get_or b at 0 ≡ 7 → StepsOn i b (Refused 15) b
  unfolding of_phase not_going
  fifteen e = by_phase 7 (active own.proposal (has_decided own.island own.carried)) 15 e refl refl

  pub sixteen : 6 < get_or b at 0 → (get_or b at 0 ≡ 7 → ⊥) → StepsOn i b (Refused 16) b
  unfolding of_phase not_going
  sixteen l z =
      let q : get_or b at 0 ≡ suc (suc (suc (suc (suc (suc (suc (suc (get_or b at 0 - 8)))))))) = omega arith in
      by_phase _ (active own.proposal (is_spent own.island own.carried)) 16 q refl refl

  numbered : j + 1 ≡ i
  numbered = omega (arith, on.low, on.index)

  pub known_at : board_refusal b none ≡ none → Known (get_or b 0 0) (get_or b 1 0) j at b
  known_at s = record {
    sound = s;
    on = subst (λ (k : ℕ). On k b j at) (sym numbered) on;
    stations = refl;
    islands = refl;
  }

  pub by_number : (r : StepAnswer) (d : List ℕ) → StepsOn (j + 1) b r d → StepsOn i b r d
  by_number r d = subst (λ (k : ℕ). StepsOn k b r d) numbered

-- ---- a going station, whose record f the code read at its place

module _ (n K j at : ℕ) (b : List ℕ) (k : Known n K j at b) where
  -- what is said of the size in the head is said of the size that was read
  as_read : (P : ℕ → ℕ → Type 0) → P (get_or b 0 0) (get_or b 1 0) → P n K
  as_read P x = subst (P n) (sym k.islands) (subst (λ (m : ℕ). P m (get_or b 1 0)) (sym k.stations) x)

  pub going_inside : at + 24 ≤ length b
  going_inside = k.on.inside

  size_now : OnSize (get_or b 0 0) (get_or b 1 0) j b
  size_now = record { stations = k.on.stations; islands = k.on.islands; own = k.on.own; len = k.on.len }

  pub going_size : OnSize n K j b
  going_size = as_read (λ n K. OnSize n K j b) size_now

  abbrev there : Record
  there = read_record (part at 24 b)

  module _ (f : Record) (e : f ≡ meeting 0 there) (low : 1 ≤ get_or b at 0) (high : get_or b at 0 ≤ 6) where
    same_value : record_value f ≡ record_value there
    unfolding changed
    same_value = ap record_value e ∙ value_beside there.steps 0 there

    fields : T (fields_sound (get_or b 0 0) (get_or b 1 0) (byte (part at 24 b) 0) (part at 24 b))
    unfolding stations islands record_sound record_of
    fields =
        let r = (board_of_lem b none k.sound).0.sound_board.records j k.on.own in
        subst (λ (x : ℕ). T (fields_sound (get_or b 0 0) (get_or b 1 0) (byte (part x 24 b) 0) (part x 24 b)))
        (sym k.on.place)
        (search (and_l, and_r))

    -- its collect has met no more than it has read
    met_low : there.met ≤ most_met (record_value there)
    unfolding stations islands record_of station_of
    met_low =
        subst (λ (x : ℕ). (read_record (part x 24 b)).met ≤ most_met (record_value (read_record (part x 24 b))))
        (sym k.on.place) (sound_counts _ _ b (board_of_lem b none k.sound).0.sound_board j k.on.own).met

    ready_now : Ready (get_or b 0 0) (get_or b 1 0) f
    unfolding read_record
    ready_now =
        let q = phase_byte b at there refl in
        subst (Ready (get_or b 0 0) (get_or b 1 0)) (sym e)
        (ready_unmet (get_or b 0 0) (get_or b 1 0) there
        (ready (get_or b 0 0) (get_or b 1 0) (part at 24 b) fields (length_part at 24 b k.on.inside) (omega (arith, q))
        (omega (arith, q))))

    pub going_ready : Ready n K f
    going_ready = as_read (λ n K. Ready n K f) ready_now

    -- the bytes that stand there are those of the record: encoding after decoding is the identity on a sound one
    pub going_stands : ((i : ℕ) → Fits w8 (get_or b i 0)) → Stands n K j at f b
    unfolding changed
    going_stands known =
        as_read (λ n K. Stands n K j at f b)
        (record {
          place = k.on.place;
          laid =
              sym (bytes_record (get_or b 0 0) (get_or b 1 0) _ (length_part at 24 b k.on.inside)
              (part-Bytes at 24 b (all_bytes b (λ i. (known i).fits))) fields)
              ∙ ap (λ (g : Record). lay_record (meeting there.met g)) (sym e);
          met = rw same_value met_low;
        })

    -- a sound board has room for one step more
    steps_low : f.steps ≤ 3264
    unfolding stations islands record_of changed
    steps_low =
        let few = steps_few b (board_of_lem b none k.sound).0 j k.on.own in
        omega (
          arith,
          few,
          ap (λ (g : Record). g.steps) e ∙ ap (λ (x : ℕ). (read_record (part x 24 b)).steps) k.on.place,
        )

    pub steps_room : (r : StepAnswer) (d : List ℕ) → Accesses n K j at f b r d → steps_read at d < 65535
    steps_room r d a =
        omega (
          arith,
          steps_kept_lem n K j at f b going_ready going_size (as_read (λ n K. at ≡ record_at n K j) k.on.place) e
              steps_low r d a,
          steps_low,
        )

    -- the stage that the record stands for
    here : Standing (get_or b 0 0) (get_or b 1 0) j f
    here = standing (get_or b 0 0) (get_or b 1 0) j f ready_now k.on.own

    accesses : step_on (j + 1) b ≡ access (get_or b 0 0) (get_or b 1 0) (j + 1 - 1) f.proposal here.stage b
    unfolding stations islands
    accesses =
        step_on_access (j + 1) b (record { low = k.on.low; high = k.on.high }) f.proposal here.stage
        (own_value (j + 1) b j at k.on there refl ∙ sym same_value ∙ here.stands) here.goes

    pub goes : (r : StepAnswer) (d x : List ℕ) → Accesses n K j at f b r d
        → x ≡ put_changes (steps_is (steps_read at d + 1) ∷ []) at d → StepsOn (j + 1) b r x
    unfolding StepsOn
    goes r d x a q =
        let s = subst (λ (m : ℕ). Accesses m (get_or b 1 0) j at f b r d) k.stations
        (subst (λ (m : ℕ). Accesses n m j at f b r d) k.islands a) in
        let p = subst (λ (m : ℕ). (told r ≡ (access (get_or b 0 0) (get_or b 1 0) m f.proposal here.stage b).answer)
        × (x ≡ (access (get_or b 0 0) (get_or b 1 0) m f.proposal here.stage b).bytes)) k.on.index
        (counted _ _ j at f b ready_now size_now k.on.place e steps_low r d x s q here) in (
          p.0 ∙ ap (λ (y : After (Report Figure)). y.answer) (sym accesses),
          p.1 ∙ ap (λ (y : After (Report Figure)). y.bytes) (sym accesses),
        )

    pub is_taken : accepted (step_on (j + 1) b).answer.did ≡ true
    is_taken =
        ap (λ (x : After (Report Figure)). accepted x.answer.did) accesses
        ∙ access_accepts (get_or b 0 0) (get_or b 1 0) (j + 1 - 1) f.proposal here.stage b here.goes
