-- An accepted step keeps any sound board sound.
-- Relies on Keeps, Moves, Values and Written; the laws of the calls rely on it.
use Rattle.model.proofs.Kit.{◌≡◌, refl, ap, subst, ◌∙◌, true, false, List, some, ℕ, ◌+◌, ◌≤◌, ◌<◌, lt-ltb, eqb}
use Rattle.model.proofs.Kit.{leb, ltb, T, ltb→lt, lt→ltb, arith}
use mathlib.Core.Path.{subst⁻¹}
use native.Mathlib.Nat.{not-suc-le-zero}
use Rattle.model.specs.Bytes.{part, zeros, implies, digits}
use Rattle.model.specs.Figure.{Figure, figures, figure_bytes}
use Rattle.model.specs.Listing.{Flag, adopt, commit, flag_number, Turn, turn_m, turn_a, turn_b, Register, Seen}
use Rattle.model.specs.Listing.{nothing, Stage, writing, reading, has_decided, is_spent, active, array, entry}
use Rattle.model.specs.Listing.{Move, stay, see, move, place_array, place_column}
use Rattle.model.specs.Layout.{lay_register, register_fields, register_of, fields_of, changed}
use Rattle.model.specs.Sound.{register_sound, same_register, own_written, own_seen, own_passed, most_steps, most_met}
use Rattle.model.specs.Filled.{met_kept_at}
use Rattle.model.specs.Calls.{put_register, access}
use Rattle.model.proofs.Listing.Going.{Going}
use Rattle.model.proofs.Basics.Tests.{true-T, implies_use, implies_make}
use Rattle.model.proofs.Board.Places.{InBoard, Compared, lower, equal, higher, compared}
use Rattle.model.proofs.Board.Codec.{register, register_bytes, Fits, FitsSeen, FitsRegister, FitsStage}
use Rattle.model.proofs.Board.Codec.{FitsStation, register_bytes_lem}
use Rattle.model.proofs.Board.Boards.{register_part, register_same}
use Rattle.model.proofs.Board.Good.{GoodSeen, GoodStage, GoodStation}
use Rattle.model.proofs.Listing.Cases.{ended_case, read_case}
use Rattle.model.proofs.Listing.OneRead.{own_kept_lem, own_met}
use Rattle.model.proofs.Listing.Moves.{move_good, move_fits}
use Rattle.model.proofs.Listing.MostSteps.{write_room, read_room}
use Rattle.model.proofs.Listing.MostMet.{met_room}
use Rattle.model.proofs.Calls.Access.{write_bytes, read_bytes}
use Rattle.model.proofs.Board.SoundFacts.{marks_in, islands_in, register_test, SoundBoard}
use Rattle.model.proofs.Board.Values.{array_inside, register_same_refl, SoundStation, Counts, own_register}
use Rattle.model.proofs.Board.Values.{readable}
use Rattle.model.proofs.Board.Keeps.{sound_but, register_keeps, station_keeps}

-- ---- the register that a write puts down

flag_below : (f : Flag) → leb (flag_number f) 2 ≡ true
unfolding flag_number
flag_below adopt = refl
flag_below commit = refl

flag_marks : (f : Flag) → eqb (flag_number f) 0 ≡ false
unfolding flag_number
flag_marks adopt = refl
flag_marks commit = refl

entry_sound : (K : ℕ) (t : Turn) (c : ℕ) (x : Figure) → c < K
    → register_test K (array t c) (register_bytes (entry t c x)) ≡ true
unfolding register_test register_sound lay_register register_fields entry array marks_in islands_in zeros part figure_bytes
    digits flag_number
entry_sound K turn_m c x h = simp (lt-ltb c K h)
entry_sound K turn_a c x h = refl
entry_sound K (turn_b f) c x h = simp (flag_marks f, flag_below f)

-- ---- the step

pub entry_fits : (t : Turn) (c : ℕ) (x : Figure) → Fits x → FitsRegister (entry t c x)
unfolding entry FitsRegister
entry_fits turn_m c x h = h
entry_fits turn_a c x h = h
entry_fits (turn_b f) c x h = h

module _ (n K : ℕ) (b : List ℕ) (q : SoundBoard n K b) (hK : 0 < K) (i : ℕ) (own : i < n) (v : Figure) where
  -- what the station's record counts before this step, where it stands at stage s
  abbrev Counted : Stage Figure → Type 0
  Counted s = Counts n (active v s) (fields_of n K i b)

  -- a write: the register is put in, and then the record, which says just that
  module _ (t : Turn) (c : ℕ) (x : Figure) (fits : FitsStation (active v (writing t c x)))
      (g : SoundStation n K i b (active v (writing t c x))) (few : Counted (writing t c x)) where
    inside : InBoard K (array t c)
    unfolding GoodStation GoodStage
    inside = array_inside K t c g.good

    between : List ℕ
    between = put_register n (array t c) i (some (entry t c x)) b

    reads_back : register_of n (array t c) i between ≡ entry t c x
    unfolding between register_of register_part FitsStation FitsStage
    reads_back =
        ap register (register_same n K b q.len (array t c) inside i own (entry t c x))
        ∙ register_bytes_lem (entry t c x) (entry_fits t c x fits.1)

    begun : SoundStation n K i between (active v (reading t c x 0 nothing))
    unfolding between GoodStation GoodStage GoodSeen own_written own_passed
    begun = record {
      good = (g.good, omega arith, tt);
      written =
          subst⁻¹ (λ (r : Register Figure). T (same_register r (entry t c x))) reads_back
          (register_same_refl (entry t c x));
      passed =
          implies_make (ltb i 0) (own_seen t c x nothing) (λ (l : T (ltb i 0)). absurd (not-suc-le-zero (ltb→lt i 0 l)));
    }

    write_keeps : SoundBoard n K (access n K i v (writing t c x) b).bytes
    unfolding between GoodStation GoodStage FitsStation FitsStage FitsSeen changed met_kept_at
    write_keeps =
        subst⁻¹ (SoundBoard n K) (write_bytes n K i v b t c x)
        (station_keeps i n K between
        (register_keeps i n K b (sound_but i n K b q) (array t c) inside own (entry t c x)
        (true-T _ (entry_sound K t c x g.good)))
        own hK v (reading t c x 0 nothing) _ (fits.0, (fits.1, tt)) begun
        (record { steps = omega (arith, few.steps, write_room n K v t c x); met = omega arith }))

  -- a read: the record alone is put in
  module _ (t : Turn) (c : ℕ) (x : Figure) (p : ℕ) (a : Seen Figure) (fits : FitsStation (active v (reading t c x p a)))
      (g : SoundStation n K i b (active v (reading t c x p a))) (few : Counted (reading t c x p a)) where
    met : Register Figure
    met = register_of n (array t c) p b

    passed_next : T (implies (ltb i (p + 1)) (own_seen t c x (see figures t a met)))
    unfolding met own_passed
    passed_next =
        implies_make (ltb i (p + 1)) (own_seen t c x (see figures t a (register_of n (array t c) p b)))
        (λ (l : T (ltb i (p + 1))). go (compared i p) (ltb→lt i (p + 1) l))
      where
        go : Compared i p → i < p + 1 → T (own_seen t c x (see figures t a (register_of n (array t c) p b)))
        go (lower h) l =
            own_kept_lem t c x a (register_of n (array t c) p b)
            (implies_use (ltb i p) (own_seen t c x a) g.passed (lt→ltb i p h))
        go (equal e) l =
            subst (λ (j : ℕ). T (own_seen t c x (see figures t a (register_of n (array t c) j b)))) e
            (subst⁻¹ (λ (r : Register Figure). T (own_seen t c x (see figures t a r)))
            (own_register n K i b v t c x p a g) (own_met t c x a))
        go (higher h) l = absurd (omega arith)

    moved : Move Figure
    moved = move figures n K (reading t c x p a) met

    Written : Move Figure → Type 0
    Written m = T (own_written n i b (active v m.stage))

    Passed : Move Figure → Type 0
    Passed m = T (own_passed i (active v m.stage))

    -- the end of a collect leaves a stage that owes nothing of its own register
    gone_on : SoundStation n K i b (active v moved.stage)
    unfolding moved met stay GoodStation place_array place_column own_written own_passed Written Passed
    gone_on = record {
      good =
          move_good n K (omega arith) (reading t c x p a) met g.good
          (readable n K b q i own v (reading t c x p a) g);
      written =
          read_case K Written c t x figures n p a met (λ l. g.written) (λ l. ended_case K Written c t x _ (search));
      passed =
          read_case K Passed c t x figures n p a met (λ l. passed_next) (λ l. ended_case K Passed c t x _ (search));
    }

    -- at the end of the collect its own position is passed
    room : most_steps n (active v (reading t c x p a)) + 1 ≤ most_steps n (active v moved.stage)
    unfolding moved GoodStation GoodStage
    room =
        read_room n K v t c x p a met g.good.1
        (λ l. implies_use (ltb i (p + 1)) (own_seen t c x (see figures t a met)) passed_next
        (lt→ltb i (p + 1) (omega arith)))

    read_keeps : SoundBoard n K (access n K i v (reading t c x p a) b).bytes
    unfolding moved met FitsStation place_array place_column changed
    read_keeps =
        subst⁻¹ (SoundBoard n K) (read_bytes n K i v b t c x p a)
        (station_keeps i n K b (sound_but i n K b q) own hK v moved.stage _
        (fits.0, move_fits n K (reading t c x p a) met fits.1 (readable n K b q i own v (reading t c x p a) g))
        gone_on (record {
          steps = omega (arith, few.steps, room);
          met = met_room n K v t c x p a met _ (unfold most_met in few.met);
        }))

  -- An accepted step of station index i, which stands at stage s, keeps the board sound.
  pub access_keeps : (s : Stage Figure) → Going s → FitsStation (active v s) → SoundStation n K i b (active v s)
      → Counted s → SoundBoard n K (access n K i v s b).bytes
  access_keeps (writing t c x) h fits g few = write_keeps t c x fits g few
  access_keeps (reading t c x p a) h fits g few = read_keeps t c x p a fits g few
  access_keeps (has_decided c x) h fits g few = absurd h
  access_keeps (is_spent c x) h fits g few = absurd h
