-- The refusals in checking order: what passing them says, and that they do not depend on what is asked later.
-- Relies on the calls' definitions and SoundFacts; the laws of the calls rely on it, and so do the code's proofs.
use Rattle.model.proofs.Kit.{◌≡◌, refl, sym, ap, ◌∙◌, Bool, true, false, ◌&&◌, inl, inr, ◌⊎◌, List, none, some}
use Rattle.model.proofs.Kit.{ℕ, ◌-◌, ◌≤◌, ◌<◌, le-leb, lt-leb, eq-eqb, ne_eqb, eqb, leb, le→leb, leb→le, T}
use Rattle.model.proofs.Kit.{eqb→eq, length, not, ⊎_elim, ℕ_discrete, arith}
use Rattle.model.specs.Figure.{Figure}
use Rattle.model.specs.Listing.{Station, idle, active}
use Rattle.model.specs.Layout.{board_length, fresh_board}
use Rattle.model.specs.Sound.{sound}
use Rattle.model.specs.Calls.{After, Refusal, unless, Ranges, ranges, laid_ranges, shape_refusal, stations, islands}
use Rattle.model.specs.Calls.{board_refusal, station_refusal, two_refusal, not_idle, proposal_refusal, station_at}
use Rattle.model.specs.Calls.{unless_refused, lay, step_on, step}
use Rattle.model.specs.Filled.{refusal}
use Rattle.model.proofs.Basics.Tests.{never, and_l, and_r, and_i, or_case, or_l, or_r, T_true, T_false, no-T}
use Rattle.model.proofs.Basics.Tests.{clash, both}
use Rattle.model.proofs.Board.SoundFacts.{SoundBoard, sound_facts, facts_sound}

pub some_none : {A : Type 0} {X : Type 0} (k : A) → some k ≡ none → X
some_none k e = never k (sym e)

-- A refusal is none or has a number.
pub refusal_case : (r : Refusal) → (r ≡ none) ⊎ ((k : ℕ) × (r ≡ some k))
refusal_case none = inl refl
refusal_case (some k) = inr (k, refl)

-- A check that passes goes on to the later ones.
pub unless_passes : (t : Bool) (k : ℕ) (later : Refusal) → T t → unless t k later ≡ later
unfolding unless
unless_passes true k later h = refl
unless_passes false k later h = absurd h

pub unless_none : (t : Bool) (k : ℕ) (later : Refusal) → unless t k later ≡ none → T t × (later ≡ none)
unfolding unless
unless_none true k later e = (tt, e)
unless_none false k later e = some_none k e

-- A check that fails answers its number, whatever comes later.
pub unless_fails : (t : Bool) (k : ℕ) (later : Refusal) → t ≡ false → unless t k later ≡ some k
unfolding unless
unless_fails t k later e = ap (λ (b : Bool). unless b k later) e

-- A call is its refusal, with the bytes as they were, or what it does.
pub call_case : {A : Type 0} (P : After A → Type 0) (r : Refusal) (turnDown : ℕ → A) (b : List ℕ) (ok : After A)
    → (r ≡ none → P ok) → ((k : ℕ) → r ≡ some k → P (record { answer = turnDown k; bytes = b }))
    → P (unless_refused r turnDown b ok)
unfolding unless_refused
call_case P none turnDown b ok f g = f refl
call_case P (some k) turnDown b ok f g = g k refl

-- 7 to 10 are passed, in 01's ranges.
pub record Shape (n K : ℕ) (b : List ℕ) : Type 0 where
  pub long : 8 ≤ length b
  pub stations_low : 1 ≤ n
  pub stations_high : n ≤ 16
  pub islands_low : 2 ≤ K
  pub islands_high : K ≤ 64
  pub len : length b ≡ board_length n K

pub within : (low high x : ℕ) → T (leb low x && leb x high) → (low ≤ x) × (x ≤ high)
within low high x t =
    (leb→le low x (and_l (leb low x) (leb x high) t), leb→le x high (and_r (leb low x) (leb x high) t))

pub within-T : (low high x : ℕ) → low ≤ x → x ≤ high → T (leb low x && leb x high)
within-T low high x h l = and_i (leb low x) (leb x high) (le→leb low x h) (le→leb x high l)

-- 7 to 10 as the code meets them: each fails after those before it have passed.
module _ (asked : Ranges) (n K : ℕ) (b : List ℕ) (later : Refusal) where
  pub shape_7 : length b < 8 → shape_refusal asked n K b later ≡ some 7
  unfolding shape_refusal unless
  shape_7 h = simp (lt-leb 8 (length b) h)

  module _ (h : 8 ≤ length b) where
    pub shape_8 : asked.stations_in n ≡ false → shape_refusal asked n K b later ≡ some 8
    unfolding shape_refusal unless
    shape_8 s = simp (le-leb 8 (length b) h, s)

    module _ (s : asked.stations_in n ≡ true) where
      pub shape_9 : asked.islands_in K ≡ false → shape_refusal asked n K b later ≡ some 9
      unfolding shape_refusal unless
      shape_9 i = simp (le-leb 8 (length b) h, s, i)

      module _ (i : asked.islands_in K ≡ true) where
        pub shape_10 : (length b ≡ board_length n K → ⊥) → shape_refusal asked n K b later ≡ some 10
        unfolding shape_refusal unless
        shape_10 f = simp (le-leb 8 (length b) h, s, i, ne_eqb (length b) (board_length n K) f)

        pub shape_on : length b ≡ board_length n K → shape_refusal asked n K b later ≡ later
        unfolding shape_refusal unless
        shape_on e = simp (le-leb 8 (length b) h, s, i, eq-eqb (length b) (board_length n K) e)

-- ranges that let nothing through but what 01's do
pub record Inside (asked : Ranges) : Type 0 where
  pub stations : (n : ℕ) → T (asked.stations_in n) → T (ranges.stations_in n)
  pub islands : (K : ℕ) → T (asked.islands_in K) → T (ranges.islands_in K)

pub inside_itself : Inside ranges
inside_itself = record { stations = λ n t. t; islands = λ K t. t }

-- n that can be laid: 1 or 3 to 16
laid_in : (n : ℕ) → T (laid_ranges.stations_in n) → (1 ≤ n) × (n ≤ 16) × (n ≡ 2 → ⊥)
unfolding laid_ranges
laid_in n t =
    ⊎_elim (λ s. let e = eqb→eq n 1 s in (omega arith, omega arith, λ q. omega arith))
    (λ s. let w = within _ 16 n s in (omega (arith, w.0), w.1, λ q. omega (arith, w.0)))
    (or_case (eqb n 1) _ t)

pub inside_laid : Inside laid_ranges
unfolding ranges laid_ranges
inside_laid = record {
  stations = λ n t. let w = laid_in n t in within-T 1 16 n w.0 w.1;
  islands = λ K t. t;
}

-- the same by the head's range, as the code has it: all of it but 2
pub two_not_laid : (n : ℕ) → n ≡ 2 → false ≡ laid_ranges.stations_in n
two_not_laid n e = sym (no-T _ (λ t. (laid_in n t).2 e))

pub others_laid : (n : ℕ) → (n ≡ 2 → ⊥) → (r : Bool) → r ≡ ranges.stations_in n → r ≡ laid_ranges.stations_in n
unfolding ranges laid_ranges
others_laid n f r e =
    e ∙ both _ _ (λ t. let w = within 1 16 n t in elim (ℕ_discrete n 1) [
      | yes e ↦ or_l (eqb n 1) _ (rw e tt)
      | no g ↦ or_r (eqb n 1) _ (within-T 3 16 n (omega (arith, w.0)) w.1)
    ]) (inside_laid.stations n)

module _ (n K : ℕ) (b : List ℕ) where
  pub shape_of : (asked : Ranges) → Inside asked → (later : Refusal) → shape_refusal asked n K b later ≡ none
      → Shape n K b × (later ≡ none)
  unfolding shape_refusal ranges
  shape_of asked inside later e7 =
      let s7 = unless_none (leb 8 (length b)) 7 _ e7 in
      let s8 = unless_none (asked.stations_in n) 8 _ s7.1 in
      let s9 = unless_none (asked.islands_in K) 9 _ s8.1 in
      let s10 = unless_none (eqb (length b) (board_length n K)) 10 later s9.1 in
      let stations = within 1 16 n (inside.stations n s8.0) in
      let islands = within 2 64 K (inside.islands K s9.0) in (
        record {
          long = leb→le 8 (length b) s7.0;
          stations_low = stations.0;
          stations_high = stations.1;
          islands_low = islands.0;
          islands_high = islands.1;
          len = eqb→eq (length b) (board_length n K) s10.0;
        },
        s10.1,
      )

  pub shape_passes : Shape n K b → (later : Refusal) → shape_refusal ranges n K b later ≡ later
  unfolding ranges
  shape_passes s later =
      shape_on ranges n K b later s.long (T_true _ (within-T 1 16 n s.stations_low s.stations_high))
      (T_true _ (within-T 2 64 K s.islands_low s.islands_high)) s.len

  -- an accepted laying was lent bytes of its shape and leaves a fresh board
  pub laid_fresh : (lay n K b).answer ≡ none → Shape n K b × ((lay n K b).bytes ≡ fresh_board n K)
  unfolding lay
  laid_fresh =
      call_case (λ (a : After Refusal). a.answer ≡ none → Shape n K b × (a.bytes ≡ fresh_board n K))
      (shape_refusal laid_ranges n K b none) some b _ (λ e f. ((shape_of laid_ranges inside_laid none e).0, refl))
      (λ k e f. some_none k f)

  -- and it was not of two stations
  pub laid_not_two : (lay n K b).answer ≡ none → n ≡ 2 → ⊥
  unfolding lay shape_refusal
  laid_not_two =
      call_case (λ (a : After Refusal). a.answer ≡ none → n ≡ 2 → ⊥) (shape_refusal laid_ranges n K b none) some b _
      (λ e f. let s7 = unless_none (leb 8 (length b)) 7 _ e in
      (laid_in n (unless_none (laid_ranges.stations_in n) 8 _ s7.1).0).2)
      (λ k e f. some_none k f)

-- 7 to 11 are passed: what every call but laying asks of a board.
pub record Board (b : List ℕ) : Type 0 where
  pub shape : Shape (stations b) (islands b) b
  pub sound_board : SoundBoard (stations b) (islands b) b

pub board_of_lem : (b : List ℕ) (later : Refusal) → board_refusal b later ≡ none → Board b × (later ≡ none)
unfolding board_refusal
board_of_lem b later e =
    let s = shape_of (stations b) (islands b) b ranges inside_itself _ e in
    let t = unless_none (sound (stations b) (islands b) b) 11 later s.1 in
    (record { shape = s.0; sound_board = sound_facts (stations b) (islands b) b s.0.len t.0 }, t.1)

pub board_passes : (b : List ℕ) → Board b → (later : Refusal) → board_refusal b later ≡ later
unfolding board_refusal
board_passes b h later =
    shape_passes (stations b) (islands b) b h.shape _
    ∙ unless_passes (sound (stations b) (islands b) b) 11 later
    (facts_sound (stations b) (islands b) b h.sound_board)

-- A refusal does not depend on what would have been asked later.
unless_later : (t : Bool) (k : ℕ) (a b : Refusal) (j : ℕ) → (a ≡ some j → b ≡ some j) → unless t k a ≡ some j
    → unless t k b ≡ some j
unfolding unless
unless_later true k a b j f e = f e
unless_later false k a b j f e = e

pub shape_first : (asked : Ranges) (n K : ℕ) (b : List ℕ) (sooner later : Refusal) (k : ℕ)
    → (sooner ≡ some k → later ≡ some k) → shape_refusal asked n K b sooner ≡ some k
    → shape_refusal asked n K b later ≡ some k
unfolding shape_refusal
shape_first asked n K b sooner later k f =
    unless_later (leb 8 (length b)) 7 _ _ k
    (unless_later (asked.stations_in n) 8 _ _ k
    (unless_later (asked.islands_in K) 9 _ _ k (unless_later (eqb (length b) (board_length n K)) 10 sooner later k f)))

pub board_first : (b : List ℕ) (later : Refusal) (k : ℕ) → board_refusal b none ≡ some k → board_refusal b later ≡ some k
unfolding board_refusal
board_first b later k =
    shape_first ranges (stations b) (islands b) b _ _ k
    (unless_later (sound (stations b) (islands b) b) 11 none later k (λ e. some_none k (sym e)))

-- 12 is passed: the station is on the board.
pub record OnBoard (i : ℕ) (b : List ℕ) : Type 0 where
  pub low : 1 ≤ i
  pub high : i ≤ stations b

pub station_of_lem : (i : ℕ) (b : List ℕ) (later : Refusal) → station_refusal i b later ≡ none → OnBoard i b × (later ≡ none)
unfolding station_refusal
station_of_lem i b later e =
    let t = unless_none (leb 1 i && leb i (stations b)) 12 later e in
    (record { low = (within 1 (stations b) i t.0).0; high = (within 1 (stations b) i t.0).1 }, t.1)

pub station_passes : (i : ℕ) (b : List ℕ) → OnBoard i b → (later : Refusal) → station_refusal i b later ≡ later
unfolding station_refusal
station_passes i b h later =
    unless_passes (leb 1 i && leb i (stations b)) 12 later (within-T 1 (stations b) i h.low h.high)

pub station_12 : (i : ℕ) (b : List ℕ) (later : Refusal) → (1 ≤ i → i ≤ stations b → ⊥)
    → station_refusal i b later ≡ some 12
unfolding station_refusal
station_12 i b later f =
    unless_fails (leb 1 i && leb i (stations b)) 12 later
    (no-T _ (λ t. let w = within 1 (stations b) i t in f w.0 w.1))

-- 22 is passed: the board is not of two stations.
pub two_of : (b : List ℕ) (later : Refusal) → two_refusal b later ≡ none → (stations b ≡ 2 → ⊥) × (later ≡ none)
unfolding two_refusal
two_of b later e =
    let t = unless_none (not (eqb (stations b) 2)) 22 later e in
    (λ q. clash (sym (eq-eqb (stations b) 2 q) ∙ T_false (eqb (stations b) 2) t.0), t.1)

pub two_passes : (b : List ℕ) → (stations b ≡ 2 → ⊥) → (later : Refusal) → two_refusal b later ≡ later
unfolding two_refusal unless
two_passes b f later = simp (ne_eqb (stations b) 2 f)

pub two_22 : (b : List ℕ) → stations b ≡ 2 → (later : Refusal) → two_refusal b later ≡ some 22
unfolding two_refusal unless
two_22 b e later = simp (eq-eqb (stations b) 2 e)

-- 12, 22 and 13 are passed: the station may propose.
pub record MayPropose (i : ℕ) (b : List ℕ) : Type 0 where
  pub on : OnBoard i b
  pub not_two : stations b ≡ 2 → ⊥
  pub rests : station_at i b ≡ idle

idle_of : (z : Station Figure) → not_idle z ≡ none → z ≡ idle
unfolding not_idle
idle_of idle e = refl
idle_of (active v s) e = some_none 13 e

pub may_propose : (i : ℕ) (b : List ℕ) → proposal_refusal i b ≡ none → MayPropose i b
may_propose i b e =
    let s = station_of_lem i b _ e in
    let t = two_of b _ s.1 in
    record { on = s.0; not_two = t.0; rests = idle_of (station_at i b) t.1 }

pub proposal_passes : (i : ℕ) (b : List ℕ) → MayPropose i b → proposal_refusal i b ≡ none
unfolding not_idle
proposal_passes i b m = station_passes i b m.on _ ∙ two_passes b m.not_two _ ∙ ap not_idle m.rests

pub index_inside : (i : ℕ) (b : List ℕ) → OnBoard i b → i - 1 < stations b
index_inside i b h = omega (arith, h.low, h.high)

-- A step on a board known to be sound need not test it.
pub step_on_lem : (i : ℕ) (b : List ℕ) → Board b → step i b ≡ step_on i b
unfolding step unless_refused
step_on_lem i b h = ap (λ (r : Refusal). unless_refused r refusal b (step_on i b)) (board_passes b h none)
