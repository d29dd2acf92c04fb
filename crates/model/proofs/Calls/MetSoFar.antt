-- The registers that a station's collect has met, and the count of the filled ones in its record: a proposal and a step
-- of the station keep the two together, and the last read tells the total.
-- Relies on MostMet, Values and the calls' laws; the theorem on lists relies on it.
use Rattle.model.proofs.Kit.{◌≡◌, refl, sym, ap, true, List, [], ◌∷◌, none, ℕ, ◌+◌, ◌-◌, ◌≤◌, ◌<◌, length}
use Rattle.model.proofs.Kit.{arith}
use Rattle.model.specs.declared.Record.{Record}
use Rattle.model.specs.Figure.{Figure, figures}
use Rattle.model.specs.Listing.{Turn, turn_m, turn_a, turn_b, Register, Seen, nothing, Stage, writing, reading}
use Rattle.model.specs.Listing.{has_decided, is_spent, Station, idle, active, array, entry, Answer, read, refused}
use Rattle.model.specs.Listing.{accepted, outcome, Move, stay, move, proposed, place_array, place_column}
use Rattle.model.specs.Filled.{Report, filled_in, met_with, met_kept_at, reported, refusal}
use Rattle.model.specs.Layout.{board_length, record_fields, changed, register_of, fields_of, station_of}
use Rattle.model.specs.Sound.{most_met}
use Rattle.model.specs.Calls.{After, stations, islands, board_refusal, station_refusal, station_at, put_record}
use Rattle.model.specs.Calls.{propose, not_going, access, stepped, step_on, step}
use Rattle.model.specs.Claims.{touched}
use Rattle.model.specs.FilledCount.{next_of, met_on, filled_among, ends_collect}
use Rattle.model.proofs.Basics.Tests.{clash}
use Rattle.model.proofs.Board.Places.{Compared, lower, equal, higher, compared}
use Rattle.model.proofs.Board.Codec.{Fits, FitsSeen, FitsStage, FitsStation, station_bytes, met_back}
use Rattle.model.proofs.Board.Boards.{record_same, register_length}
use Rattle.model.proofs.Board.Good.{GoodStage, GoodStation}
use Rattle.model.proofs.Board.SoundFacts.{SoundBoard}
use Rattle.model.proofs.Board.Values.{array_inside, SoundStation, own_register, readable}
use Rattle.model.proofs.Listing.Cases.{ended_case, read_case}
use Rattle.model.proofs.Listing.Going.{Going}
use Rattle.model.proofs.Listing.MostMet.{one_filled}
use Rattle.model.proofs.Listing.Moves.{move_fits}
use Rattle.model.proofs.Calls.Access.{write_bytes, read_bytes}
use Rattle.model.proofs.Calls.Refusals.{Board, index_inside, call_case}
use Rattle.model.proofs.Calls.CallsKeep.{proposed_fits}
use Rattle.model.proofs.Calls.StepsTaken.{proposes}

-- rs is what the collect of the station with index j, which stands so, has met: nothing outside a collect, and in one
-- the registers before its position, a filled one among them once its own is passed
unfoldable pub MetAt : (j : ℕ) → Station Figure → List (Register Figure) → Type 0
MetAt j idle rs = rs ≡ []
MetAt j (active v (writing t c x)) rs = rs ≡ []
MetAt j (active v (reading t c x p a)) rs = (length rs ≡ p) × (j < p → 1 ≤ filled_among rs)
MetAt j (active v (has_decided c x)) rs = rs ≡ []
MetAt j (active v (is_spent c x)) rs = rs ≡ []

-- and the k that its record counts are those of them that are filled
pub record Follows (j : ℕ) (z : Station Figure) (k : ℕ) (rs : List (Register Figure)) : Type 0 where
  pub so_far : k ≡ filled_among rs
  pub met : MetAt j z rs

abbrev pub FollowsOn : (n K j : ℕ) → List ℕ → List (Register Figure) → Type 0
FollowsOn n K j b rs = Follows j (station_of n K j b) (fields_of n K j b).met rs

-- the station's own register is filled
entry_filled : (t : Turn) (c : ℕ) (x : Figure) → filled_in (entry t c x) ≡ 1
unfolding filled_in entry
entry_filled turn_m c x = refl
entry_filled turn_a c x = refl
entry_filled (turn_b f) c x = refl

-- so that a collect which has read its own position has met a filled one
one_mine : (j p : ℕ) (r : Register Figure) (rs : List (Register Figure)) → (j < p → 1 ≤ filled_among rs)
    → (j ≡ p → filled_in r ≡ 1) → j < p + 1 → 1 ≤ filled_among (r ∷ rs)
unfolding filled_among
one_mine j p r rs passed mine l = go (compared j p)
  where
    go : Compared j p → 1 ≤ filled_in r + filled_among rs
    go (lower h) = omega (arith, passed h)
    go (equal e) = omega (arith, mine e)
    go (higher h) = omega arith

-- ---- a read of the register r, before which k filled ones were counted

module _ (n K : ℕ) (t : Turn) (c : ℕ) (x : Figure) (p : ℕ) (a : Seen Figure) (r : Register Figure) (k : ℕ) where
  -- only a read that does not end its collect looks at what was met before
  module _ (j : ℕ) (v : Figure) (rs : List (Register Figure)) (mine : j ≡ p → filled_in r ≡ 1) where
    abbrev Kept : Move Figure → Type 0
    Kept m =
        (m.answer ≡ read → Follows j (active v (reading t c x p a)) k rs)
        → Follows j (active v m.stage) (met_kept_at m.stage (k + filled_in r)) (met_on m.answer r rs)

    read_follows : Kept (move figures n K (reading t c x p a) r)
    unfolding MetAt met_on met_kept_at filled_among stay
    read_follows =
        read_case K Kept c t x figures n p a r
        (λ l h. let f = h refl in record {
          so_far = omega (arith, f.so_far);
          met = (omega (arith, f.met.0), one_mine j p r rs f.met.1 mine);
        })
        (λ l. ended_case K Kept c t x _ (record {
          goes = λ h. record { so_far = refl; met = refl };
          marks = λ f h. record { so_far = refl; met = refl };
          decides = λ h. record { so_far = refl; met = refl };
          adopts = λ q h. record { so_far = refl; met = refl };
          spends = λ h. record { so_far = refl; met = refl };
        }))

  -- a read that ends its collect is the last one, and tells the total
  abbrev Last : (here : ℕ) → Move Figure → Type 0
  Last here m =
      ends_collect m.answer ≡ true
      → (n ≤ p + 1) × (reported m.answer here (k + filled_in r) ≡ k + filled_in r)

  read_ends : (here : ℕ) → Last here (move figures n K (reading t c x p a) r)
  unfolding ends_collect reported stay
  read_ends here =
      read_case K (Last here) c t x figures n p a r (λ l e. clash (sym e))
      (λ l. ended_case K (Last here) c t x _ (record {
        goes = λ e. (l, refl);
        marks = λ f e. (l, refl);
        decides = λ e. (l, refl);
        adopts = λ q e. (l, refl);
        spends = λ e. (l, refl);
      }))

-- ---- a record that is put in

put_follows : (n K : ℕ) (b : List ℕ) → length b ≡ board_length n K → (j : ℕ) → j < n → (s : Station Figure) (f : Record)
    → FitsStation s → (rs : List (Register Figure)) → Follows j s f.met rs
    → FollowsOn n K j (put_record n K j (record_fields s f) b) rs
unfolding station_of
put_follows n K b len j own s f fits rs h =
    rw (record_same n K b len j own (record_fields s f), station_bytes s f fits, met_back s f) h

-- a proposal on a sound board is of an idle station, which has met nothing
pub proposed_follows : (i : ℕ) (v : Figure) (b : List ℕ) → Board b → Fits v → (propose i v b).answer ≡ none
    → (rs : List (Register Figure)) → FollowsOn (stations b) (islands b) (i - 1) b rs
    → FollowsOn (stations b) (islands b) (i - 1) (propose i v b).bytes rs
unfolding station_at MetAt proposed changed filled_among
proposed_follows i v b h fits a rs f =
    proposes i v b h a (λ d. FollowsOn (stations b) (islands b) (i - 1) d rs)
    (λ on e. let before : Follows (i - 1) idle _ rs = rw e at f in
    put_follows _ _ b h.sound_board.len (i - 1) (index_inside i b on) (proposed v) _ (proposed_fits v fits) rs
    (rw before.met (record { so_far = refl; met = refl })))

-- ---- an accepted step of the station with index j on a sound board of n and K

module _ (n K : ℕ) (b : List ℕ) (q : SoundBoard n K b) (j : ℕ) (own : j < n) (v : Figure) where
  abbrev here : Stage Figure → Register Figure
  here s = register_of n (place_array s) (place_column j s) b

  mine_filled : (t : Turn) (c : ℕ) (x : Figure) (p : ℕ) (a : Seen Figure)
      → SoundStation n K j b (active v (reading t c x p a)) → j ≡ p → filled_in (register_of n (array t c) p b) ≡ 1
  mine_filled t c x p a g e = rw (← e, own_register n K j b v t c x p a g) (entry_filled t c x)

  -- what was met before is asked for where the answer is *read*, and nowhere else
  pub access_follows : (s : Stage Figure) → Going s → FitsStation (active v s) → SoundStation n K j b (active v s)
      → (rs : List (Register Figure))
      → ((access n K j v s b).answer.did ≡ read → Follows j (active v s) (fields_of n K j b).met rs)
      → FollowsOn n K j (access n K j v s b).bytes (met_on (access n K j v s b).answer.did (here s) rs)
  unfolding GoodStation GoodStage FitsStation FitsStage FitsSeen MetAt met_on met_kept_at filled_among changed place_array
      place_column
  access_follows (writing t c x) h fits g rs f =
      let len = register_length n K b q.len (array t c) (array_inside K t c g.good) j own (entry t c x) in
      rw (write_bytes n K j v b t c x)
      (put_follows n K _ len j own (active v (reading t c x 0 nothing)) _ (fits.0, (fits.1, tt)) _
      (unfold access move in record { so_far = refl; met = (refl, λ l. omega arith) }))
  access_follows (reading t c x p a) h fits g rs f =
      let stays = move_fits n K (reading t c x p a) _ fits.1 (readable n K b q j own v (reading t c x p a) g) in
      rw (read_bytes n K j v b t c x p a)
      (put_follows n K b q.len j own (active v _) _ (fits.0, stays) _
      (unfold access in read_follows n K t c x p a _ _ j v rs (mine_filled t c x p a g) f))
  access_follows (has_decided c x) h fits g rs f = absurd h
  access_follows (is_spent c x) h fits g rs f = absurd h

  -- what a step at stage s that ends its collect tells: the total, which is n at the most; and if the collect has met
  -- rs, these are all n registers with the last one, a filled one among them
  pub record Ending (s : Stage Figure) (met : ℕ) : Type 0 where
    pub adds : met ≡ (fields_of n K j b).met + filled_in (here s)
    pub most : met ≤ n
    pub whole : (rs : List (Register Figure)) → MetAt j (active v s) rs → length (here s ∷ rs) ≡ n
    pub least : (rs : List (Register Figure)) → MetAt j (active v s) rs → 1 ≤ filled_among (here s ∷ rs)

  pub access_ends : (s : Stage Figure) → Going s → SoundStation n K j b (active v s)
      → (fields_of n K j b).met ≤ most_met (active v s) → ends_collect (access n K j v s b).answer.did ≡ true
      → Ending s (access n K j v s b).answer.met
  unfolding GoodStation GoodStage MetAt most_met ends_collect access place_array place_column met_with
  access_ends (writing t c x) h g few e = clash (unfold move in sym e)
  access_ends (reading t c x p a) h g few e =
      let r = register_of n (array t c) p b in
      let last = read_ends n K t c x p a r (fields_of n K j b).met (filled_in r) e in
      record {
        adds = last.1;
        most = omega (arith, last.1, one_filled r, g.good.1);
        whole = λ rs m. omega (arith, last.0, g.good.1, m.0);
        least = λ rs m. one_mine j p r rs m.1 (mine_filled t c x p a g) (omega (arith, last.0));
      }
  access_ends (has_decided c x) h g few e = absurd h
  access_ends (is_spent c x) h g few e = absurd h

-- ---- a *read* answer, whatever bytes are lent

not_read : {X : Type 0} (k : ℕ) → ◌≡◌ {A = Answer Figure} (refused k) read → X
unfolding accepted outcome
not_read k e = clash (sym (ap accepted e))

stepped_reads : (n K j : ℕ) (z : Station Figure) (b : List ℕ) → (stepped n K j z b).answer.did ≡ read
    → (stepped n K j z b).answer.met ≡ filled_in (touched n j z b)
unfolding stepped access touched reported
stepped_reads n K j idle b e = not_read 14 e
stepped_reads n K j (active v s) b e = rw e

pub step_reads : (i : ℕ) (b : List ℕ) → (step i b).answer.did ≡ read
    → (step i b).answer.met ≡ filled_in (next_of i b)
unfolding step step_on next_of
step_reads i b =
    let Reads : After (Report Figure) → Type 0 = λ d. d.answer.did ≡ read → d.answer.met ≡ filled_in (next_of i b) in
    call_case Reads (board_refusal b none) refusal b (step_on i b)
    (λ e. call_case Reads (station_refusal i b (not_going (station_at i b))) refusal b _
    (λ f. stepped_reads (stations b) (islands b) (i - 1) (station_at i b) b) (λ k f. not_read k))
    (λ k e. not_read k)
