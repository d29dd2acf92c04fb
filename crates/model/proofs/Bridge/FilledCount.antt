-- Along a list of calls a station's record counts the filled registers that its present collect has met, and the last
-- read of a collect tells the total.
-- Relies on MetSoFar and OneRecord; it proves the claim of specs/FilledCount.antt.
use Rattle.model.proofs.Kit.{◌≡◌, refl, sym, ap, subst₂, ◌∙◌, true, false, cond, List, [], ◌∷◌, none, ℕ, ◌+◌}
use Rattle.model.proofs.Kit.{◌-◌, ◌≤◌, ◌<◌, eqb, eq-eqb, ne_eqb, ℕ_discrete, arith}
use Rattle.model.specs.Figure.{Figure}
use Rattle.model.specs.Listing.{Register, active, Answer, wrote, read, went, marked, adopted, decided, spent}
use Rattle.model.specs.Listing.{refused, accepted, outcome, place_array, place_column}
use Rattle.model.specs.Filled.{Report, filled_in}
use Rattle.model.specs.Layout.{fresh_board, read_record, record_value, of_phase, register_of, station_of}
use Rattle.model.specs.Calls.{After, stations, islands, station_at, met_so_far, propose, step}
use Rattle.model.specs.Claims.{Passes, touched}
use Rattle.model.specs.AnyList.{Call, laying, proposing, stepping, called, after, Allowed, AllAllowed}
use Rattle.model.specs.FilledCount.{next_of, met_on, met_by, met_in, filled_among, ends_collect, Total, Counted}
use Rattle.model.specs.FilledCount.{FilledCount}
use Rattle.model.proofs.Basics.Tests.{by_test, clash, impossible}
use Rattle.model.proofs.Board.Codec.{Fits}
use Rattle.model.proofs.Board.Fresh.{fresh_zero}
use Rattle.model.proofs.Board.Values.{sound_counts}
use Rattle.model.proofs.Calls.Refusals.{Board, board_of_lem, laid_fresh}
use Rattle.model.proofs.Calls.Refused.{lay_refused, step_refused}
use Rattle.model.proofs.Calls.CallsKeep.{station_of_fits}
use Rattle.model.proofs.Calls.MetSoFar.{MetAt, FollowsOn, proposed_follows, access_follows, Ending}
use Rattle.model.proofs.Calls.MetSoFar.{access_ends, step_reads}
use Rattle.model.proofs.Bridge.Single.{Ready, by_head, step_ready}
use Rattle.model.proofs.Bridge.Lists.{ready_along}
use Rattle.model.proofs.Bridge.OneRecord.{at_head, laid_ready, sound_here, OwnStep, own_step, other_step}
use Rattle.model.proofs.Bridge.OneRecord.{by_proposal}

-- an answer is that of a step taken, or a refusal
answer_case : (P : Answer Figure → Type 0) → ((k : ℕ) → P (refused k)) → (a : Answer Figure)
    → (accepted a ≡ true → P a) → P a
unfolding accepted outcome
answer_case P f wrote g = g refl
answer_case P f read g = g refl
answer_case P f (went c x) g = g refl
answer_case P f (marked h x) g = g refl
answer_case P f (adopted c x) g = g refl
answer_case P f (decided c x) g = g refl
answer_case P f (spent c x) g = g refl
answer_case P f (refused k) g = f k

refusal_keeps : (a : Answer Figure) (r : Register Figure) (rs : List (Register Figure)) → accepted a ≡ false
    → met_on a r rs ≡ rs
unfolding met_on
refusal_keeps a r rs =
    answer_case (λ (a : Answer Figure). accepted a ≡ false → met_on a r rs ≡ rs) (λ k e. refl) a
    (λ t e. clash (sym t ∙ e))

ends_accepted : (a : Answer Figure) → ends_collect a ≡ true → accepted a ≡ true
unfolding ends_collect
ends_accepted a =
    answer_case (λ (a : Answer Figure). ends_collect a ≡ true → accepted a ≡ true) (λ k e. clash (sym e)) a (λ t e. t)

-- One call on a sound board of n and K, and what the collect of station number i has met.
module _ (n K i : ℕ) (b : List ℕ) (r : Ready n K b) where
  -- an accepted step of the station touches the register at its place
  next_here : (s : OwnStep n K i b r)
      → next_of i b ≡ register_of n (place_array s.stage) (place_column (i - 1) s.stage) b
  unfolding next_of station_at touched
  next_here s = rw (r.is_n, r.is_k, s.stands)

  own_follows : accepted (step i b).answer.did ≡ true → (rs : List (Register Figure))
      → ((step i b).answer.did ≡ read → FollowsOn n K (i - 1) b rs)
      → FollowsOn n K (i - 1) (step i b).bytes (met_on (step i b).answer.did (next_of i b) rs)
  own_follows a rs f =
      let s = own_step n K i b r a in
      rw (next_here s, s.is)
      (access_follows n K b (sound_here n K i b r) (i - 1) s.own s.proposal s.stage s.goes
      (rw s.stands at (station_of_fits n K (i - 1) b)) s.station rs
      (λ e. rw s.stands at (f (ap (λ (d : After (Report Figure)). d.answer.did) s.is ∙ e))))

  module _ (low : 1 ≤ i) (high : i ≤ n) (rs : List (Register Figure)) (f : FollowsOn n K (i - 1) b rs) where
    stepping_follows : FollowsOn n K (i - 1) (step i b).bytes (met_on (step i b).answer.did (next_of i b) rs)
    stepping_follows =
        by_test (accepted (step i b).answer.did) (λ a. own_follows a rs (λ e. f))
        (λ a. rw (step_refused i b a, refusal_keeps (step i b).answer.did (next_of i b) rs a) f)

    call_follows : (c : Call) → Allowed c b → FollowsOn n K (i - 1) (called c b) (met_by i c b rs)
    unfolding called Allowed met_by Fits station_of
    call_follows (laying m L) a = rw (lay_refused m L b a.0 a.1) f
    call_follows (proposing k v) a =
        by_proposal n K i b r low high (λ d. FollowsOn n K (i - 1) d rs) (λ d e. rw e f) k v
        (λ e. by_head (λ m L. FollowsOn m L (i - 1) b rs → FollowsOn m L (i - 1) (propose i v b).bytes rs) r
        (proposed_follows i v b r.board a e rs) f)
    call_follows (stepping k) a = go (ℕ_discrete i k)
      where
        go : Dec (i ≡ k)
            → FollowsOn n K (i - 1) (step k b).bytes
            (cond (eqb i k) (met_on (step k b).answer.did (next_of i b) rs) rs)
        go (yes e) = rw (← e, eq-eqb i i refl) stepping_follows
        go (no g) = rw (ne_eqb i k g, other_step n K i b r low high k g) f

list_follows : (n K i : ℕ) → 1 ≤ i → i ≤ n → (cs : List Call) (b : List ℕ) → Ready n K b → AllAllowed cs b
    → (rs : List (Register Figure)) → FollowsOn n K (i - 1) b rs
    → FollowsOn n K (i - 1) (after cs b) (met_in i cs b rs) × Ready n K (after cs b)
unfolding after AllAllowed met_in
list_follows n K i low high [] b r a rs f = (f, r)
list_follows n K i low high (c ∷ cs) b r a rs f =
    list_follows n K i low high cs (called c b) (ready_along n K c b r a.0) a.1 (met_by i c b rs)
    (call_follows n K i b r low high rs f c a.0)

-- ---- in the words of the claim

-- a step that ends a collect, on any sound board
module _ (b : List ℕ) (h : Board b) (i : ℕ) (e : ends_collect (step i b).answer.did ≡ true) where
  own : OwnStep (stations b) (islands b) i b (at_head b h)
  own = own_step (stations b) (islands b) i b (at_head b h) (ends_accepted _ e)

  ending : Ending (stations b) (islands b) b h.sound_board (i - 1) own.own own.proposal own.stage
      (step i b).answer.met
  ending =
      let did = ap (λ (d : After (Report Figure)). d.answer.did) own.is in
      let few = (sound_counts (stations b) (islands b) b h.sound_board (i - 1) own.own).met in
      rw own.is
      (access_ends (stations b) (islands b) b h.sound_board (i - 1) own.own own.proposal own.stage
      own.goes own.station (rw own.stands at few) (ap ends_collect (sym did) ∙ e))

  ends_bounded : ((step i b).answer.met ≡ met_so_far i b + filled_in (next_of i b)) × ((step i b).answer.met ≤ stations b)
  unfolding met_so_far
  ends_bounded = (rw (next_here _ _ i b (at_head b h) own) ending.adds, ending.most)

  ends_counted : (rs : List (Register Figure)) → FollowsOn (stations b) (islands b) (i - 1) b rs → Total i b rs
  unfolding filled_among
  ends_counted rs f =
      let m : MetAt (i - 1) (active own.proposal own.stage) rs = rw own.stands at f.met in
      let next = next_here _ _ i b (at_head b h) own in
      let counts : (step i b).answer.met ≡ filled_among (next_of i b ∷ rs) =
      rw next (omega (arith, ending.adds, f.so_far)) in
      record {
        whole = ending.whole rs m;
        counted = counts;
        least = rw (counts, next) (ending.least rs m);
        most = ending.most;
      }

-- after a list from a board where the station follows, by the size in the head of the board that the list leaves
counted : (n K i : ℕ) → 1 ≤ i → i ≤ n → (cs : List Call) (b : List ℕ) → Ready n K b → AllAllowed cs b
    → FollowsOn n K (i - 1) b [] → Counted i (after cs b) (met_in i cs b [])
unfolding met_so_far
counted n K i low high cs b r a f =
    let along = list_follows n K i low high cs b r a [] f in
    let there = subst₂ (λ m L. FollowsOn m L (i - 1) (after cs b) (met_in i cs b [])) (sym along.1.is_n)
    (sym along.1.is_k) along.0 in
    record { so_far = there.so_far; at_end = λ e. ends_counted (after cs b) along.1.board i e _ there }

-- no station of a fresh board has met anything
none_fresh : (n K j : ℕ) → j < n → FollowsOn n K j (fresh_board n K) []
unfolding station_of record_value read_record of_phase MetAt filled_among
none_fresh n K j own = rw (fresh_zero n K j own) (record { so_far = refl; met = refl })

-- and a station that wrote has begun a collect, whatever it had counted
written : (b : List ℕ) → Board b → (i : ℕ) → (step i b).answer.did ≡ wrote → (cs : List Call)
    → AllAllowed cs (step i b).bytes → Counted i (after cs (step i b).bytes) (met_in i cs (step i b).bytes [])
unfolding accepted outcome met_on
written b h i e cs a =
    let r = at_head b h in
    let taken : accepted (step i b).answer.did ≡ true = rw e in
    let s = own_step (stations b) (islands b) i b r taken in
    let begun = own_follows (stations b) (islands b) i b r taken [] (λ q. impossible (cc)) in
    counted (stations b) (islands b) i s.low (omega (arith, s.own)) cs (step i b).bytes (step_ready _ _ i b r) a
    (rw e at begun)

pub filled_count : FilledCount
unfolding Passes
filled_count = record {
  reads = step_reads;
  laid = λ n K lent e i low high cs a.
      counted n K i low high cs _ (laid_ready n K lent e) a
      (rw (laid_fresh n K lent e).1 (none_fresh n K (i - 1) (omega arith)));
  written = λ b p. written b (board_of_lem b none p).0;
  bounded = λ b p. ends_bounded b (board_of_lem b none p).0;
}
