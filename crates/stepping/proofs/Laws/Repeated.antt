-- Steps on a sound board one after another: the board that they leave, and those of one station, whose place stays.
-- Relies on Going, on runs put together and on the model's refused steps; the proofs of `repeated` rely on it, and so
-- do those of rounds.
use Rattle.std.specs.Prelude.{Ok, Err}
use Rattle.std.specs.declared.result.Result.{Result}
use Rattle.model.proofs.Kit.{◌≡◌, refl, sym, ap, subst, ◌∙◌, false, List, [], ◌∷◌, ◌++◌, none, ℕ, ◌+◌, ◌-◌, ◌≤◌}
use Rattle.model.proofs.Kit.{lit<, length, replicate, get_or, arith}
use lib.ListN.{replicate-append-replicate}
use Rattle.model.specs.declared.StepAnswer.{StepAnswer}
use Rattle.model.specs.declared.refusal.Refusal as refusals
use Rattle.model.specs.Listing.{accepted}
use Rattle.model.specs.Layout.{board_length, record_at}
use Rattle.model.specs.Calls.{board_refusal, step_on}
use Rattle.model.specs.Runs.{taken, answers, after}
use Rattle.model.proofs.Calls.Refused.{refused_again}
use Rattle.model.proofs.Calls.Runs.{after_append, ran_both}
use Rattle.soundness.specs.declared.place.Place.{Place}
use Rattle.soundness.specs.Placed.{Placed}
use Rattle.soundness.proofs.Laws.Placing.{head_long, at_place}
use Rattle.accessing.specs.Accessed.{Known, StepsOn}
use Rattle.accessing.proofs.Laws.Stepping.{known_at}
use Rattle.stepping.specs.Stepped.{Going, Goes, RunsOn}
use Rattle.stepping.proofs.Laws.Joined.{runs_refused, runs_taken, runs_sound, runs_head, runs_length}
use Rattle.stepping.proofs.Laws.Going.{refuses, number_is, known, takes, stays, no_place}

-- the steps `is` were taken on the board b, and d is the board that they leave
pub record Ran (b is d : List ℕ) : Type 0 where
  pub bytes : d ≡ after step_on b is
  pub sound : board_refusal d none ≡ none
  pub len : length d ≡ length b
  pub head : get_or d 0 0 ≡ get_or b 0 0
  pub islands : get_or d 1 0 ≡ get_or b 1 0

pub ran_none : (b : List ℕ) → board_refusal b none ≡ none → Ran b [] b
unfolding after
ran_none b s = record { bytes = refl; sound = s; len = refl; head = refl; islands = refl }

pub ran_then : (b is d js e : List ℕ) → Ran b is d → e ≡ after step_on d js → Ran b (is ++ js) e
unfolding RunsOn
ran_then b is d js e r q = record {
  bytes = q ∙ ap (λ (x : List ℕ). after step_on x js) r.bytes ∙ sym (after_append step_on b is js);
  sound = runs_sound js d e _ r.sound runs;
  len = runs_length js d e _ r.sound runs ∙ r.len;
  head = runs_head js d e _ r.sound runs 0 (lit< tt) ∙ r.head;
  islands = runs_head js d e _ r.sound runs 1 (lit< tt) ∙ r.islands;
}
  where
    runs : RunsOn js d (taken (answers step_on d js)) e
    runs = (refl, omega (arith, ran_both step_on d js), q)

pub ran_sound : (b is d : List ℕ) → Ran b is d → board_refusal d none ≡ none
ran_sound b is d r = r.sound

-- ---- one step of the station with a number, counted

module _ (s : ℕ) (b : List ℕ) where
  pub refused_counts : (r : refusals.Refusal) → Goes s b (Err r) → RunsOn (s ∷ []) b 0 b
  refused_counts r g = runs_refused s b (refuses s b r g)

  module _ (p : Place) (g : Going s b p) (sound : board_refusal b none ≡ none) where
    pub going_counts : (a : StepAnswer) (d : List ℕ) → StepsOn (p.index + 1) b a d → RunsOn (s ∷ []) b 1 d
    unfolding StepsOn
    going_counts a d one =
        runs_taken s b d (takes s b p g sound) (one.1 ∙ ap (λ (k : ℕ). (step_on k b).bytes) (number_is s b p g))

-- ---- its steps one after another

module _ (s : ℕ) (b : List ℕ) (count : ℕ) where
  pub nowhere_stays : (r : refusals.Refusal) → Placed s b (Err r) → b ≡ after step_on b (replicate count s)
  nowhere_stays r h = sym (refused_again s b (refuses s b r (no_place s b (Err r) r refl h)) count)

-- the station with the index j, whose record stands at `at`, is number s; after its first i steps the board is d
pub record Repeats (b : List ℕ) (s n K j at i : ℕ) (d : List ℕ) : Type 0 where
  pub number : j + 1 ≡ s
  pub ran : Ran b (replicate i s) d
  pub place : Known n K j at d

pub repeats_begun : (b : List ℕ) (s : ℕ) (found : Result Place refusals.Refusal) (p : Place) → found ≡ Ok p
    → Placed s b found → board_refusal b none ≡ none → Repeats b s (get_or b 0 0) (get_or b 1 0) p.index p.at 0 b
repeats_begun b s found p e h sound =
    let o = at_place s b found p e h in
    record {
      number = omega (arith, o.low, o.index);
      ran = ran_none b sound;
      place = known_at s b found p e h sound;
    }

-- steps leave the head and the length, and with them the place
still_known : (n K j at : ℕ) (b is d : List ℕ) → Known n K j at b → Ran b is d → Known n K j at d
still_known n K j at b is d k r = record {
  sound = r.sound;
  on = record {
    low = k.on.low;
    high = omega (arith, k.on.high, r.head);
    index = k.on.index;
    own = omega (arith, k.on.own, r.head);
    stations = omega (arith, k.on.stations, r.head);
    islands = omega (arith, k.on.islands, r.islands);
    len = r.len ∙ k.on.len ∙ (λ i. board_length (sym r.head i) (sym r.islands i));
    place = k.on.place ∙ (λ i. record_at (sym r.head i) (sym r.islands i) j);
    inside = omega (arith, k.on.inside, r.len);
  };
  stations = k.stations ∙ sym r.head;
  islands = k.islands ∙ sym r.islands;
}

module _ (b : List ℕ) (s n K j at i : ℕ) (d : List ℕ) (t : Repeats b s n K j at i d) where
  pub repeats_known : Known n K j at d
  repeats_known = t.place

  pub repeats_inside : at + 24 ≤ length d
  repeats_inside = t.place.on.inside

  pub repeats_length : length d ≡ length b
  repeats_length = t.ran.len

  pub steps_ended : (count : ℕ) → i ≤ count → count ≤ i → d ≡ after step_on b (replicate count s)
  steps_ended count l m =
      let e : i ≡ count = omega arith in
      t.ran.bytes ∙ ap (λ (k : ℕ). after step_on b (replicate k s)) e

  pub one_step_more : (a : StepAnswer) (x : List ℕ) → StepsOn (j + 1) d a x → Repeats b s n K j at (i + 1) x
  unfolding after StepsOn
  one_step_more a x one = record {
    number = t.number;
    ran =
        subst (λ (is : List ℕ). Ran b is x) (replicate-append-replicate i 1 s)
        (ran_then b (replicate i s) d (s ∷ []) x t.ran bytes);
    place =
        still_known n K j at d (s ∷ []) x t.place
        (ran_then d [] d (s ∷ []) x (ran_none d t.place.sound) bytes);
  }
    where
      bytes : x ≡ (step_on s d).bytes
      bytes = one.1 ∙ ap (λ (k : ℕ). (step_on k d).bytes) t.number

  -- where the station does not go on the board stays as it is, whatever is left
  pub steps_refused : (count : ℕ) → i ≤ count → (1 ≤ get_or d at 0 → get_or d at 0 ≤ 6 → ⊥)
      → d ≡ after step_on b (replicate count s)
  unfolding Placed
  steps_refused count l f =
      let whole : i + (count - i) ≡ count = omega arith in
      let here : Placed (j + 1) d (Ok (record { index = j; at = at })) = t.place.on in
      let no : accepted (step_on s d).answer.did ≡ false =
      ap (λ (k : ℕ). accepted (step_on k d).answer.did) (sym t.number) ∙ stays (j + 1) d _ here f in
      sym (refused_again s d no (count - i))
      ∙ ap (λ (x : List ℕ). after step_on x (replicate (count - i) s)) t.ran.bytes
      ∙ sym (after_append step_on b (replicate i s) (replicate (count - i) s))
      ∙ ap (after step_on b) (replicate-append-replicate i (count - i) s
      ∙ ap (λ (k : ℕ). replicate k s) whole)

pub ruleset counting = (head_long, known, refused_counts, going_counts)

pub ruleset repeating = (head_long, nowhere_stays, repeats_known, repeats_inside, repeats_length, steps_ended)
