-- Where a station on a sound board goes on, by its place and its phase, and whether a step of it is taken.
-- Relies on Stepping; the proofs of `going` and the laws of Repeated rely on it.
use Rattle.std.specs.Prelude.{Ok, Err, is_ok}
use Rattle.std.specs.declared.result.Result.{Result}
use Rattle.model.proofs.Kit.{◌≡◌, subst, refl, sym, ap, ◌∙◌, true, false, List, none, ℕ, zero, suc, ◌+◌, ◌-◌, ◌≤◌, ◌<◌, get_or, arith}
use Rattle.model.specs.declared.StepAnswer.{StepAnswer}
use Rattle.model.specs.declared.refusal.Refusal as refusals
use Rattle.model.specs.declared.refusal.Refusal.TheVariants.{StillIdle, HasDecided, IsSpent}
use Rattle.model.specs.Bytes.{part}
use Rattle.model.specs.Figure.{Figure}
use Rattle.model.specs.Listing.{accepted, outcome}
use Rattle.model.specs.Filled.{Report}
use Rattle.model.specs.Layout.{read_record}
use Rattle.model.specs.Calls.{board_refusal, step_on}
use Rattle.model.specs.Told.{told}
use Rattle.codec.specs.Parts.{meeting}
use Rattle.soundness.specs.declared.place.Place.{Place}
use Rattle.soundness.specs.Placed.{Placed}
use Rattle.soundness.proofs.Laws.Placing.{head_long, at_place, place_inside}
use Rattle.accessing.specs.Accessed.{Known, StepsOn}
use Rattle.accessing.proofs.Laws.Stepping as stepping
use Rattle.stepping.specs.Stepped.{Going, Goes}

module _ (i : ℕ) (b : List ℕ) (found : Result Place refusals.Refusal) where
  pub no_place : (r : refusals.Refusal) → found ≡ Err r → Placed i b found → Goes i b (Err r)
  unfolding Goes
  no_place r e h = stepping.no_station i b found r e h

  module _ (p : Place) (is : found ≡ Ok p) (h : Placed i b found) where
    pub goes : 1 ≤ get_or b p.at 0 → get_or b p.at 0 ≤ 6 → Goes i b (Ok p)
    unfolding Goes
    goes l m = record { on = at_place i b found p is h; low = l; high = m }

    pub still_idle : get_or b p.at 0 ≡ 0 → Goes i b (Err StillIdle)
    unfolding Goes
    still_idle z = stepping.fourteen i b found p is h z

    pub has_decided : get_or b p.at 0 ≡ 7 → Goes i b (Err HasDecided)
    unfolding Goes
    has_decided z = stepping.fifteen i b found p is h z

    pub is_spent : 6 < get_or b p.at 0 → (get_or b p.at 0 ≡ 7 → ⊥) → Goes i b (Err IsSpent)
    unfolding Goes
    is_spent l z = stepping.sixteen i b found p is h l z

-- what was found: a step that is refused, or one that is taken
module _ (i : ℕ) (b : List ℕ) where
  pub refuses : (r : refusals.Refusal) → Goes i b (Err r) → accepted (step_on i b).answer.did ≡ false
  unfolding Goes StepsOn told accepted outcome
  refuses r g = sym (ap (λ (r : Report Figure). accepted r.did) g.0)

  module _ (p : Place) (g : Going i b p) where
    pub number_is : p.index + 1 ≡ i
    number_is = omega (arith, g.on.low, g.on.index)

    pub known : board_refusal b none ≡ none → Known (get_or b 0 0) (get_or b 1 0) p.index p.at b
    unfolding Placed
    known sound = stepping.known_at i b (Ok p) p refl g.on sound

    pub takes : board_refusal b none ≡ none → accepted (step_on i b).answer.did ≡ true
    takes sound =
        ap (λ (k : ℕ). accepted (step_on k b).answer.did) (sym number_is)
        ∙ stepping.is_taken _ _ p.index p.at b (known sound) (meeting 0 (read_record (part p.at 24 b))) refl g.low g.high

    pub by_number : (r : StepAnswer) (d : List ℕ) → StepsOn (p.index + 1) b r d → StepsOn i b r d
    by_number r d = subst (λ (k : ℕ). StepsOn k b r d) number_is

  -- by the phase alone
  pub stays : (p : Place) → Placed i b (Ok p) → (1 ≤ get_or b p.at 0 → get_or b p.at 0 ≤ 6 → ⊥)
      → accepted (step_on i b).answer.did ≡ false
  stays p h f = by_phase (get_or b p.at 0) refl
    where
      past : (m : ℕ) → get_or b p.at 0 ≡ m + 7 → accepted (step_on i b).answer.did ≡ false
      past zero e = refuses HasDecided (has_decided i b (Ok p) p refl h (omega arith))
      past (suc m) e = refuses IsSpent (is_spent i b (Ok p) p refl h (omega arith) (λ q. omega arith))

      by_phase : (m : ℕ) → get_or b p.at 0 ≡ m → accepted (step_on i b).answer.did ≡ false
      by_phase zero e = refuses StillIdle (still_idle i b (Ok p) p refl h e)
      by_phase (suc m) e = past (m - 6) (omega (arith, f))

  pub going_is_taken : (found : Result Place refusals.Refusal) → board_refusal b none ≡ none → Goes i b found
      → is_ok found ≡ accepted (step_on i b).answer.did
  unfolding Goes
  going_is_taken (Ok p) sound g = sym (takes p g sound)
  going_is_taken (Err r) sound g = sym (refuses r g)

pub ruleset finding = (place_inside, no_place, goes, still_idle, has_decided, is_spent)

pub ruleset stepping_on = (head_long, known, by_number)
