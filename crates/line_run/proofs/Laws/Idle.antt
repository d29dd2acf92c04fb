-- A repeat in which no step is taken: the board stays as it was, and so it does in every repeat that would follow.
-- Relies on the laws of repeats gone over, on runs put together of runs and on the model's refused steps; the proof of
-- `run_item` and `run_items` relies on it.
use Rattle.model.proofs.Kit.{◌≡◌, refl, sym, ap, subst, ◌∙◌, Bool, true, false, cond, List, [], ◌∷◌, ◌++◌, ℕ, zero, suc}
use Rattle.model.proofs.Kit.{◌+◌, ◌<◌, arith}
use Rattle.model.specs.Calls.{step_on}
use Rattle.model.specs.Listing.{accepted}
use Rattle.model.specs.Forms.{repeated}
use Rattle.model.specs.Runs.{taken, answers, after}
use Rattle.model.proofs.Calls.Refused.{step_on_refused}
use Rattle.stepping.specs.Stepped.{RunsOn}
use Rattle.stepping.proofs.Laws.Joined.{runs_none, runs_then}
use Rattle.item_walks.proofs.Laws.Repeats as walks
use Rattle.item_walks.proofs.Laws.Repeats.{Repeats}
use Rattle.lexer.specs.declared.At.{At}
use Rattle.line_run.specs.LineRuns.{RunFrom, ItemsRun}
use Rattle.line_run.proofs.Laws.RunItems.{run_then}

-- ---- runs that take no step

idle_after : (is b : List ℕ) → taken (answers step_on b is) ≡ 0 → after step_on b is ≡ b
unfolding taken answers after
idle_after [] b e = refl
idle_after (i ∷ is) b e = go (accepted (step_on i b).answer.did) refl (idle_after is b)
  where
    go : (a : Bool) → accepted (step_on i b).answer.did ≡ a → (taken (answers step_on b is) ≡ 0 → after step_on b is ≡ b)
        → after step_on (step_on i b).bytes is ≡ b
    go true h rest = absurd (omega (arith, ap {B = ℕ} (λ (t : Bool). cond t 1 0) h))
    go false h rest =
        let same : (step_on i b).bytes ≡ b = step_on_refused i b h in
        ap (λ (d : List ℕ). after step_on d is) same
        ∙ rest (omega (
          arith,
          ap {B = ℕ} (λ (t : Bool). cond t 1 0) h,
          ap (λ (d : List ℕ). taken (answers step_on d is)) same,
        ))

runs_idle : (is b d : List ℕ) → RunsOn is b 0 d → d ≡ b
unfolding RunsOn
runs_idle is b d h = h.2 ∙ idle_after is b (sym h.0)

idle_again : (is b : List ℕ) → RunsOn is b 0 b → (j : ℕ) → RunsOn (repeated j is) b 0 b
unfolding repeated
idle_again is b h zero = runs_none b
idle_again is b h (suc j) = runs_then is (repeated j is) b b b 0 0 h (idle_again is b h j)

idle_repeats : (b d : List ℕ) (t : ℕ) → t ≡ 0 → (is : List ℕ) → RunFrom b t d is → (j : ℕ)
    → RunFrom b t d (repeated j is)
unfolding RunFrom
idle_repeats b d t z is h j =
    let idle : RunsOn is b 0 d = subst (λ (n : ℕ). RunsOn is b n d) z h in
    let stays : d ≡ b = runs_idle is b d idle in
    subst (λ (n : ℕ). RunsOn (repeated j is) b n d) (sym z)
    (subst (RunsOn (repeated j is) b 0) (sym stays) (idle_again is b (subst (RunsOn is b 0) stays idle) j))

-- ---- the repeats of an item

-- another repeat
pub repeat_on : (line b : List ℕ) (k inner : ℕ) (d : List ℕ) (total place i : ℕ)
    → Repeats (RunFrom b total d) line k inner place i → i < k
    → (w : At ℕ) (e : List ℕ) → ItemsRun line inner d w e → Repeats (RunFrom b (total + w.value) e) line k inner w.next (i + 1)
repeat_on line b k inner d total place i repeats more w e runs =
    walks.repeat_more (RunFrom b total d) (RunFrom d w.value e) (RunFrom b (total + w.value) e)
    (run_then b d e total w.value) line k inner place i repeats more w.next runs

-- one that takes no step stands for all that are left
pub repeat_idle : (line b : List ℕ) (k inner : ℕ) (d : List ℕ) (total place i : ℕ)
    → Repeats (RunFrom b total d) line k inner place i → i < k
    → (w : At ℕ) (e : List ℕ) → ItemsRun line inner d w e → w.value ≡ 0 → Repeats (RunFrom b total e) line k inner w.next k
repeat_idle line b k inner d total place i repeats more w e runs z =
    walks.repeats_idle (RunFrom b total d) (RunFrom d w.value e) (RunFrom b total e)
    (λ xs ys h g. subst (λ (t : ℕ). RunFrom b t e (xs ++ ys)) (omega (arith, z)) (run_then b d e total w.value xs ys h g))
    line k inner place i repeats more w.next runs (idle_repeats d e w.value z)
