-- Items run as they stand in a line: the steps taken so far are few, and another item makes a longer run.
-- Relies on the laws of items gone over and on runs put together of runs; the proof of `run_item` and `run_items`
-- relies on it.
use Rattle.model.proofs.Kit.{◌≡◌, ap, List, [], ◌∷◌, ◌++◌, none, ℕ, ◌+◌, ◌≤◌, ◌<◌, ◌*◌, length, get_or, length-append}
use Rattle.model.proofs.Kit.{w32, Fits, arith}
use native.Mathlib.Nat.{mul-le-mul_right}
use Rattle.model.specs.Calls.{board_refusal}
use Rattle.model.specs.Forms.{Items, expand_item, expand}
use Rattle.model.proofs.Sheet.Limits.{length_repeated}
use Rattle.lexer.specs.declared.At.{At}
use Rattle.lexer.specs.Known.{KnownIs}
use Rattle.stepping.specs.Stepped.{RunsOn}
use Rattle.stepping.proofs.Laws.Running.{runs_below}
use Rattle.stepping.proofs.Laws.Joined.{runs_none, runs_then, runs_sound, runs_length}
use Rattle.item_walks.specs.ItemWalks.{PartDone}
use Rattle.item_walks.proofs.Laws.Items.{same_items}
use Rattle.item_walks.proofs.Laws.Repeats.{Repeats, times_steps}
use Rattle.item_walks.proofs.Laws.Passing as passing
use Rattle.item_walks.proofs.Laws.Passing.{Passed, NextRead, item_steps}
use Rattle.line_run.specs.LineRuns.{ItemRunnable, ItemsRunnable, RunFrom, ItemRuns, ItemsRun}

-- ---- runs from a board to another

pub run_none : (b : List ℕ) → RunFrom b 0 b []
unfolding RunFrom
run_none b = runs_none b

pub run_one : (i : ℕ) (b d : List ℕ) (t : ℕ) → RunsOn (i ∷ []) b t d → RunFrom b t d (i ∷ [])
unfolding RunFrom
run_one i b d t h = h

pub run_then : (b d e : List ℕ) (s t : ℕ) (xs ys : List ℕ) → RunFrom b s d xs → RunFrom d t e ys
    → RunFrom b (s + t) e (xs ++ ys)
unfolding RunFrom
run_then b d e s t xs ys h g = runs_then xs ys b d e s t h g

module _ (b d : List ℕ) (t : ℕ) (is : List ℕ) (h : RunFrom b t d is) where
  run_below : t ≤ length is
  unfolding RunFrom
  run_below = runs_below is b t d h

  module _ (sound : board_refusal b none ≡ none) where
    pub run_sound : board_refusal d none ≡ none
    unfolding RunFrom
    run_sound = runs_sound is b d t sound h

    pub run_length : length d ≡ length b
    unfolding RunFrom
    run_length = runs_length is b d t sound h

-- ---- an item that repeats

module _ (line : List ℕ) (at : ℕ) (item : ItemRunnable line at) (bracket : get_or line at 0 ≡ 40)
    (n : At ℕ) (is : KnownIs line (at + 7) n) (b d : List ℕ) (total after i : ℕ)
    (repeats : Repeats (RunFrom b total d) line n.value n.next after i) (more : i < n.value) where
  -- the steps of one repeat
  abbrev inner : List ℕ
  inner = expand repeats.there.value

  few_all : n.value * length inner ≤ 65536
  few_all =
      omega (
        arith,
        length_repeated n.value inner,
        ap length (times_steps line at bracket item.there n is repeats.there),
        item.few,
      )

  few_up_to : (j : ℕ) → j ≤ n.value → j * length inner ≤ 65536
  few_up_to j l = omega (arith, few_all, mul-le-mul_right (length inner) l)

  -- the items of a repeat are few enough to run
  pub repeat_runnable : ItemsRunnable line n.next
  repeat_runnable = record { there = repeats.there; few = omega (arith, few_up_to 1 (omega arith)) }

  pub repeat_fits : (w : At ℕ) (e : List ℕ) → ItemsRun line n.next d w e → Fits w32 (total + w.value)
  unfolding PartDone
  repeat_fits w e runs =
      record {
        fits =
            omega (
              arith,
              few_up_to (i + 1) (omega arith),
              length_repeated i inner,
              run_below _ _ _ _ repeats.ran,
              run_below _ _ _ _ (runs _ _ _ repeats.there.read).ran,
            );
      }

-- ---- a list of items

module _ (line : List ℕ) (at : ℕ) (items : ItemsRunnable line at) (b d : List ℕ) (total place : ℕ)
    (passed : Passed (RunFrom b total d) line at place) (space : get_or line place 0 ≡ 32) where
  abbrev item : NextRead line place passed.left.value passed.left.rest
  item = passing.item (RunFrom b total d) line at place passed space

  few_so_far : length passed.steps + length (expand_item item.item.value) ≤ 65536
  few_so_far =
      omega (
        arith,
        items.few,
        length-append passed.steps (expand_item item.item.value),
        length-append (passed.steps ++ expand_item item.item.value) (expand item.items),
        ap length (item_steps (RunFrom b total d) line at place passed space),
        ap (λ (x : Items). length (expand x)) (same_items line at passed.there items.there).0,
      )

  pub item_runnable : ItemRunnable line (place + 1)
  item_runnable = record { there = item.item; few = omega (arith, few_so_far) }

  module _ (w : At ℕ) (e : List ℕ) (runs : ItemRuns line (place + 1) d w e) where
    pub passed_fits : Fits w32 (total + w.value)
    unfolding PartDone
    passed_fits =
        record {
          fits =
              omega (
                arith,
                few_so_far,
                run_below _ _ _ _ passed.ran,
                run_below _ _ _ _ (runs _ _ _ item.item.read).ran,
              );
        }

    pub passed_more : Passed (RunFrom b (total + w.value) e) line at w.next
    passed_more =
        passing.passed_more (RunFrom b total d) line at place passed space (RunFrom d w.value e)
        w.next runs (RunFrom b (total + w.value) e)
        (run_then b d e total w.value)
