-- Refusals 7 to 11 of a lent board, each where the tests before it pass and its own fails.
-- Relies on the model's refusals; the proofs of shape and of check_board rely on it.
use Rattle.model.proofs.Kit.{◌≡◌, sym, ap, ◌∙◌, Bool, true, false, not, List, none, ℕ, ◌≤◌}
use Rattle.model.proofs.Kit.{◌<◌, length, get_or, arith}
use borrow.Author.Tests.{not-true, not-false}
use Rattle.std.specs.Prelude.{Ok, Err}
use Rattle.std.specs.declared.result.Result.{Result}
use Rattle.model.specs.declared.refusal.Refusal.{Refusal}
use Rattle.model.specs.declared.refusal.Refusal.TheVariants.{TooShort, StationsOutOfRange, IslandsOutOfRange, WrongLength, Unsound}
use Rattle.model.specs.Layout.{board_length}
use Rattle.model.specs.Sound.{sound}
use Rattle.model.specs.Calls.{unless, ranges, shape_refusal, stations, islands, board_refusal}
use Rattle.model.specs.Told.{verdict, number}
use Rattle.model.proofs.Calls.Refusals.{some_none, Shape, shape_7, shape_8, shape_9, shape_10, shape_on, inside_itself}
use Rattle.model.proofs.Calls.Refusals.{shape_of}
use Rattle.model.proofs.Calls.Refusals.{shape_passes, shape_first}
use Rattle.soundness.specs.Shaped.{Shaped}

-- ---- the shape, for any ranges
module _ (n K : ℕ) (b : List ℕ) (s i : Bool) where
  pub seven : length b < 8 → Shaped n K s i b (Err TooShort)
  unfolding Shaped verdict
  seven h asked es ei = sym (shape_7 asked n K b none h)

  module _ (h : 8 ≤ length b) where
    pub eight : not s ≡ true → Shaped n K s i b (Err StationsOutOfRange)
    unfolding Shaped verdict
    eight x asked es ei = sym (shape_8 asked n K b none h (sym es ∙ not-true s x))

    module _ (x : not s ≡ false) where
      pub nine : not i ≡ true → Shaped n K s i b (Err IslandsOutOfRange)
      unfolding Shaped verdict
      nine y asked es ei = sym (shape_9 asked n K b none h (sym es ∙ not-false s x) (sym ei ∙ not-true i y))

      module _ (y : not i ≡ false) (l : ℕ) (e : l ≡ board_length n K) where
        pub ten : (length b ≡ l → ⊥) → Shaped n K s i b (Err WrongLength)
        unfolding Shaped verdict
        ten f asked es ei =
            sym (shape_10 asked n K b none h (sym es ∙ not-false s x) (sym ei ∙ not-false i y) (λ q. f (q ∙ sym e)))

        pub shaped : length b ≡ l → Shaped n K s i b (Ok tt)
        unfolding Shaped verdict
        shaped q asked es ei =
            sym (shape_on asked n K b none h (sym es ∙ not-false s x) (sym ei ∙ not-false i y) (q ∙ e))

-- ---- the board, with n and K from its head
pub no_head : (b : List ℕ) → length b < 8 → verdict (Err TooShort) ≡ board_refusal b none
unfolding verdict board_refusal
no_head b h = sym (shape_7 ranges (stations b) (islands b) b _ h)

module _ (b : List ℕ) (s i : Bool) (es : s ≡ ranges.stations_in (get_or b 0 0)) (ei : i ≡ ranges.islands_in (get_or b 1 0))
    (r : Result (Unit {0}) Refusal)
    (sh : Shaped (get_or b 0 0) (get_or b 1 0) s i b r) where
  said : verdict r ≡ shape_refusal ranges (stations b) (islands b) b none
  unfolding Shaped stations islands
  said = sh ranges es ei

  pub turned_down_lem : (why : Refusal) → r ≡ Err why → verdict (Err why) ≡ board_refusal b none
  unfolding verdict board_refusal
  turned_down_lem why e =
      sym (shape_first ranges (stations b) (islands b) b none _ (number why) (λ q. some_none (number why) (sym q))
      (sym said ∙ ap verdict e))

  module _ (x : Unit {0}) (e : r ≡ Ok x) where
    shape : Shape (get_or b 0 0) (get_or b 1 0) b
    unfolding stations islands verdict
    shape = (shape_of (stations b) (islands b) b ranges inside_itself none (sym said ∙ ap verdict e)).0

    by_sound : board_refusal b none ≡ unless (sound (get_or b 0 0) (get_or b 1 0) b) 11 none
    unfolding board_refusal stations islands
    by_sound = shape_passes (stations b) (islands b) b shape _

    -- n and K as the code hands them on
    module _ (n k : ℕ) (en : n ≡ get_or b 0 0) (ek : k ≡ get_or b 1 0) where
      pub in_range : (length b ≡ board_length n k) × (1 ≤ n) × (n ≤ 16) × (2 ≤ k) × (k ≤ 64)
      in_range =
          let s = shape in
          (s.len ∙ (λ i. board_length (sym en i) (sym ek i)), omega arith, omega arith, omega arith, omega arith)

      module _ (t : Bool) (et : t ≡ sound n k b) where
        same_sound : t ≡ sound (get_or b 0 0) (get_or b 1 0) b
        same_sound = et ∙ (λ i. sound (en i) (ek i) b)

        pub unsound : not t ≡ true → verdict (Err Unsound) ≡ board_refusal b none
        unfolding verdict unless
        unsound h = sym (by_sound ∙ ap (λ (a : Bool). unless a 11 none) (sym same_sound ∙ not-true t h))

        pub accepted : not t ≡ false → verdict (Ok tt) ≡ board_refusal b none
        unfolding verdict unless
        accepted h = sym (by_sound ∙ ap (λ (a : Bool). unless a 11 none) (sym same_sound ∙ not-false t h))

pub long_enough : (n k : ℕ) (b : List ℕ) → length b ≡ board_length n k → 8 ≤ length b
unfolding board_length
long_enough n k b e = omega arith

-- what each return has to show
pub ruleset shape_checked = (seven, eight, nine, ten, shaped)

pub ruleset checked = (no_head, turned_down_lem, in_range, unsound, accepted)
