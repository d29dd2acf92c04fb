-- A line takes no more steps than a number of 32 bits counts by far: 65,536 for `steps`, and what 255 rounds can take;
-- and one that fails the test of `may_fill` takes fewer than there is room for.
-- Relies on the single calls of a line; the laws of a part rely on it.
use Rattle.model.proofs.Kit.{◌≡◌, refl, sym, ap, ◌∙◌, Bool, false, cond, List, [], ◌∷◌, map, none, some, Option}
use Rattle.model.proofs.Kit.{ℕ, zero, suc, ◌+◌, ◌*◌, ◌/◌, ◌≤◌, ◌<◌, leb, leb-true, leb-false, length, take, replicate}
use Rattle.model.proofs.Kit.{length-append, arith}
use lib.ListN.{length-replicate, length-map}
use Rattle.model.specs.Bytes.{names}
use Rattle.model.specs.Calls.{stations, step}
use Rattle.model.specs.Rounds.{in_turn, round_steps, rounds_steps, rounds_refusal}
use Rattle.model.specs.Forms.{Form, Reading, reads, unread, word_place, read_line, expand}
use Rattle.model.specs.Forms as forms
use Rattle.model.specs.AnyList.{Call, stepping}
use Rattle.model.specs.SheetList.{form_calls, calls_of}
use Rattle.model.specs.Tape.{Entry, entry_of, tape_of}
use Rattle.model.specs.Listing.{accepted}
use Rattle.model.specs.AnyList as calls
use Rattle.model.proofs.Basics.Tests.{cond_case}
use Rattle.model.proofs.Calls.Refusals.{board_of_lem}
use Rattle.line_rounds.proofs.Laws.WholeLine.{few}
use Rattle.std.specs.declared.result.Result.{Result}
use Rattle.model.specs.declared.refusal.Refusal.{Refusal}
use Rattle.sheet.specs.declared.form.LineForm.{LineForm}
use Rattle.sheet.specs.declared.form.LineForm.TheVariants as lines
use Rattle.sheet.specs.LineForms.{told, line_form}
use Rattle.item_reader.specs.Counts.{capped}
use Rattle.taped_sheet.specs.SheetParts.{most_steps, MayFill}
use Rattle.taped_line.specs.TapedLines.{line_tape}
use Rattle.taped_line.proofs.Laws.Lines.{Untaped, untaped_board, untaped_propose, untaped_show, untaped_refused}
use Rattle.taped_line.proofs.Laws.Lines.{untaped_pairs}

-- ---- calls and their entries

-- a call adds one entry at most
one_fewer : (c : Call) (b : List ℕ) → length (entry_of c b) ≤ 1
unfolding entry_of
one_fewer (calls.laying n K) b = omega arith
one_fewer (calls.proposing i v) b = omega arith
one_fewer (calls.stepping i) b =
    cond_case (λ (es : List Entry). length es ≤ 1) (accepted (step i b).answer.did) _ [] (λ e. omega arith)
    (λ e. omega arith)

tape_fewer : (cs : List Call) (b : List ℕ) → length (tape_of cs b) ≤ length cs
unfolding tape_of
tape_fewer [] b = omega arith
tape_fewer (c ∷ cs) b =
    omega (
      arith,
      length-append (entry_of c b) (tape_of cs (calls.called c b)),
      one_fewer c b,
      tape_fewer cs (calls.called c b),
    )

-- ---- the steps of rounds

turns_few : (k : ℕ) → k ≤ 17 → (i : ℕ) (f : ℕ → Bool) → length (in_turn k i f) ≤ 17 * i
unfolding in_turn
turns_few k h zero f = omega arith
turns_few k h (suc i) f =
    omega (
      arith,
      length-append (in_turn k i f) (cond (f (suc i)) [] (replicate k (suc i))),
      turns_few k h i f,
      cond_case (λ (l : List ℕ). length l ≤ 17) (f (suc i)) [] (replicate k (suc i)) (λ e. omega arith)
          (λ e. omega (arith, length-replicate k (suc i))),
    )

rounds_few : (n : ℕ) → n ≤ 16 → (rs : List (List ℕ)) → length (rounds_steps n rs) ≤ 272 * length rs
unfolding rounds_steps round_steps
rounds_few n h [] = omega arith
rounds_few n h (r ∷ rs) =
    omega (
      arith,
      length-append (round_steps n r) (rounds_steps n rs),
      rounds_few n h rs,
      turns_few (n + 1) (omega arith) n (λ i. names i r),
    )

-- ---- the tape of a line

-- the most steps that a line takes, by its reading
unfoldable most : Reading Form → ℕ
most (unread k) = 0
most (reads (forms.board n K)) = 0
most (reads (forms.propose i v)) = 0
most (reads (forms.steps is)) = capped (length (expand is))
most (reads forms.show) = 0
most (reads (forms.rounds k rs)) = 272 * length rs
most (reads (forms.proposals ps)) = 0

module _ (laid : ℕ) (m line : List ℕ) where
  of_none : Untaped line → length (line_tape laid m line) ≤ 0
  unfolding Untaped
  of_none h = omega (arith, ap length (h laid m))

  by_calls : (r : Reading Form) (k : ℕ) → read_line line ≡ r → length (calls_of (take laid m) r) ≤ k
      → length (line_tape laid m line) ≤ k
  unfolding line_tape
  by_calls r k e h =
      omega (
        arith,
        h,
        ap (λ (q : Reading Form). length (calls_of (take laid m) q)) e,
        tape_fewer (calls_of (take laid m) (read_line line)) (take laid m),
      )

  line_most : (r : Reading Form) → read_line line ≡ r → length (line_tape laid m line) ≤ most r
  unfolding most
  line_most (unread k) e = of_none (untaped_refused line k e)
  line_most (reads (forms.board n K)) e = of_none (untaped_board line n K e)
  line_most (reads (forms.propose i v)) e = of_none (untaped_propose line i v e)
  line_most (reads forms.show) e = of_none (untaped_show line e)
  line_most (reads (forms.proposals ps)) e = of_none (untaped_pairs line ps e)
  line_most (reads (forms.steps is)) e = by_calls _ _ e (unfold calls_of form_calls in
      cond_case (λ (cs : List Call). length cs ≤ capped (length (expand is))) (leb (length (expand is)) 65536)
      (map stepping (expand is)) []
      (λ t. omega (arith, leb-true (length (expand is)) 65536 t, length-map (expand is) stepping))
      (λ t. omega arith))
  line_most (reads (forms.rounds k rs)) e = by_calls _ _ e (unfold calls_of form_calls in
      turned (rounds_refusal k rs (take laid m)) refl)
    where
      turned : (q : Option ℕ) → rounds_refusal k rs (take laid m) ≡ q
          → length {A = Call} (elim q [
            | none ↦ map stepping (rounds_steps (stations (take laid m)) rs)
            | some j ↦ []
          ])
          ≤ 272 * length rs
      turned (some j) f = omega arith
      turned none f =
          omega (
            arith,
            length-map (rounds_steps (stations (take laid m)) rs) stepping,
            rounds_few (stations (take laid m)) high rs,
          )
        where
          high : stations (take laid m) ≤ 16
          high = unfold rounds_refusal in (board_of_lem (take laid m) _ f).0.shape.stations_high

  pub line_few : length (line_tape laid m line) ≤ most_steps
  unfolding most_steps
  line_few = omega (arith, line_most (read_line line) refl, by (read_line line) refl)
    where
      by : (r : Reading Form) → read_line line ≡ r → most r ≤ 69632
      by (unread k) e = unfold most in omega arith
      by (reads (forms.board n K)) e = unfold most in omega arith
      by (reads (forms.propose i v)) e = unfold most in omega arith
      by (reads forms.show) e = unfold most in omega arith
      by (reads (forms.proposals ps)) e = unfold most in omega arith
      by (reads (forms.steps is)) e = unfold most in omega arith
      by (reads (forms.rounds k rs)) e = unfold most in omega (arith, few line k rs e)

-- ---- a line that cannot fill the buffer

-- the test that the code makes; a round takes 272 steps at most
unfoldable pub may_fill : (rooms : ℕ) → Reading LineForm → Bool
may_fill rooms (reads (lines.Board n K)) = false
may_fill rooms (reads (lines.Propose i v)) = false
may_fill rooms (reads (lines.Steps at c)) = leb rooms c
may_fill rooms (reads lines.Show) = false
may_fill rooms (reads (lines.Rounds at n s)) = leb (rooms / 272) n
may_fill rooms (reads (lines.Proposals at n)) = false
may_fill rooms (unread k) = false

-- neither steps nor rounds
pub never_fills : (rooms : ℕ) (x : LineForm) → ((at c : ℕ) → x ≡ lines.Steps at c → ⊥)
    → ((at n s : ℕ) → x ≡ lines.Rounds at n s → ⊥) → false ≡ may_fill rooms (reads x)
unfolding may_fill
never_fills rooms (lines.Board n K) no-steps no-rounds = refl
never_fills rooms (lines.Propose i v) no-steps no-rounds = refl
never_fills rooms (lines.Steps at c) no-steps no-rounds = absurd (no-steps at c refl)
never_fills rooms lines.Show no-steps no-rounds = refl
never_fills rooms (lines.Rounds at n s) no-steps no-rounds = absurd (no-rounds at n s refl)
never_fills rooms (lines.Proposals at n) no-steps no-rounds = refl

module _ (rooms : ℕ) (some_room : 1 ≤ rooms) where
  fewer : (at : ℕ) (r : Reading Form) → may_fill rooms (line_form at r) ≡ false → most r < rooms
  unfolding most may_fill line_form
  fewer at (unread k) e = omega arith
  fewer at (reads (forms.board n K)) e = omega arith
  fewer at (reads (forms.propose i v)) e = omega arith
  fewer at (reads forms.show) e = omega arith
  fewer at (reads (forms.proposals ps)) e = omega arith
  fewer at (reads (forms.steps is)) e = leb-false rooms (capped (length (expand is))) e
  fewer at (reads (forms.rounds k rs)) e = omega (arith, leb-false (rooms / 272) (length rs) e)

  -- f is the form x
  pub may_fill_lem : (f x : Result LineForm Refusal) (t : Bool) → f ≡ x → t ≡ may_fill rooms (told x) → MayFill rooms f t
  unfolding MayFill
  may_fill_lem f x t e h n line laid m read =
      omega (
        arith,
        line_most laid m line (read_line line) refl,
        fewer (word_place line) (read_line line) (ap (may_fill rooms) (sym read ∙ ap told e) ∙ sym h ∙ n),
      )
