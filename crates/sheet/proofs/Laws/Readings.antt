-- The reading that a form of the code came from; `steps` tells that it was steps, but of its items their count alone,
-- `rounds` that it was rounds, but of these their number and what they need, and pairs their number.
-- Relies on `line_form`; the run of a line's items and the player of a line rely on it.
use Rattle.model.proofs.Kit.{◌≡◌, refl, sym, ap, subst, ◌∙◌, false, List, none, some, ℕ, ◌≤◌, leb, leb-true, length}
use Rattle.model.specs.Calls.{Refusal}
use Rattle.model.specs.Proposals.{Proposal}
use Rattle.model.specs.Forms.{Form, board, propose, steps, show, rounds, proposals, Items, Reading, reads, unread}
use Rattle.model.specs.Forms.{form_in, or_four, read_line}
use Rattle.model.proofs.Basics.Tests.{by_test, impossible}
use Rattle.model.proofs.Calls.Refusals.{unless_fails}
use Rattle.halts.specs.Needs.{needs}
use Rattle.sheet.specs.declared.form.LineForm.{LineForm}
use Rattle.sheet.specs.declared.form.LineForm.TheVariants.{Board, Propose, Steps, Show, Rounds, Proposals}
use Rattle.sheet.specs.LineForms.{line_form}

-- what the code's reading tells of the model's
abbrev pub Tells : Reading LineForm → Reading Form → Type 0
Tells (reads (Board n K)) q = q ≡ reads (board n K)
Tells (reads (Propose i v)) q = q ≡ reads (propose i v)
Tells (reads (Steps at c)) q = (is : Items) × (q ≡ reads (steps is))
Tells (reads Show) q = q ≡ reads show
Tells (reads (Rounds at n s)) q =
    (k : ℕ) × (rs : List (List ℕ)) × (q ≡ reads (rounds k rs)) × (n ≡ length rs) × (s ≡ needs k rs)
Tells (reads (Proposals at m)) q = (ps : List Proposal) × (q ≡ reads (proposals ps)) × (m ≡ length ps)
Tells (unread k) q = q ≡ unread k

its_own : (at : ℕ) (q : Reading Form) → Tells (line_form at q) q
unfolding line_form
its_own at (reads (board n K)) = refl
its_own at (reads (propose i v)) = refl
its_own at (reads (steps is)) = (is, refl)
its_own at (reads show) = refl
its_own at (reads (rounds k rs)) = (k, rs, refl, refl, refl)
its_own at (reads (proposals ps)) = (ps, refl, refl)
its_own at (unread k) = refl

pub read_as_lem : (at : ℕ) (q : Reading Form) (f : Reading LineForm) → line_form at q ≡ f → Tells f q
read_as_lem at q f e = subst (λ (g : Reading LineForm). Tells g q) e (its_own at q)

-- ---- a line that is read has at most 255 bytes

too_long : (l : List ℕ) → leb (length l) 255 ≡ false → unread 2 ≡ read_line l
unfolding read_line
too_long l t =
    sym (ap (λ (r : Refusal). elim r [ none ↦ or_four (form_in l) | some k ↦ unread k ])
    (unless_fails (leb (length l) 255) 2 _ t))

pub not_long : (l : List ℕ) (f : Form) → read_line l ≡ reads f → length l ≤ 255
not_long l f e =
    by_test (leb (length l) 255) (λ t. leb-true (length l) 255 t)
    (λ t. impossible (let q : unread 2 ≡ reads f = too_long l t ∙ e in cc))
