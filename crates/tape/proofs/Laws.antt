-- The program's loop: what is written lies in the buffer, and each part leads on.
-- Relies on the parts of a tape; the proof of `main` relies on it.
use Rattle.model.proofs.Kit.{◌≡◌, sym, ap, subst, subst₂, List, ℕ, ◌+◌, ◌*◌, ◌-◌, ◌/◌, ◌≤◌, ◌<◌, length, take, arith}
use lib.ListN.{length-take}
use lib.Seq.{length-take-le}
use Rattle.taped_sheet.specs.declared.SheetPart.{SheetPart}
use Rattle.taped_sheet.specs.SheetParts.{Part, part_at, most_steps, PartIs}
use Rattle.taped_sheet.proofs.Laws.Whole as whole

-- the buffer has room for 1,024 lines
pub rooms : (out : List ℕ) → length out ≡ 57344 → 1 ≤ length out / 56
rooms out h = omega arith

pub written : (p : Part) (r : SheetPart) (d o : List ℕ) → PartIs p r d o → r.len ≤ length o
written p r d o h = omega (arith, ap length h.text, h.len, length-take r.len o)

pub still_few : (p : Part) (r : SheetPart) (d o : List ℕ) → PartIs p r d o → r.done ≤ most_steps
still_few p r d o h = h.few

pub part_there : (sheet : List ℕ) (len at : ℕ) → len ≤ length sheet → at < len → at < length (take len sheet)
part_there sheet len at h l = omega (arith, length-take-le len sheet h)

module _ (sheet : List ℕ) (len at done laid : ℕ) (m out : List ℕ) (r : SheetPart) (d o : List ℕ)
    (is : PartIs (part_at (length out / 56) (take len sheet) at done laid m) r d o) (inside : len ≤ length sheet)
    (more : at < len) (size : length out ≡ 57344) (few : done ≤ most_steps) where
  long : length (take len sheet) ≡ len
  long = length-take-le len sheet inside

  there : at < length (take len sheet)
  there = part_there sheet len at inside more

  pub falls : (len - r.next) * 69633 + (69632 - r.done) < (len - at) * 69633 + (69632 - done)
  falls =
      subst (λ (n : ℕ). (n - r.next) * 69633 + (69632 - r.done) < (n - at) * 69633 + (69632 - done)) long
      (subst₂ (λ (x y : ℕ). (length (take len sheet) - x) * 69633 + (69632 - y)
      < (length (take len sheet) - at) * 69633 + (69632 - done)) (sym is.next) (sym is.done)
      (whole.falls (length out / 56) (take len sheet) at done laid m there (rooms out size) few))
