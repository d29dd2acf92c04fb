-- What a round needs with one station more, and rounds with one more at their end.
-- Relies on the definitions of the crate; the loops over stations and over rounds rely on it.
use Rattle.model.proofs.Kit.{◌≡◌, refl, ap, ◌∙◌, List, [], ◌∷◌, ◌++◌, ℕ, ◌≤◌, leb, ltb, arith}
use Prim.Native.Nat.{max}
use Rattle.model.proofs.Basics.Tests.{cond_case}
use Rattle.halts.specs.Needs.{climb, climbs, closed, round_needs, needs}

pub climbs_grown : (last : ℕ) (r : List ℕ) (i : ℕ) → climbs last (r ++ (i ∷ [])) ≡ climb (climbs last r) i
unfolding climbs
climbs_grown last [] i = refl
climbs_grown last (j ∷ js) i = climbs_grown (climb last j) js i

pub needs_grown : (k : ℕ) (rs : List (List ℕ)) (r : List ℕ)
    → needs k (rs ++ (r ∷ [])) ≡ max (needs k rs) (round_needs k r)
unfolding needs
needs_grown k [] r = omega arith
needs_grown k (q ∷ rs) r = ap (max (round_needs k q)) (needs_grown k rs r) ∙ omega arith

-- a byte stays a byte
pub climb_byte : (last i : ℕ) → i ≤ 255 → climb last i ≤ 255
unfolding climb
climb_byte last i h = cond_case (λ (x : ℕ). x ≤ 255) (ltb last i) i 255 (λ e. h) (λ e. omega arith)

pub closed_byte : (last count k : ℕ) → last ≤ 255 → closed last count k ≤ 255
unfolding closed
closed_byte last count k h = cond_case (λ (x : ℕ). x ≤ 255) (leb count k) last 255 (λ e. h) (λ e. omega arith)
