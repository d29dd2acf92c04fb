-- The culprit's line as a part of its tape: it stands where it starts, it is not empty, and it has no LF.
-- Relies on the lines of a tape as parts that a mark ends, and on Culprits; it proves the last claim of
-- specs/TwoTapes.antt.
use Rattle.model.proofs.Kit.{◌≡◌, refl, sym, ap, ◌∙◌, true, List, [], ◌∷◌, some, ℕ, zero, suc, ◌+◌, ◌<◌, eqb-false, eqb}
use Rattle.model.proofs.Kit.{length, take, drop, drop-drop, arith}
use Rattle.model.specs.Bytes.{Each, ended_by}
use Rattle.model.specs.Sheet.{lines_of}
use Rattle.model.specs.Tape.{line_at, line_start, is_entry, entry_in, taped, Tap, first, second, part_of, culprit_part}
use Rattle.model.proofs.Basics.Ended.{front, parts_at}
use Rattle.model.proofs.Basics.Tests.{clash, never, cond_case}
use Rattle.tape_laws.specs.TwoTapes.{tape_by, PartStands, CulpritStands}
use Rattle.tape_laws.proofs.Compared.{one_line, no_zeroth, told}
use Rattle.tape_laws.proofs.Culprits.{line_taped}

-- ---- the part in front

front_stands : (t : List ℕ) → take (length (front 10 t)) t ≡ front 10 t
unfolding front
front_stands [] = refl
front_stands (b ∷ t) =
    cond_case (λ (w : List ℕ). take (length w) (b ∷ t) ≡ w) (eqb b 10) [] (b ∷ front 10 t) (λ e. refl)
    (λ e. ap (λ (w : List ℕ). b ∷ w) (front_stands t))

NoEnd : List ℕ → Type 0
NoEnd l = Each (λ b. b ≡ 10 → ⊥) l

front_no_end : (t : List ℕ) → NoEnd (front 10 t)
unfolding NoEnd front Each
front_no_end [] = tt
front_no_end (b ∷ t) =
    cond_case NoEnd (eqb b 10) [] (b ∷ front 10 t) (λ e. tt) (λ e. (eqb-false b 10 e, front_no_end t))

-- ---- the line with a number

record Stands (k : ℕ) (s l : List ℕ) : Type 0 where
  there : take (length l) (drop (line_start k (lines_of s)) s) ≡ l
  no_end : NoEnd l

-- the line in front, and the bytes behind its LF
behind : List ℕ → List ℕ
behind s = drop (length (front 10 s) + 1) s

lines_split : (b : ℕ) (s : List ℕ) → lines_of (b ∷ s) ≡ front 10 (b ∷ s) ∷ lines_of (behind (b ∷ s))
unfolding behind
lines_split b s = parts_at 10 (b ∷ s) 0 (omega arith) ∙ ap (λ (n : ℕ). front 10 (b ∷ s) ∷ lines_of (drop n (b ∷ s))) same
  where
    same : 0 + length (front 10 (b ∷ s)) + 1 ≡ length (front 10 (b ∷ s)) + 1
    same = omega arith

module _ (s : List ℕ) (split : lines_of s ≡ front 10 s ∷ lines_of (behind s)) where
  first_stands : (l : List ℕ) → line_at 1 (lines_of s) ≡ some l → Stands 1 s l
  unfolding line_at line_start
  first_stands l e =
      let is : front 10 s ≡ l = one_line (rw split at e) in
      rw (← is) (record { there = rw split (front_stands s); no_end = front_no_end s })

  later_stands : (k : ℕ) (l : List ℕ) → Stands (suc k) (behind s) l → Stands (suc (suc k)) s l
  unfolding line_start behind
  later_stands k l h = record {
    there = rw split (rw drop-drop at h.there);
    no_end = h.no_end;
  }

line_stands : (k : ℕ) (s l : List ℕ) → line_at k (lines_of s) ≡ some l → Stands k s l
unfolding line_at ended_by
line_stands zero s l e = never _ (sym (no_zeroth (lines_of s)) ∙ e)
line_stands (suc k) [] l e = never _ e
line_stands (suc zero) (b ∷ s) l e = first_stands (b ∷ s) (lines_split b s) l e
line_stands (suc (suc k)) (b ∷ s) l e =
    later_stands (b ∷ s) (lines_split b s) k l
    (line_stands (suc k) (behind (b ∷ s)) l (sym (ap (line_at (suc (suc k))) (lines_split b s)) ∙ e))

-- ---- the part

no_empty_entry : (l : List ℕ) → is_entry l ≡ true → 0 < length l
unfolding is_entry entry_in
no_empty_entry [] e = clash (sym e)
no_empty_entry (b ∷ l) e = omega arith

module _ (k : ℕ) (t : Tap) (tape l : List ℕ) (e : line_at k (lines_of tape) ≡ some l) where
  part_is : part_of k t tape ≡ record { tap = t; start = line_start k (lines_of tape); bytes = l }
  unfolding part_of
  part_is = rw e

  part_stands : taped (lines_of tape) ≡ true → PartStands t tape k (part_of k t tape)
  unfolding NoEnd
  part_stands lines =
      rw part_is (record {
        of = refl;
        line = e;
        not_empty = no_empty_entry l (line_taped (lines_of tape) lines k l e);
        there = (line_stands k tape l e).there;
        no_end = (line_stands k tape l e).no_end;
      })

pub culprit_stands : CulpritStands
unfolding CulpritStands tape_by culprit_part
culprit_stands s a b k first e =
    let c = told s a b k first e in
    part_stands k first a c.differs_first.line c.differs_first.in_first c.first_taped
culprit_stands s a b k second e =
    let c = told s a b k second e in
    part_stands k second b c.differs_first.other c.differs_first.in_second c.second_taped
