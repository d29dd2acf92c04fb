-- A list of things of one kind that stands in a line, walked along once more: which thing stands next at each place.
-- Relies on the model's written lists; the play of rounds and the proposals of a line rely on it.
use Rattle.model.proofs.Kit.{◌≡◌, refl, sym, ap, subst, ◌∙◌, List, [], ◌∷◌, ◌++◌, append_assoc, append-nil, Option, ℕ}
use Rattle.model.proofs.Kit.{◌+◌, ◌≤◌, ◌<◌, length, drop, get_or, lt_of_not-le, drop_of_length-le, arith}
use Rattle.model.specs.Bytes.{byte, Each}
use Rattle.model.specs.Show.{text, text_from}
use Rattle.model.specs.Forms.{Read, found, list_in}
use Rattle.model.specs.Grammar.{written_list}
use Rattle.model.proofs.Basics.Tests.{impossible}
use Rattle.model.proofs.Sheet.Readers.{Always}
use Rattle.model.proofs.Sheet.Numbers.{Stops}
use Rattle.model.proofs.Sheet.NumbersBack.{Stood}
use Rattle.model.proofs.Sheet.Lists.{ListStood, list_stops, list_stood, regrouped}
use Rattle.lexer.proofs.Laws.Given.{found_one}
use Rattle.lexer.proofs.Laws.Places.{first_byte, behind_first}

-- how a thing is written, what is asked of it, and its reader, which finds what is written and nothing else
pub record Kind (A : Type 0) : Type 1 where
  pub write : A → List ℕ
  pub InRange : A → Type 0
  pub one : List ℕ → Option (Read A)
  pub reads : (x : A) → InRange x → (rest : List ℕ) → Stops rest → one (write x ++ rest) ≡ found x rest
  pub stood : (l : List ℕ) → Always (Stood write InRange l) (one l)

module _ {A : Type 0} (kind : Kind A) (line : List ℕ) (at : ℕ) where
  -- the list that stands from `at` on
  abbrev pub ListAt : List A → List ℕ → Type 0
  ListAt xs rest = list_in kind.one (length (drop at line) + 1) (drop at line) ≡ found xs rest

  -- `past` is passed, and the things that are left stand from `place` on
  pub record Walk (past : List A) (place : ℕ) : Type 0 where
    pub things : List A
    pub rest : List ℕ
    pub left : List A
    pub read : ListAt things rest
    pub is : things ≡ past ++ left
    pub here : drop place line ≡ written_list kind.write left ++ (41 ∷ rest)
    pub ranges : Each kind.InRange left

  pub walk_begun : (xs : List A) (rest : List ℕ) → ListAt xs rest → Walk [] at
  unfolding Always ListStood found
  walk_begun xs rest e =
      let t : (drop at line ≡ written_list kind.write xs ++ (41 ∷ rest)) × Each kind.InRange xs
      = subst (Always (ListStood kind.write kind.InRange (drop at line))) e
      (list_stood kind.write kind.InRange kind.one kind.stood (length (drop at line) + 1) (drop at line)) in
      record { things = xs; rest = rest; left = xs; read = e; is = refl; here = t.0; ranges = t.1 }

  module _ (past : List A) (place : ℕ) (w : Walk past place) where
    pub walk_inside : place < length line
    unfolding written_list text text_from
    walk_inside =
        lt_of_not-le (λ (l : length line ≤ place). by_length w.left (sym (drop_of_length-le line l) ∙ w.here))
      where
        by_length : (left : List A) → [] ≡ written_list kind.write left ++ (41 ∷ w.rest) → ⊥
        by_length [] e = impossible (cc)
        by_length (x ∷ xs) e = impossible (cc)

    -- nothing is left
    pub walk_ended : (get_or line place 0 ≡ 32 → ⊥) → (xs : List A) (rest : List ℕ) → ListAt xs rest → past ≡ xs
    walk_ended closed xs rest e = by w.left w.here w.is
      where
        by : (left : List A) → drop place line ≡ written_list kind.write left ++ (41 ∷ w.rest)
            → w.things ≡ past ++ left → past ≡ xs
        by [] h is = sym (append-nil past) ∙ sym is ∙ (found_one _ _ _ _ (sym w.read ∙ e)).0
        by (x ∷ left) h is = unfold written_list text text_from in
            absurd (closed (sym (first_byte line place) ∙ ap (λ (l : List ℕ). byte l 0) h))

    module _ (more : get_or line place 0 ≡ 32) where
      -- the next thing, and those behind it
      pub record Next : Type 0 where
        pub thing : A
        pub later : List A
        pub is : w.things ≡ past ++ (thing ∷ later)
        pub read : kind.one (drop (place + 1) line)
            ≡ found thing (written_list kind.write later ++ (41 ∷ w.rest))
        pub in_range : kind.InRange thing
        pub ranges : Each kind.InRange later

      pub next : Next
      unfolding Each
      next = by w.left w.here w.is w.ranges
        where
          by : (left : List A) → drop place line ≡ written_list kind.write left ++ (41 ∷ w.rest)
              → w.things ≡ past ++ left → Each kind.InRange left → Next
          by [] h e r = unfold written_list in
              absurd (let z : ◌≡◌ {A = ℕ} 41 32 =
              ap (λ (l : List ℕ). byte l 0) (sym h) ∙ first_byte line place ∙ more in omega arith)
          by (x ∷ later) h e r = record {
            thing = x;
            later = later;
            is = e;
            read =
                ap kind.one (sym (behind_first line place) ∙ ap (drop 1) (h ∙ regrouped kind.write x later _))
                ∙ kind.reads x r.0 _ (list_stops kind.write later w.rest);
            in_range = r.0;
            ranges = r.1;
          }

      -- the text behind the next thing
      abbrev pub Behind : List ℕ
      Behind = written_list kind.write next.later ++ (41 ∷ w.rest)

      pub walk_more : (after : ℕ) → drop after line ≡ Behind → Walk (past ++ (next.thing ∷ [])) after
      walk_more after e = record {
        things = w.things;
        rest = w.rest;
        left = next.later;
        read = w.read;
        is = next.is ∙ sym (append_assoc past (next.thing ∷ []) next.later);
        here = e;
        ranges = next.ranges;
      }
