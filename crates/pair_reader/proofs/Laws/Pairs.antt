-- Pairs as they are read: one pair in its brackets, and the pairs of a line.
-- Relies on the laws of lists and the lexer's Places and Spaced; the proofs of src/lib.rt rely on it.
use Rattle.model.proofs.Kit.{◌≡◌, refl, ◌∙◌, Bool, cond, List, [], none, ℕ, ◌+◌, ◌-◌, ◌<◌, ℤ}
use Rattle.model.proofs.Kit.{eq-eqb, ne_eqb, eqb, length, drop, get_or, arith}
use Rattle.model.specs.Forms.{found, and_then, spaced, number_in, figure_in, pair_in, or_four}
use Rattle.std.specs.Prelude.{Ok, Err}
use Rattle.std.specs.declared.result.Result.{Result}
use Rattle.model.specs.declared.refusal.Refusal.{Refusal}
use Rattle.model.specs.declared.refusal.Refusal.TheVariants.{NoForm}
use Rattle.lexer.specs.declared.At.{At}
use Rattle.lexer.specs.Placed.{placed_as, NumberIs, FigureIs}
use Rattle.lexer.proofs.Laws.Answers.{missed, there, inside, number_inside}
use Rattle.lexer.proofs.Laws.Places.{first_byte, behind_first, stands_inside}
use Rattle.lexer.proofs.Laws.Spaced.{space_read, no_space}
use Rattle.list_laws.specs.Lists.{ListIs}
use Rattle.list_laws.proofs.Laws.Lists.{Summed, sum_begun, list_unread, list_again}
use Rattle.pair_reader.specs.declared.Pair.{Pair}
use Rattle.pair_reader.specs.Pairs.{proposal, PairIs, need_nothing}

-- ---- a pair

module _ (line : List ℕ) (at : ℕ) where
  no_pair : pair_in (drop at line) ≡ none → PairIs line at (Err NoForm)
  unfolding placed_as or_four
  no_pair e = record { reads = rw e; inside = tt }

  pub pair_unopened : (get_or line at 0 ≡ 40 → ⊥) → PairIs line at (Err NoForm)
  unfolding pair_in
  pair_unopened ne = no_pair (rw (first_byte line at, ne_eqb (get_or line at 0) 40 ne))

  module _ (bracket : get_or line at 0 ≡ 40) (first : Result (At ℕ) Refusal) (is : NumberIs line (at + 1) 0 99 first) where
    pub pair_unnumbered : (k : Refusal) → first ≡ Err k → PairIs line at (Err NoForm)
    unfolding pair_in and_then
    pair_unnumbered k e =
        no_pair (rw (
          first_byte line at,
          eq-eqb (get_or line at 0) 40 bracket,
          behind_first line at,
          missed (λ v. v) line first _ is.reads k e,
        ))

    module _ (i : At ℕ) (e : first ≡ Ok i) where
      module _ (f : Result (At ℤ) Refusal) (more : FigureIs line i.next f) where
        pub pair_unfigured : (k : Refusal) → f ≡ Err k → PairIs line at (Err NoForm)
        unfolding pair_in and_then found
        pair_unfigured k q =
            no_pair (rw (
              first_byte line at,
              eq-eqb (get_or line at 0) 40 bracket,
              behind_first line at,
              there (λ v. v) line first (number_in 0 99 (drop (at + 1) line)) is.reads i e,
              missed (λ v. v) line f _ more.reads k q,
            ))

        module _ (v : At ℤ) (q : f ≡ Ok v) where
          behind : {t : Bool} → eqb (get_or line v.next 0) 41 ≡ t
              → pair_in (drop at line)
              ≡ cond t (found (record { station = i.value; figure = v.value }) (drop (v.next + 1) line)) none
          unfolding pair_in and_then found
          behind t =
              rw (
                first_byte line at,
                eq-eqb (get_or line at 0) 40 bracket,
                behind_first line at,
                there (λ v. v) line first (number_in 0 99 (drop (at + 1) line)) is.reads i e,
                there (λ v. v) line f (spaced figure_in (drop i.next line)) more.reads v q,
                first_byte line v.next,
                t,
                behind_first line v.next,
              )

          pub pair_unclosed : (get_or line v.next 0 ≡ 41 → ⊥) → PairIs line at (Err NoForm)
          pair_unclosed ne = no_pair (behind (ne_eqb (get_or line v.next 0) 41 ne))

          -- the figure comes back by way of its bits
          pub pair_read : get_or line v.next 0 ≡ 41 → (z : ℤ) → z ≡ v.value
              → PairIs line at (Ok (record { value = record { station = i.value; figure = z }; next = v.next + 1 }))
          unfolding placed_as or_four found
          pair_read c z bits = record {
            reads = rw (bits, behind (eq-eqb (get_or line v.next 0) 41 c));
            inside = (
              omega (
                arith,
                (number_inside line (at + 1) 0 99 first is.inside i e).0,
                (inside line i.next f more.inside v q).0,
              ),
              omega (arith, stands_inside line v.next 41 (omega arith) c),
            );
          }

-- ---- the pairs of a line

pub pair_less : (line : List ℕ) (place : ℕ) (r : Result (At Pair) Refusal) (a : At Pair) → place < length line
    → PairIs line (place + 1) r → r ≡ Ok a → length line - a.next < length line - place
pair_less line place r a h is e = omega (arith, (inside line (place + 1) r is.inside a e).0)

module _ (line : List ℕ) (at : ℕ) where
  abbrev pub Pairs : (place count : ℕ) → Type 0
  Pairs place count = Summed pair_in need_nothing [] line at place count 0

  pub pairs_begun : Pairs at 0
  pairs_begun = sum_begun pair_in need_nothing [] line at 0 0 refl refl (omega arith)

  module _ (place count : ℕ) (s : Pairs place count) (unclosed : get_or line place 0 ≡ 41 → ⊥) where
    unread : spaced pair_in (drop place line) ≡ none → ListIs pair_in need_nothing [] line at (Err NoForm)
    unread e = list_unread pair_in need_nothing [] line at place count 0 s unclosed e

    pub pairs_unspaced : (get_or line place 0 ≡ 32 → ⊥) → ListIs pair_in need_nothing [] line at (Err NoForm)
    pairs_unspaced ne = unread (no_space pair_in line place ne)

    module _ (space : get_or line place 0 ≡ 32) (r : Result (At Pair) Refusal) (is : PairIs line (place + 1) r) where
      pub pair_missing : (k : Refusal) → r ≡ Err k → ListIs pair_in need_nothing [] line at (Err NoForm)
      pair_missing k e = unread (space_read pair_in line place space ∙ missed proposal line r _ is.reads k e)

      pub pair_again : place < length line → (a : At Pair) → r ≡ Ok a → Pairs a.next (count + 1)
      pair_again h a e =
          list_again pair_in need_nothing [] line at place count 0 s unclosed h (proposal a.value) a.next
          (space_read pair_in line place space ∙ there proposal line r (pair_in (drop (place + 1) line)) is.reads a e)
          (omega (arith, (inside line (place + 1) r is.inside a e).0)) 0 (λ xs q. refl)
