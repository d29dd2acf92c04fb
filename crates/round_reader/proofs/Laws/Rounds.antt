-- Rounds as they are read: the stations of a round, the round in its brackets, and the rounds of a line.
-- Relies on the laws of lists, the lexer's Places and Spaced and what rounds need with one thing more; the proofs of
-- src/lib.rt rely on it.
use Rattle.model.proofs.Kit.{◌≡◌, refl, sym, ap, ◌∙◌, List, [], ◌∷◌, none, ℕ, suc, ◌+◌, ◌-◌, ◌<◌, le-leb, eq-eqb}
use Rattle.model.proofs.Kit.{ne_eqb, length, drop, get_or, arith}
use Prim.Native.Nat.{max}
use Rattle.model.specs.Forms.{found, and_then, spaced, number_in, stations_in, round_in, or_four}
use Rattle.std.specs.Prelude.{Ok, Err}
use Rattle.std.specs.declared.result.Result.{Result}
use Rattle.model.specs.declared.refusal.Refusal.{Refusal}
use Rattle.model.specs.declared.refusal.Refusal.TheVariants.{NoForm}
use Rattle.lexer.specs.declared.At.{At}
use Rattle.lexer.specs.Placed.{placed, placed_as, NumberIs, SpacedIs}
use Rattle.list_laws.specs.declared.Listed.{Listed}
use Rattle.halts.specs.Needs.{climb, climbs, closed, round_needs}
use Rattle.halts.specs.Needs as halts
use Rattle.list_laws.specs.Lists.{read_as, summary, ListIs}
use Rattle.round_reader.specs.Rounds.{RoundIs}
use Rattle.lexer.proofs.Laws.Places.{first_byte, behind_first, stands_inside}
use Rattle.lexer.proofs.Laws.Spaced.{space_read, no_space}
use Rattle.lexer.proofs.Laws.Answers.{missed, there, inside, number_inside}
use Rattle.halts.proofs.Laws.Grown.{climbs_grown, needs_grown}
use Rattle.list_laws.proofs.Laws.Lists.{as_none, as_found, listed, Summed}
use Rattle.list_laws.proofs.Laws.Lists.{sum_begun, list_unread, list_again}

-- ---- the stations of a round

module _ (line : List ℕ) (at first : ℕ) where
  abbrev pub Stations : (place count last : ℕ) → Type 0
  Stations = Summed (number_in 0 99) (climbs 0) (first ∷ []) line at

  pub stations_begun : 0 < at → (m : ℕ) → m ≡ climb 0 first → Stations at 1 m
  unfolding climbs
  stations_begun h m e = sum_begun (number_in 0 99) (climbs 0) (first ∷ []) line at 1 m refl e (omega arith)

  module _ (place count last : ℕ) (s : Stations place count last) (unclosed : get_or line place 0 ≡ 41 → ⊥)
      (r : Result (At ℕ) Refusal) (is : SpacedIs line place r) where
    pub station_missing : (k : Refusal) → r ≡ Err k
        → ListIs (number_in 0 99) (climbs 0) (first ∷ []) line at (Err NoForm)
    station_missing k e =
        list_unread (number_in 0 99) (climbs 0) (first ∷ []) line at place count last s unclosed
        (missed (λ v. v) line r _ is.reads k e)

    pub station_again : place < length line → (a : At ℕ) → r ≡ Ok a → (m : ℕ) → m ≡ climb last a.value
        → Stations a.next (count + 1) m
    station_again h a e m g =
        list_again (number_in 0 99) (climbs 0) (first ∷ []) line at place count last s unclosed h a.value a.next
        (there (λ v. v) line r (spaced (number_in 0 99) (drop place line)) is.reads a e)
        (number_inside line place 0 99 r is.inside a e).0 m
        (λ xs q. g ∙ ap (λ (x : ℕ). climb x a.value) q ∙ sym (climbs_grown 0 xs a.value))

pub station_less : (line : List ℕ) (place : ℕ) (r : Result (At ℕ) Refusal) (a : At ℕ) → place < length line
    → SpacedIs line place r → r ≡ Ok a → length line - a.next < length line - place
station_less line place r a h is e = omega (arith, (number_inside line place 0 99 r is.inside a e).0)

-- ---- a round

empty_needs : (k : ℕ) → round_needs k [] ≡ 0
unfolding round_needs closed climbs
empty_needs k = rw (le-leb 0 k (omega arith))

module _ (line : List ℕ) (at k : ℕ) where
  no_round : round_in (drop at line) ≡ none → RoundIs line at k (Err NoForm)
  unfolding placed_as or_four read_as
  no_round e = record { reads = rw e; inside = tt }

  pub round_unopened : (get_or line at 0 ≡ 40 → ⊥) → RoundIs line at k (Err NoForm)
  unfolding round_in
  round_unopened ne = no_round (rw (first_byte line at, ne_eqb (get_or line at 0) 40 ne))

  module _ (bracket : get_or line at 0 ≡ 40) where
    pub round_empty : get_or line (at + 1) 0 ≡ 41 → RoundIs line at k (Ok (listed 0 0 (at + 1 + 1)))
    unfolding round_in placed_as or_four read_as found summary
    round_empty e = record {
      reads =
          rw (
            first_byte line at,
            eq-eqb (get_or line at 0) 40 bracket,
            behind_first line at,
            first_byte line (at + 1),
            eq-eqb (get_or line (at + 1) 0) 41 e,
            behind_first line (at + 1),
            empty_needs k,
          );
      inside = (omega arith, omega (arith, stands_inside line (at + 1) 41 (omega arith) e));
    }

    module _ (unclosed : get_or line (at + 1) 0 ≡ 41 → ⊥) (r : Result (At ℕ) Refusal) (is : NumberIs line (at + 1) 0 99 r)
      where
        numbered : round_in (drop at line)
            ≡ and_then (number_in 0 99 (drop (at + 1) line)) λ i more.
            and_then (stations_in more) λ is rest. found (i ∷ is) rest
        unfolding round_in
        numbered =
            rw (
              first_byte line at,
              eq-eqb (get_or line at 0) 40 bracket,
              behind_first line at,
              first_byte line (at + 1),
              ne_eqb (get_or line (at + 1) 0) 41 unclosed,
            )

        pub round_unnumbered : (j : Refusal) → r ≡ Err j → RoundIs line at k (Err NoForm)
        unfolding and_then
        round_unnumbered j e = no_round (numbered ∙ rw (missed (λ v. v) line r _ is.reads j e))

        module _ (a : At ℕ) (e : r ≡ Ok a) (q : Result (At Listed) Refusal)
            (more : ListIs (number_in 0 99) (climbs 0) (a.value ∷ []) line a.next q) where
          behind_first_station : round_in (drop at line)
              ≡ and_then (stations_in (drop a.next line)) λ is rest. found (a.value ∷ is) rest
          unfolding and_then found
          behind_first_station =
              numbered ∙ rw (there (λ v. v) line r (number_in 0 99 (drop (at + 1) line)) is.reads a e)

          read_stations : placed line q
              ≡ or_four (read_as (λ xs. summary (climbs 0) (a.value ∷ xs)) (stations_in (drop a.next line)))
          unfolding stations_in
          read_stations = more.reads (length (drop a.next line) + 1) (omega arith)

          pub round_unended : (j : Refusal) → q ≡ Err j → RoundIs line at k (Err NoForm)
          unfolding and_then
          round_unended j d =
              no_round (behind_first_station ∙ rw (as_none _ _ (missed (λ v. v) line q _ read_stations j d)))

          pub round_read : (b : At Listed) → q ≡ Ok b → (m : ℕ) → m ≡ closed b.value.needs b.value.count k
              → RoundIs line at k (Ok (listed b.value.count m b.next))
          unfolding and_then found read_as placed_as or_four summary round_needs
          round_read b d m g =
              let its =
              as_found (λ xs. summary (climbs 0) (a.value ∷ xs)) (stations_in (drop a.next line)) b.value (drop b.next line)
              (there (λ v. v) line q _ read_stations b d) in
              let its_place = inside line a.next q more.inside b d in
              let counts : suc (length its.0) ≡ b.value.count = ap (λ (s : Listed). s.count) its.2 in
              let needs : climbs 0 (a.value ∷ its.0) ≡ b.value.needs = ap (λ (s : Listed). s.needs) its.2 in
              record {
                reads = rw (g, behind_first_station, its.1, counts, needs);
                inside = (
                  omega (arith, (number_inside line (at + 1) 0 99 r is.inside a e).0, its_place.0),
                  its_place.1,
                );
              }

-- ---- the rounds of a line

pub round_less : (line : List ℕ) (place k : ℕ) (r : Result (At Listed) Refusal) (a : At Listed) → place < length line
    → RoundIs line (place + 1) k r → r ≡ Ok a → length line - a.next < length line - place
round_less line place k r a h is e = omega (arith, (inside line (place + 1) r is.inside a e).0)

module _ (line : List ℕ) (at k : ℕ) where
  abbrev pub Rounds : (place count needs : ℕ) → Type 0
  Rounds = Summed round_in (halts.needs k) [] line at

  pub rounds_begun : Rounds at 0 0
  unfolding halts.needs
  rounds_begun = sum_begun round_in (halts.needs k) [] line at 0 0 refl refl (omega arith)

  module _ (place count needs : ℕ) (s : Rounds place count needs) (unclosed : get_or line place 0 ≡ 41 → ⊥) where
    unread : spaced round_in (drop place line) ≡ none → ListIs round_in (halts.needs k) [] line at (Err NoForm)
    unread e = list_unread round_in (halts.needs k) [] line at place count needs s unclosed e

    pub rounds_unspaced : (get_or line place 0 ≡ 32 → ⊥) → ListIs round_in (halts.needs k) [] line at (Err NoForm)
    rounds_unspaced ne = unread (no_space round_in line place ne)

    module _ (space : get_or line place 0 ≡ 32) (r : Result (At Listed) Refusal) (is : RoundIs line (place + 1) k r) where
      pub round_missing : (j : Refusal) → r ≡ Err j → ListIs round_in (halts.needs k) [] line at (Err NoForm)
      round_missing j e =
          unread (space_read round_in line place space ∙ as_none _ _ (missed (λ v. v) line r _ is.reads j e))

      pub round_again : place < length line → (a : At Listed) → r ≡ Ok a → (m : ℕ) → m ≡ max needs a.value.needs
          → Rounds a.next (count + 1) m
      unfolding summary
      round_again h a e m g =
          let its = as_found _ _ _ _ (there (λ v. v) line r _ is.reads a e) in
          let its_needs : round_needs k its.0 ≡ a.value.needs = ap (λ (s : Listed). s.needs) its.2 in
          list_again round_in (halts.needs k) [] line at place count needs s unclosed h its.0 a.next
          (space_read round_in line place space ∙ its.1)
          (omega (arith, (inside line (place + 1) r is.inside a e).0)) m
          (λ xs q. g ∙ ap (λ (x : ℕ). max x a.value.needs) q ∙ ap (max (halts.needs k xs)) (sym its_needs)
          ∙ sym (needs_grown k xs its.0))
