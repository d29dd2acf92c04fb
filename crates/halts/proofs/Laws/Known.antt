-- A board takes rounds exactly if it has the stations that they need: 19 is one comparison.
-- Relies on the definition of 19 and on that of the needs; the refusals of the call by the round rely on it.
use Rattle.model.proofs.Kit.{◌≡◌, sym, ◌∙◌, true, false, ◌&&◌, List, [], ◌∷◌, ℕ, ◌<◌, leb, ltb, length}
use Rattle.model.proofs.Kit.{le-leb, lt-leb, leb-true, leb-false, ltb-true, arith}
use Prim.Native.Nat.{max}
use Rattle.model.specs.Rounds.{rising, round_known, rounds_known}
use Rattle.model.proofs.Basics.Tests.{and_false, by_test}
use Rattle.halts.specs.Needs.{climb, climbs, closed, round_needs, needs}

max_leb : (a b n : ℕ) → leb a n && leb b n ≡ leb (max a b) n
max_leb a b n = by_test (leb a n) first second
  where
    first : leb a n ≡ true → leb a n && leb b n ≡ leb (max a b) n
    first e =
        simp e
        (by_test (leb b n)
        (λ q. q ∙ sym (le-leb (max a b) n (omega (arith, leb-true a n e, leb-true b n q))))
        (λ q. q ∙ sym (lt-leb (max a b) n (omega (arith, leb-false b n q)))))

    second : leb a n ≡ false → leb a n && leb b n ≡ leb (max a b) n
    second e = simp e (sym (lt-leb (max a b) n (omega (arith, leb-false a n e))))

module _ (n : ℕ) (h : n < 255) where
  -- the rest of a round rises from `last` and stays on the board exactly if its highest station is on it
  pub climbs_known : (last : ℕ) (r : List ℕ) → leb (climbs last r) n ≡ leb last n && rising last n r
  unfolding climbs rising climb
  climbs_known last [] = by_test (leb last n) (λ e. simp e) (λ e. simp e)
  climbs_known last (i ∷ is) =
      by_test (ltb last i)
      (λ e. simp e (climbs_known i is ∙ within e))
      (λ e. simp e (climbs_known 255 is ∙ simp (lt-leb 255 n h) (sym (and_false (leb last n)))))
    where
      within : ltb last i ≡ true → leb i n && rising i n is ≡ leb last n && (leb i n && rising i n is)
      within e =
          by_test (leb i n)
          (λ q. simp (le-leb last n (omega (arith, ltb-true last i e, leb-true i n q))))
          (λ q. simp q (sym (and_false (leb last n))))

  -- "19, a round names more than k stations, station 0, one above n, or one out of rising order"
  pub round_known_lem : (k : ℕ) (r : List ℕ) → round_known n k r ≡ leb (round_needs k r) n
  unfolding round_known round_needs closed
  round_known_lem k r =
      by_test (leb (length r) k)
      (λ e. simp e (sym (climbs_known 0 r ∙ simp (le-leb 0 n (omega arith)))))
      (λ e. simp e (sym (lt-leb 255 n h)))

  pub rounds_known_lem : (k : ℕ) (rs : List (List ℕ)) → rounds_known n k rs ≡ leb (needs k rs) n
  unfolding rounds_known needs
  rounds_known_lem k [] = sym (le-leb 0 n (omega arith))
  rounds_known_lem k (r ∷ rs) = (λ i. round_known_lem k r i && rounds_known_lem k rs i) ∙ max_leb (round_needs k r) (needs k rs) n
