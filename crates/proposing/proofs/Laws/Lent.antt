-- The pairs of a lent list: one pair made and taken apart, and the loops that try them and put them in.
-- Relies on pairs tried one after another and on the model's single proposals; the proofs of src/lent.rt rely on it.
use Rattle.model.proofs.Kit.{◌≡◌, refl, sym, ap, subst, ◌∙◌, Bool, false, List, [], ◌∷◌, ◌++◌, none, ℕ, ◌+◌, ◌*◌, ◌≤◌}
use Rattle.model.proofs.Kit.{◌<◌, ◌%◌, ◌/◌, length, take, drop, replicate, get_or, take_all, drop_of_length-le, add-one}
use Rattle.model.proofs.Kit.{map, w8, Fits, w32, to_z, of_z, to_z-of_z, SFits, arith}
use lib.Seq.{take-suc, drop-cons}
use Rattle.std.specs.Prelude.{Ok}
use Rattle.std.specs.declared.result.Result.{Result}
use Rattle.model.specs.declared.refusal.Refusal.{Refusal}
use Rattle.model.specs.Figure.{Figure}
use Rattle.model.specs.Calls.{board_refusal, proposal_refusal, propose}
use Rattle.model.specs.Proposals.{Proposal, lent_pair, lent_pairs, pairs_refusal, one_by_one}
use Rattle.model.specs.AnyOrder.{AllAccepted}
use Rattle.model.specs.Told.{verdict}
use Rattle.model.proofs.Basics.Numbers.{signed_fits}
use Rattle.model.proofs.Calls.Refusals.{board_passes}
use Rattle.model.proofs.Calls.Proposals.{accepted_of}
use Rattle.proposing.specs.Tried.{Tried, TriesNext}
use Rattle.proposing.specs.Lent.{pair_of}
use Rattle.proposing.proofs.Laws.Trying.{tried_none}

-- ---- one pair

pub pair_made : (i : ℕ) (v : Figure) → Fits w8 i → SFits w32 v → (bits : ℕ) → bits ≡ of_z w32 (to_z w32 (of_z w32 v))
    → lent_pair (i + bits * 4294967296) ≡ pair_of i v
unfolding lent_pair
pair_made i v h fits bits e = λ k. record {
  station = low k;
  figure = (ap (to_z w32) (high ∙ e ∙ ap (of_z w32) (to_z-of_z fits)) ∙ to_z-of_z fits) k;
}
  where
    low : (i + bits * 4294967296) % 256 ≡ i
    low = omega (arith, h.fits)

    high : (i + bits * 4294967296) / 4294967296 ≡ bits
    high = omega (arith, h.fits)

-- ---- the loop that tries them

tried_more : (xs : List ℕ) (i : ℕ) → i < length xs
    → lent_pairs (take (i + 1) xs) ≡ lent_pairs (take i xs) ++ (lent_pair (get_or xs i 0) ∷ [])
unfolding lent_pairs
tried_more xs i h = rw (add-one, take-suc xs i 0 h) (map-append (take i xs))
  where
    map-append : (l : List ℕ) → map lent_pair (l ++ (get_or xs i 0 ∷ [])) ≡ map lent_pair l ++ (lent_pair (get_or xs i 0) ∷ [])
    map-append [] = refl
    map-append (x ∷ l) = ap (λ (ps : List Proposal). lent_pair x ∷ ps) (map-append l)

module _ (b xs : List ℕ) where
  -- the first i pairs were tried
  pub TriedTo : (i : ℕ) (flags : List Bool) (so_far : Result (Unit {0}) Refusal) → Type 0
  TriedTo i flags so_far = Tried b (lent_pairs (take i xs)) flags so_far

  pub tried_begun : TriedTo 0 (replicate 256 false) (Ok tt)
  unfolding TriedTo lent_pairs
  tried_begun = tried_none b

  pub tried_size : (i : ℕ) (flags : List Bool) (so_far : Result (Unit {0}) Refusal) → TriedTo i flags so_far → length flags ≡ 256
  unfolding TriedTo
  tried_size i flags so_far t = t.stations.size

  pub tried_next : (i : ℕ) → i < length xs → (flags after : List Bool) (station : ℕ) (so_far r : Result (Unit {0}) Refusal) → TriedTo i flags so_far
      → station ≡ get_or xs i 0 % 256 → TriesNext b flags station so_far after r → TriedTo (i + 1) after r
  unfolding TriedTo TriesNext lent_pair
  tried_next i h flags after station so_far r t e n =
      subst (λ (ps : List Proposal). Tried b ps after r) (sym (tried_more xs i h))
      (subst (λ (j : ℕ). Tried b (lent_pairs (take i xs) ++ (pair_of j (lent_pair (get_or xs i 0)).figure ∷ [])) after r) e
      (n _ (lent_pair (get_or xs i 0)).figure t))

  pub tried_all : (i : ℕ) (flags : List Bool) (so_far : Result (Unit {0}) Refusal) → length xs ≤ i → TriedTo i flags so_far
      → verdict so_far ≡ pairs_refusal (lent_pairs xs) b
  unfolding TriedTo
  tried_all i flags so_far h t = t.refused ∙ ap (λ (l : List ℕ). pairs_refusal (lent_pairs l) b) (take_all i xs h)

-- ---- the loop that puts them in

-- the pairs from i on are taken by the board d, and lead on from it to where all of them lead from b
pub record PutTo (b xs : List ℕ) (i : ℕ) (d : List ℕ) : Type 0 where
  pub left : AllAccepted (lent_pairs (drop i xs)) d
  pub ends : one_by_one (lent_pairs (drop i xs)) d ≡ one_by_one (lent_pairs xs) b

module _ (b xs : List ℕ) where
  pub put_begun : AllAccepted (lent_pairs xs) b → PutTo b xs 0 b
  put_begun a = record { left = a; ends = refl }

  module _ (i : ℕ) (d : List ℕ) (p : PutTo b xs i d) where
    pub put_all : length xs ≤ i → d ≡ one_by_one (lent_pairs xs) b
    unfolding one_by_one lent_pairs
    put_all h =
        ap (λ (l : List ℕ). one_by_one (lent_pairs l) d) (sym (drop_of_length-le xs {i = i} h)) ∙ p.ends

    module _ (h : i < length xs) where
      -- the next pair, and those behind it
      here : lent_pairs (drop i xs) ≡ lent_pair (get_or xs i 0) ∷ lent_pairs (drop (i + 1) xs)
      unfolding lent_pairs
      here = ap (map lent_pair) (drop-cons xs i 0 h ∙ ap (λ (k : ℕ). get_or xs i 0 ∷ drop k xs) (sym (add-one i)))

      taken : AllAccepted (lent_pair (get_or xs i 0) ∷ lent_pairs (drop (i + 1) xs)) d
      taken = subst (λ (ps : List Proposal). AllAccepted ps d) here p.left

      module _ (station : ℕ) (e : station ≡ get_or xs i 0 % 256) where
        first : (propose station (lent_pair (get_or xs i 0)).figure d).answer ≡ none
        unfolding AllAccepted lent_pair
        first = rw e taken.0

        pub next_sound : board_refusal d none ≡ none
        next_sound = board_passes d (accepted_of station _ d first).0 none

        pub next_free : proposal_refusal station d ≡ none
        next_free = (accepted_of station _ d first).1

        pub put_next : (v : Figure) → v ≡ to_z w32 (get_or xs i 0 / 4294967296) → (c : List ℕ)
            → c ≡ (propose station (to_z w32 (of_z w32 v)) d).bytes → PutTo b xs (i + 1) c
        unfolding AllAccepted one_by_one lent_pair
        put_next v q c ec =
            let fits = subst (SFits w32) (sym q) (signed_fits (get_or xs i 0 / 4294967296)) in
            let same : c ≡ (propose (lent_pair (get_or xs i 0)).station (lent_pair (get_or xs i 0)).figure d).bytes
            = ec ∙ (λ k. (propose (e k) ((to_z-of_z fits ∙ q) k) d).bytes) in
            record {
              left = subst (AllAccepted (lent_pairs (drop (i + 1) xs))) (sym same) taken.1;
              ends =
                  ap (one_by_one (lent_pairs (drop (i + 1) xs))) same
                  ∙ sym (ap (λ (ps : List Proposal). one_by_one ps d) here) ∙ p.ends;
            }

-- what the code finds in the two loops by itself
pub ruleset trying = (tried_begun, tried_size, tried_next, tried_all)

pub ruleset putting = (put_begun, next_sound, next_free, put_all)
