-- Items counted as they are read: what the model's reader gives at each place where the code's readers answer, by the
-- number of steps alone.
-- Relies on the lexer's Places and Answers and the model's items; the proof of the two readers of items relies on it.
use Rattle.model.proofs.Kit.{◌≡◌, refl, sym, ap, ◌∙◌, Bool, true, false, List, ◌++◌, none, some, Option, ℕ, zero, suc}
use Rattle.model.proofs.Kit.{◌+◌, ◌-◌, ◌≤◌, ◌<◌, ◌*◌, leb-true, leb-false, eq-eqb, ne_eqb, leb, length, drop}
use Rattle.model.proofs.Kit.{drop_of_length-le, get_or, length-append, arith}
use Rattle.model.specs.Forms.{Item, station, times, Items, next, repeated, expand_item, expand, Read, found, and_then}
use Rattle.model.specs.Forms.{spaced, number_in, times_in, item_in, items_in}
use Rattle.model.proofs.Sheet.Limits.{length_repeated}
use Rattle.std.specs.Prelude.{Ok, Err}
use Rattle.std.specs.declared.result.Result.{Result}
use Rattle.model.specs.declared.refusal.Refusal.{Refusal}
use Rattle.model.specs.declared.refusal.Refusal.TheVariants.{NoForm}
use Rattle.lexer.specs.declared.At.{At}
use Rattle.model.specs.Forms.{or_four}
use Rattle.lexer.specs.Placed.{placed_as, placed, NumberIs}
use Rattle.list_laws.specs.Lists.{read_as}
use Rattle.item_reader.specs.Counts.{capped, CountedInside, sized, TimesIs, ItemIs, ItemsAre}
use Rattle.lexer.proofs.Laws.Answers.{back, was_read, missed, there, number_inside}
use Rattle.lexer.proofs.Laws.Places.{first_byte, behind_first, left_over}

-- ---- the steps of items, by their number

at_least_once : (k x : ℕ) → 1 ≤ k → x ≤ k * x
at_least_once zero x h = absurd (omega arith)
at_least_once (suc k) x h = omega arith

capped_times : (k x : ℕ) → 1 ≤ k → capped (k * x) ≡ capped (k * capped x)
capped_times k x h = by (leb x 65537) refl
  where
    by : (t : Bool) → leb x 65537 ≡ t → capped (k * x) ≡ capped (k * capped x)
    by true e =
        let same : capped x ≡ x = omega (arith, leb-true x 65537 e) in
        ap (λ (y : ℕ). capped (k * y)) (sym same)
    by false e =
        let same : capped x ≡ 65537 = omega (arith, leb-false x 65537 e) in
        let much : 65537 ≤ k * x = omega (arith, at_least_once k x h, leb-false x 65537 e) in
        let most : 65537 ≤ k * 65537 = at_least_once k 65537 h in
        let one : capped (k * x) ≡ 65537 = omega arith in
        let other : capped (k * 65537) ≡ 65537 = omega arith in
        one ∙ sym other ∙ ap (λ (y : ℕ). capped (k * y)) (sym same)

-- k times as many as counted, and c more than counted
unfoldable fold : (k : ℕ) → Option (Read ℕ) → Option (Read ℕ)
fold k none = none
fold k (some r) = found (capped (k * r.value)) r.rest

unfoldable pub more : (c : ℕ) → Option (Read ℕ) → Option (Read ℕ)
more c none = none
more c (some r) = found (capped (c + r.value)) r.rest

none_more : (o : Option (Read Items)) → sized expand o ≡ more 0 (sized expand o)
unfolding read_as more found
none_more none = refl
none_more (some r) =
    let e : capped (length (expand r.value)) ≡ capped (0 + capped (length (expand r.value))) = omega arith in
    ap (λ (v : ℕ). found v r.rest) e

more_twice : (t c : ℕ) (o : Option (Read ℕ)) → more t (more c o) ≡ more (capped (t + c)) o
unfolding more found
more_twice t c none = refl
more_twice t c (some r) =
    let e : capped (t + capped (c + r.value)) ≡ capped (capped (t + c) + r.value) = omega arith in
    ap (λ (v : ℕ). found v r.rest) e

sized_times : (k : ℕ) → 1 ≤ k → (o : Option (Read Items))
    → sized expand_item (and_then o λ is rest. found (times k is) rest) ≡ fold k (sized expand o)
unfolding read_as fold and_then found expand_item
sized_times k h none = refl
sized_times k h (some r) =
    let e : capped (length (repeated k (expand r.value))) ≡ capped (k * capped (length (expand r.value))) =
    ap (λ (v : ℕ). capped v) (length_repeated k (expand r.value)) ∙ capped_times k (length (expand r.value)) h in
    ap (λ (v : ℕ). found v r.rest) e

-- an item and the items behind it
unfoldable joined : (fuel : ℕ) → Option (Read ℕ) → Option (Read ℕ)
joined fuel none = none
joined fuel (some r) = more r.value (sized expand (items_in fuel r.rest))

sized_next : (fuel : ℕ) (o : Option (Read Item))
    → sized expand (and_then o λ i k. and_then (items_in fuel k) λ is rest. found (next i is) rest) ≡ joined fuel
    (sized expand_item o)
unfolding read_as joined and_then found expand more
sized_next fuel none = refl
sized_next fuel (some r) = by (items_in fuel r.rest)
  where
    by : (o : Option (Read Items))
        → sized expand (and_then o λ is rest. found (next r.value is) rest) ≡ more
        (capped (length (expand_item r.value))) (sized expand o)
    by none = refl
    by (some q) =
        let e : capped (length (expand_item r.value ++ expand q.value))
        ≡ capped (capped (length (expand_item r.value)) + capped (length (expand q.value))) =
        omega (arith, length-append (expand_item r.value) (expand q.value)) in
        ap (λ (v : ℕ). found v q.rest) e

-- ---- an item

module _ (line : List ℕ) (at : ℕ) where
  -- the model's reader gives o by the steps, if its fuel exceeds the bytes left
  abbrev ItemGives : Option (Read ℕ) → Type 0
  ItemGives o = (fuel : ℕ) → length (drop at line) ≤ fuel → sized expand_item (item_in (suc fuel) (drop at line)) ≡ o

  item_is : (o : Option (Read ℕ)) → ItemGives o → (r : Result (At ℕ) Refusal) → CountedInside line at r → placed line r ≡ or_four o
      → ItemIs line at r
  item_is o gives r inside e = record { reads = by; inside = inside }
    where
      by : (fuel : ℕ) → length (drop at line) < fuel
          → placed line r ≡ or_four (sized expand_item (item_in fuel (drop at line)))
      by zero l = absurd (omega arith)
      by (suc fuel) l = e ∙ ap or_four (sym (gives fuel (omega arith)))

  item_refused : ItemGives none → ItemIs line at (Err NoForm)
  unfolding placed_as or_four
  item_refused gives = item_is none gives (Err NoForm) tt refl

  item_counted : (a : At ℕ) → ItemGives (found a.value (drop a.next line)) → CountedInside line at (Ok a)
      → ItemIs line at (Ok a)
  unfolding placed_as or_four found
  item_counted a gives inside = item_is (found a.value (drop a.next line)) gives (Ok a) inside refl

  module _ (no_bracket : get_or line at 0 ≡ 40 → ⊥) where
    pub as_number : (fuel : ℕ) → item_in (suc fuel) (drop at line) ≡ and_then
        (number_in 0 99 (drop at line)) λ i rest. found (station i) rest
    unfolding item_in
    as_number fuel = rw (first_byte line at, ne_eqb (get_or line at 0) 40 no_bracket)

    module _ (r : Result (At ℕ) Refusal) (is : NumberIs line at 0 99 r) where
      pub no_number : (k : Refusal) → r ≡ Err k → ItemIs line at (Err NoForm)
      unfolding and_then read_as
      no_number k e = item_refused (λ fuel l. rw (as_number fuel, missed (λ v. v) line r _ is.reads k e))

      pub one_step : (a : At ℕ) → r ≡ Ok a → ItemIs line at (Ok (record { value = 1; next = a.next }))
      unfolding and_then read_as found expand_item
      one_step a e =
          let inside = number_inside line at 0 99 r is.inside a e in
          item_counted (record { value = 1; next = a.next })
          (λ fuel l. rw (as_number fuel, there (λ v. v) line r _ is.reads a e))
          (inside.0, inside.1, omega arith, omega arith)

  module _ (bracket : get_or line at 0 ≡ 40) where
    pub as_times : (fuel : ℕ)
        → item_in (suc fuel) (drop at line)
        ≡ and_then (times_in (drop at line)) λ k inner. and_then (items_in fuel inner) λ is rest. found (times k is) rest
    unfolding item_in
    as_times fuel = rw (first_byte line at, eq-eqb (get_or line at 0) 40 bracket)

    module _ (r : Result (At ℕ) Refusal) (is : TimesIs line at r) where
      pub no_times : (k : Refusal) → r ≡ Err k → ItemIs line at (Err NoForm)
      unfolding and_then read_as
      no_times k e = item_refused (λ fuel l. rw (as_times fuel, missed (λ v. v) line r _ is.reads k e))

      module _ (a : At ℕ) (e : r ≡ Ok a) (q : Result (At ℕ) Refusal) (items : ItemsAre line a.next q) where
        inside : (at < a.next) × (a.next ≤ length line) × (1 ≤ a.value) × (a.value ≤ 99999)
        inside = number_inside line at 1 99999 r is.inside a e

        by_items : (x : Result (At ℕ) Refusal) → q ≡ x → ItemGives (fold a.value (back (placed line x)))
        unfolding and_then found
        by_items x d fuel l =
            let fewer : length (drop a.next line) < fuel =
            omega (arith, inside.0, inside.1, left_over line at, left_over line a.next) in
            rw (as_times fuel, there (λ v. v) line r _ is.reads a e)
            (sized_times a.value inside.2 (items_in fuel (drop a.next line))
            ∙ ap (fold a.value) (was_read (placed line) _ q x (items.reads fuel fewer) d))

        pub no_inner : (j : Refusal) → q ≡ Err j → ItemIs line at (Err NoForm)
        unfolding fold placed_as back
        no_inner j d = item_refused (by_items _ d)

        pub repeats : (b : At ℕ) → q ≡ Ok b → (m : ℕ) → m ≡ capped (a.value * b.value)
            → ItemIs line at (Ok (record { value = m; next = b.next }))
        unfolding fold placed_as back found
        repeats b d m g =
            let behind = number_inside line a.next 0 65537 q items.inside b d in
            item_counted (record { value = m; next = b.next })
            (λ fuel l. by_items _ d fuel l ∙ ap (λ (v : ℕ). found v (drop b.next line)) (sym g))
            (omega (arith, inside.0, behind.0), behind.1, omega arith, omega arith)

-- ---- a list of items

-- the items from `place` on are those from `at` on but for `total` steps
pub record Along (line : List ℕ) (at place total : ℕ) : Type 0 where
  pub behind : at ≤ place
  pub small : total ≤ 65537
  pub reads : (fuel : ℕ) → length (drop at line) < fuel
      → (k : ℕ) × (length (drop place line) < k)
      × (sized expand (items_in fuel (drop at line)) ≡ more total (sized expand (items_in k (drop place line))))

pub begun : (line : List ℕ) (at : ℕ) → Along line at at 0
begun line at = record {
  behind = omega arith;
  small = omega arith;
  reads = λ fuel l. (fuel, l, none_more (items_in fuel (drop at line)));
}

module _ (line : List ℕ) (at place total : ℕ) (along : Along line at place total) where
  -- the model's reader gives o from `place` on, by the steps and `total` more
  abbrev ItemsGive : Option (Read ℕ) → Type 0
  ItemsGive o =
      (fuel : ℕ) → length (drop place line) ≤ fuel
      → more total (sized expand (items_in (suc fuel) (drop place line))) ≡ o

  items_are : (o : Option (Read ℕ)) → ItemsGive o → (r : Result (At ℕ) Refusal) → CountedInside line at r
      → placed line r ≡ or_four o → ItemsAre line at r
  items_are o gives r inside e =
      record {
        reads = λ fuel l. from (along.reads fuel l).0 (along.reads fuel l).1 (along.reads fuel l).2;
        inside = inside;
      }
    where
      from : {p : Option (Read ℕ)} (k : ℕ) → length (drop place line) < k
          → p ≡ more total (sized expand (items_in k (drop place line)))
          → placed line r ≡ or_four p
      from zero l q = absurd (omega arith)
      from (suc k) l q = e ∙ ap or_four (sym (q ∙ gives k (omega arith)))

  items_refused : ItemsGive none → ItemsAre line at (Err NoForm)
  unfolding placed_as or_four
  items_refused gives = items_are none gives (Err NoForm) tt refl

  pub no_more : length line ≤ place → ItemsAre line at (Err NoForm)
  unfolding items_in spaced and_then read_as more
  no_more h = items_refused (λ fuel l. rw (drop_of_length-le line h))

  module _ (inside : place < length line) where
    pub closed : get_or line place 0 ≡ 41 → ItemsAre line at (Ok (record { value = total; next = place + 1 }))
    unfolding items_in read_as more placed_as or_four found expand
    closed e =
        let same : capped (total + 0) ≡ total = omega (arith, along.small) in
        items_are (found total (drop (place + 1) line))
        (λ fuel l. rw (first_byte line place, eq-eqb (get_or line place 0) 41 e, behind_first line place)
        (ap (λ (v : ℕ). found v (drop (place + 1) line)) same))
        (Ok (record { value = total; next = place + 1 })) (omega (arith, along.behind), omega arith, omega arith, along.small) refl

    module _ (unclosed : get_or line place 0 ≡ 41 → ⊥) where
      pub no_space : (get_or line place 0 ≡ 32 → ⊥) → ItemsAre line at (Err NoForm)
      unfolding items_in spaced and_then read_as more
      no_space ne =
          items_refused (λ fuel l. rw
          (first_byte line place, ne_eqb (get_or line place 0) 41 unclosed, ne_eqb (get_or line place 0) 32 ne))

      module _ (space : get_or line place 0 ≡ 32) (q : Result (At ℕ) Refusal) (item : ItemIs line (place + 1) q) where
        by_item : (x : Result (At ℕ) Refusal) → q ≡ x → (fuel : ℕ) → length (drop place line) ≤ fuel
            → sized expand (items_in (suc fuel) (drop place line)) ≡ joined fuel (back (placed line x))
        unfolding items_in spaced
        by_item x d fuel l =
            let fewer : length (drop (place + 1) line) < fuel =
            omega (arith, left_over line place, left_over line (place + 1)) in
            rw (
              first_byte line place,
              ne_eqb (get_or line place 0) 41 unclosed,
              eq-eqb (get_or line place 0) 32 space,
              behind_first line place,
            )
            (sized_next fuel (item_in fuel (drop (place + 1) line))
            ∙ ap (joined fuel) (was_read (placed line) _ q x (item.reads fuel fewer) d))

        pub item_missing : (k : Refusal) → q ≡ Err k → ItemsAre line at (Err NoForm)
        unfolding joined placed_as back more
        item_missing k d = items_refused (λ fuel l. ap (more total) (by_item _ d fuel l))

        pub again : (b : At ℕ) → q ≡ Ok b → (m : ℕ) → m ≡ capped (total + b.value) → Along line at b.next m
        unfolding joined placed_as back found
        again b d m g =
            let within = number_inside line (place + 1) 0 65537 q item.inside b d in
            record {
              behind = omega (arith, along.behind, within.0);
              small = omega arith;
              reads = λ fuel l. from fuel (along.reads fuel l).0 (along.reads fuel l).1 (along.reads fuel l).2;
            }
          where
            from : (fuel k : ℕ) → length (drop place line) < k
                → sized expand (items_in fuel (drop at line)) ≡ more total (sized expand (items_in k (drop place line)))
                → (k : ℕ) × (length (drop b.next line) < k)
                × (sized expand (items_in fuel (drop at line)) ≡ more m (sized expand (items_in k (drop b.next line))))
            from fuel zero l e = absurd (omega arith)
            from fuel (suc k) l e =
                let within = number_inside line (place + 1) 0 65537 q item.inside b d in (
                  k,
                  omega (arith, within.0, within.1, left_over line place, left_over line b.next),
                  e ∙ ap (more total) (by_item _ d k (omega arith))
                      ∙ more_twice total b.value _
                      ∙ ap (λ (v : ℕ). more v (sized expand (items_in k (drop b.next line)))) (sym g),
                )

-- ---- what the calls of those who go over items once more need to end

pub falls_to : (l at inner t : ℕ) → l - at ≡ t → at < inner → at < l → l - inner < t
falls_to l at inner t e h b = omega arith
