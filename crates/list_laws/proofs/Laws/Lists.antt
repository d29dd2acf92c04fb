-- A list of things of one kind, read in a loop: the things read so far and those still to come are the list that the
-- model's reader finds, and what each way out of the loop answers of it.
-- Relies on the lexer's Places, Spaced and Given and the model's `list_in`; the laws of rounds and pairs rely on it.
use Rattle.model.proofs.Kit.{◌≡◌, refl, sym, ap, ◌∙◌, List, [], ◌∷◌, ◌++◌, append_assoc, append-nil, none, some, Option}
use Rattle.model.proofs.Kit.{ℕ, zero, suc, ◌+◌, ◌≤◌, ◌<◌, eq-eqb, ne_eqb, length, drop, get_or, length-append, arith}
use lib.ListN.{get_or-eq_default}
use Rattle.std.specs.Prelude.{Ok, Err}
use Rattle.std.specs.declared.result.Result.{Result}
use Rattle.model.specs.declared.refusal.Refusal.{Refusal}
use Rattle.model.specs.declared.refusal.Refusal.TheVariants.{NoForm}
use Rattle.lexer.specs.declared.At.{At}
use Rattle.lexer.specs.Placed.{placed, placed_as, Inside}
use Rattle.model.specs.Forms.{Read, found, and_then, spaced, list_in, or_four}
use Rattle.list_laws.specs.declared.Listed.{Listed}
use Rattle.list_laws.specs.Lists.{read_as, summary, ListIs}
use Rattle.model.proofs.Basics.Tests.{never}
use Rattle.lexer.proofs.Laws.Given.{found_one}
use Rattle.lexer.proofs.Laws.Places.{first_byte, behind_first, left_over}
use Rattle.lexer.proofs.Laws.Spaced.{no_space_left}

-- ---- what was read, as a function tells of it

module _ {A B : Type 0} (f : A → B) where
  pub read_twice : {C : Type 0} (g : B → C) (o : Option (Read A)) → read_as g (read_as f o) ≡ read_as (λ a. g (f a)) o
  unfolding read_as found
  read_twice g none = refl
  read_twice g (some r) = refl

  pub as_none : (o : Option (Read A)) → read_as f o ≡ none → o ≡ none
  unfolding read_as found
  as_none none e = refl
  as_none (some r) e = never _ (sym e)

  pub as_found : (o : Option (Read A)) (b : B) (l : List ℕ) → read_as f o ≡ found b l
      → (a : A) × (o ≡ found a l) × (f a ≡ b)
  unfolding read_as found
  as_found none b l e = never _ e
  as_found (some r) b l e =
      let same = found_one (f r.value) b r.rest l e in
      (r.value, ap (λ (k : List ℕ). found r.value k) same.1, same.0)

-- ---- the list behind what was read of it

-- the things from `at` on, behind ws, are those from `place` on, behind xs
pub record Along {A : Type 0} (one : List ℕ → Option (Read A)) (line : List ℕ) (ws : List A) (at : ℕ) (xs : List A)
    (place : ℕ) : Type 0 where
  pub behind : at ≤ place
  pub reads : (fuel : ℕ) → length (drop at line) < fuel
      → (k : ℕ) × (length (drop place line) < k)
      × (read_as (λ is. ws ++ is) (list_in one fuel (drop at line))
      ≡ read_as (λ is. xs ++ is) (list_in one k (drop place line)))

module _ {A : Type 0} (one : List ℕ → Option (Read A)) (line : List ℕ) (ws : List A) (at : ℕ) where
  pub begun : Along one line ws at ws at
  begun = record { behind = omega arith; reads = λ fuel l. (fuel, l, refl) }

  -- the model's reader gives o, behind ws
  abbrev pub Gives : Option (Read (List A)) → Type 0
  Gives o = (fuel : ℕ) → length (drop at line) < fuel → read_as (λ is. ws ++ is) (list_in one fuel (drop at line)) ≡ o

  module _ (xs : List A) (place : ℕ) (along : Along one line ws at xs place) where
    -- with fuel left at the place that was reached
    from_there : (o : Option (Read (List A)))
        → ((fuel : ℕ) → length (drop place line) ≤ fuel
        → read_as (λ is. xs ++ is) (list_in one (suc fuel) (drop place line)) ≡ o)
        → Gives o
    from_there o there fuel l = from (along.reads fuel l).0 (along.reads fuel l).1 (along.reads fuel l).2
      where
        from : {p : Option (Read (List A))} (k : ℕ) → length (drop place line) < k
            → p ≡ read_as (λ is. xs ++ is) (list_in one k (drop place line)) → p ≡ o
        from zero l q = absurd (omega arith)
        from (suc k) l q = q ∙ there k (omega arith)

    pub closed : get_or line place 0 ≡ 41 → Gives (found xs (drop (place + 1) line))
    unfolding list_in read_as found
    closed e =
        from_there _ (λ fuel l. rw (first_byte line place, eq-eqb (get_or line place 0) 41 e, behind_first line place)
        (ap (λ (v : List A). found v (drop (place + 1) line)) (append-nil xs)))

    module _ (unclosed : get_or line place 0 ≡ 41 → ⊥) where
      pub unread : spaced one (drop place line) ≡ none → Gives none
      unfolding list_in read_as and_then
      unread e = from_there _ (λ fuel l. rw (first_byte line place, ne_eqb (get_or line place 0) 41 unclosed, e))

      pub again : place < length line → (x : A) (after : ℕ) → spaced one (drop place line) ≡ found x (drop after line)
          → place < after → Along one line ws at (xs ++ (x ∷ [])) after
      unfolding list_in read_as and_then found
      again inside x after e h = record {
        behind = omega (arith, along.behind);
        reads = λ fuel l. from fuel (along.reads fuel l).0 (along.reads fuel l).1 (along.reads fuel l).2;
      }
        where
          one_more : (o : Option (Read (List A)))
              → read_as (λ is. xs ++ is) (and_then o λ is rest. found (x ∷ is) rest)
              ≡ read_as (λ is. (xs ++ (x ∷ [])) ++ is) o
          one_more none = refl
          one_more (some r) =
              ap (λ (v : List A). found v r.rest) (sym (append_assoc xs (x ∷ []) r.value))

          next : (k : ℕ) → read_as (λ is. xs ++ is) (list_in one (suc k) (drop place line))
              ≡ read_as (λ is. (xs ++ (x ∷ [])) ++ is) (list_in one k (drop after line))
          next k =
              rw (first_byte line place, ne_eqb (get_or line place 0) 41 unclosed, e)
              (one_more (list_in one k (drop after line)))

          from : (fuel k : ℕ) → length (drop place line) < k
              → read_as (λ is. ws ++ is) (list_in one fuel (drop at line))
              ≡ read_as (λ is. xs ++ is) (list_in one k (drop place line))
              → (k : ℕ) × (length (drop after line) < k)
              × (read_as (λ is. ws ++ is) (list_in one fuel (drop at line))
              ≡ read_as (λ is. (xs ++ (x ∷ [])) ++ is) (list_in one k (drop after line)))
          from fuel zero l q = absurd (omega arith)
          from fuel (suc k) l q = (k, omega (arith, left_over line place, left_over line after), q ∙ next k)

-- ---- the list summed up

abbrev pub listed : (count needs next : ℕ) → At Listed
listed count needs next = record { value = record { count = count; needs = needs }; next = next }

-- the things read so far are `count`, and `sum` is what f makes of them
pub record Summed {A : Type 0} (one : List ℕ → Option (Read A)) (f : List A → ℕ) (ws : List A) (line : List ℕ)
    (at place count sum : ℕ) : Type 0 where
  pub things : List A
  pub along : Along one line ws at things place
  pub counts : count ≡ length things
  pub sums : sum ≡ f things
  pub few : count ≤ place

module _ {A : Type 0} (one : List ℕ → Option (Read A)) (f : List A → ℕ) (ws : List A) (line : List ℕ) (at : ℕ) where
  pub sum_begun : (count sum : ℕ) → count ≡ length ws → sum ≡ f ws → count ≤ at → Summed one f ws line at at count sum
  sum_begun count sum e q h = record { things = ws; along = begun one line ws at; counts = e; sums = q; few = h }

  module _ (place count sum : ℕ) (s : Summed one f ws line at place count sum) where
    list_is : (o : Option (Read (List A))) → Gives one line ws at o → (r : Result (At Listed) Refusal) → Inside line at r
        → placed line r ≡ or_four (read_as (summary f) o) → ListIs one f ws line at r
    list_is o gives r inside e = record {
      reads = λ fuel l. e
          ∙ ap or_four (ap (read_as (summary f)) (sym (gives fuel l)) ∙ read_twice (λ is. ws ++ is) (summary f) _);
      inside = inside;
    }

    refused : Gives one line ws at none → ListIs one f ws line at (Err NoForm)
    unfolding placed_as or_four read_as
    refused gives = list_is none gives (Err NoForm) tt refl

    pub list_closed : place < length line → get_or line place 0 ≡ 41 → ListIs one f ws line at (Ok (listed count sum (place + 1)))
    unfolding placed_as or_four read_as summary found
    list_closed h e =
        list_is _ (closed one line ws at s.things place s.along e) (Ok (listed count sum (place + 1)))
        (omega (arith, s.along.behind), omega arith) (rw (s.counts, s.sums))

    pub list_unread : (get_or line place 0 ≡ 41 → ⊥) → spaced one (drop place line) ≡ none
        → ListIs one f ws line at (Err NoForm)
    list_unread unclosed e = refused (unread one line ws at s.things place s.along unclosed e)

    pub list_past : length line ≤ place → ListIs one f ws line at (Err NoForm)
    list_past h =
        list_unread (λ e. omega (arith, get_or-eq_default line 0 h)) (no_space_left one line place h)

    pub list_again : (get_or line place 0 ≡ 41 → ⊥) → place < length line → (x : A) (after : ℕ)
        → spaced one (drop place line) ≡ found x (drop after line) → place < after
        → (m : ℕ) → ((xs : List A) → sum ≡ f xs → m ≡ f (xs ++ (x ∷ [])))
        → Summed one f ws line at after (count + 1) m
    list_again unclosed inside x after e h m grown = record {
      things = s.things ++ (x ∷ []);
      along = again one line ws at s.things place s.along unclosed inside x after e h;
      counts = omega (arith, s.counts, length-append s.things (x ∷ []));
      sums = grown s.things s.sums;
      few = omega (arith, s.few);
    }
