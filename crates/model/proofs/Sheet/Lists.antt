-- Lists of one kind of thing as they are written, and rounds: the reader finds in them those things, and takes nothing
-- else for them. Relies on the reading of numbers; both directions of the grammar rely on it.
use Rattle.model.proofs.Kit.{◌≡◌, refl, sym, ap, ◌∙◌, false, List, [], ◌∷◌, ◌++◌, append_assoc, ℕ, zero, suc}
use Rattle.model.proofs.Kit.{Option, ◌+◌, ◌≤◌, ◌<◌, lit<, eqb, eqb-true, length, drop, length-append, arith}
use Rattle.model.specs.Bytes.{byte, Each}
use Rattle.model.specs.Show.{text_from, text, decimal}
use Rattle.model.specs.Forms.{Read, found, spaced, digit, number_in, list_in, stations_in, round_in, rounds_in}
use Rattle.model.specs.Grammar.{written_list, written_round}
use Rattle.model.proofs.Basics.Tests.{cond_case}
use Rattle.model.proofs.Sheet.Readers.{Always, always_map, always_then, always_if}
use Rattle.model.proofs.Sheet.Numbers.{Stops, then_found, digit_not, decimal_begins, number_decimal}
use Rattle.model.proofs.Sheet.NumbersBack.{Stood, in_front, spaced_stood, number_stood}

-- ---- what is read of a written list

-- a number of the sheet, 0 to 99
pub station_read : (i : ℕ) → i ≤ 99 → (rest : List ℕ) → Stops rest → number_in 0 99 (decimal i ++ rest) ≡ found i rest
station_read i h rest s = number_decimal 0 99 i (omega arith) h (lit< tt) rest s

pub bracket_stops : (rest : List ℕ) → Stops (41 ∷ rest)
unfolding Stops digit
bracket_stops rest = refl

pub space_stops : (rest : List ℕ) → Stops (32 ∷ rest)
unfolding Stops digit
space_stops rest = refl

not_closing : digit 41 ≡ false
unfolding digit
not_closing = refl

module _ {A : Type 0} (write : A → List ℕ) where
  -- the list ends at a space or at its closing bracket
  pub list_stops : (xs : List A) (rest : List ℕ) → Stops (written_list write xs ++ (41 ∷ rest))
  unfolding written_list text text_from
  list_stops [] rest = bracket_stops rest
  list_stops (x ∷ xs) rest = space_stops _

  pub regrouped : (x : A) (xs : List A) (rest : List ℕ)
      → written_list write (x ∷ xs) ++ rest ≡ 32 ∷ (write x ++ (written_list write xs ++ rest))
  unfolding written_list text text_from
  regrouped x xs rest = simp append_assoc

  longer : (x : A) (xs : List A) → length (written_list write xs) < length (written_list write (x ∷ xs))
  unfolding written_list text text_from
  longer x xs = simp length-append (omega arith)

  -- each thing takes a byte at least
  pub no_more : (xs : List A) → length xs ≤ length (written_list write xs)
  unfolding written_list text text_from
  no_more [] = omega arith
  no_more (x ∷ xs) = omega (arith, no_more xs, longer x xs)

  -- the reader of one thing finds a written one
  module _ (one : List ℕ → Option (Read A)) (P : A → Type 0)
      (reads : (x : A) → P x → (rest : List ℕ) → Stops rest → one (write x ++ rest) ≡ found x rest) where
    next_read : (x : A) (xs : List A) (fuel : ℕ) (more rest : List ℕ) → one (write x ++ more) ≡ found x more
        → list_in one fuel more ≡ found xs rest → list_in one (suc fuel) (32 ∷ (write x ++ more)) ≡ found (x ∷ xs) rest
    unfolding list_in spaced
    next_read x xs fuel more rest e f = then_found _ e ∙ then_found _ f

    pub list_read : (xs : List A) (fuel : ℕ) → length (written_list write xs) < fuel → Each P xs → (rest : List ℕ)
        → list_in one fuel (written_list write xs ++ (41 ∷ rest)) ≡ found xs rest
    unfolding list_in written_list Each
    list_read xs zero f h rest = absurd (omega arith)
    list_read [] (suc fuel) f h rest = refl
    list_read (x ∷ xs) (suc fuel) f h rest =
        ap (list_in one (suc fuel)) (regrouped x xs (41 ∷ rest))
        ∙ next_read x xs fuel (written_list write xs ++ (41 ∷ rest)) rest
        (reads x h.0 (written_list write xs ++ (41 ∷ rest)) (list_stops xs rest))
        (list_read xs fuel (omega (arith, longer x xs)) h.1 rest)

abbrev pub Stations : List ℕ → Type 0
Stations = Each (λ i. i ≤ 99)

pub stations_read : (is : List ℕ) → Stations is → (rest : List ℕ)
    → stations_in (written_list decimal is ++ (41 ∷ rest)) ≡ found is rest
unfolding stations_in
stations_read is h rest =
    list_read decimal (number_in 0 99) (λ i. i ≤ 99) station_read is _
    (omega (arith, length-append (written_list decimal is) (41 ∷ rest))) h rest

pub round_regrouped : (i : ℕ) (is rest : List ℕ)
    → written_round (i ∷ is) ++ rest ≡ 40 ∷ (decimal i ++ (written_list decimal is ++ (41 ∷ rest)))
unfolding written_round text text_from
round_regrouped i is rest = simp append_assoc

pub round_read : (r : List ℕ) → Stations r → (rest : List ℕ) → Stops rest
    → round_in (written_round r ++ rest) ≡ found r rest
unfolding round_in written_round text text_from Each
round_read [] h rest s = refl
round_read (i ∷ is) h rest s =
    ap round_in (round_regrouped i is rest)
    ∙ rw (digit_not (byte (decimal i ++ (written_list decimal is ++ (41 ∷ rest))) 0) 41
    (decimal_begins i (written_list decimal is ++ (41 ∷ rest))) not_closing)
    (then_found _ (station_read i h.0 _ (list_stops decimal is rest)) ∙ then_found _ (stations_read is h.1 rest))

pub rounds_read : (rs : List (List ℕ)) → Each Stations rs → (rest : List ℕ)
    → rounds_in (written_list written_round rs ++ (41 ∷ rest)) ≡ found rs rest
unfolding rounds_in
rounds_read rs h rest =
    list_read written_round round_in Stations round_read rs _
    (omega (arith, length-append (written_list written_round rs) (41 ∷ rest))) h rest

-- ---- what the reader takes for a list

module _ {A : Type 0} (write : A → List ℕ) (P : A → Type 0) where
  -- what was read of l is the list as it is written, with its closing bracket, and each of its things has P
  unfoldable pub ListStood : List ℕ → Read (List A) → Type 0
  ListStood l r = (l ≡ written_list write r.value ++ (41 ∷ r.rest)) × Each P r.value

  pub list_stood : (one : List ℕ → Option (Read A)) → ((k : List ℕ) → Always (Stood write P k) (one k)) → (fuel : ℕ)
      (l : List ℕ)
      → Always (ListStood l) (list_in one fuel l)
  unfolding list_in Stood ListStood written_list Each found Always
  list_stood one each zero l = tt
  list_stood one each (suc fuel) l =
      cond_case (Always (ListStood l)) (eqb (byte l 0) 41) _ _
      (λ e. (in_front l 41 (lit< tt) (eqb-true (byte l 0) 41 e), tt))
      (λ e. always_then (Stood (λ x. 32 ∷ write x) P l) (ListStood l) (spaced one l) _ (spaced_stood write P one l each)
      (λ r t. always_then (ListStood r.rest) (ListStood l) (list_in one fuel r.rest) _
      (list_stood one each fuel r.rest)
      (λ s h. (
        t.0 ∙ ap (λ (x : List ℕ). 32 ∷ (write r.value ++ x)) h.0
            ∙ sym (regrouped write r.value s.value (41 ∷ s.rest)),
        (t.1, h.1),
      ))))

-- a number of the sheet, as it is taken
pub station_stood : (l : List ℕ) → Always (Stood decimal (λ i. i ≤ 99) l) (number_in 0 99 l)
unfolding Stood
station_stood l =
    always_map _ (Stood decimal (λ i. i ≤ 99) l) (number_in 0 99 l) (λ r h. (h.0, h.1.1))
    (number_stood 0 99 (lit< tt) l)

pub round_stood : (l : List ℕ) → Always (Stood written_round Stations l) (round_in l)
unfolding round_in stations_in Stood ListStood written_round Each text text_from found Always
round_stood l =
    always_if (Stood written_round Stations l) (eqb (byte l 0) 40) _
    (λ e. let bracket = in_front l 40 (lit< tt) (eqb-true (byte l 0) 40 e) in
    cond_case (Always (Stood written_round Stations l)) (eqb (byte (drop 1 l) 0) 41) _ _
    (λ q. (
      bracket ∙ ap (λ (x : List ℕ). 40 ∷ x) (in_front (drop 1 l) 41 (lit< tt) (eqb-true (byte (drop 1 l) 0) 41 q)),
      tt,
    ))
    (λ q. always_then (Stood decimal (λ i. i ≤ 99) (drop 1 l)) (Stood written_round Stations l)
    (number_in 0 99 (drop 1 l)) _
    (station_stood (drop 1 l))
    (λ r t. always_then (ListStood decimal (λ i. i ≤ 99) r.rest) (Stood written_round Stations l)
    (list_in (number_in 0 99) (length r.rest + 1) r.rest) _
    (list_stood decimal (λ i. i ≤ 99) (number_in 0 99) station_stood (length r.rest + 1) r.rest)
    (λ s h. (
      bracket ∙ ap (λ (x : List ℕ). 40 ∷ x) (t.0 ∙ ap (λ (x : List ℕ). decimal r.value ++ x) h.0)
          ∙ sym (round_regrouped r.value s.value s.rest),
      (t.1, h.1),
    )))))

pub rounds_stood : (l : List ℕ) → Always (ListStood written_round Stations l) (rounds_in l)
unfolding rounds_in
rounds_stood l = list_stood written_round Stations round_in round_stood (length l + 1) l
