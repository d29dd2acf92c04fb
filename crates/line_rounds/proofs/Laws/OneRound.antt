-- One round as it stands in a line: its stations one after another, each behind the bracket or a space.
-- Relies on the model's written rounds and on a number that is known to stand at a place; the proof of `round_at`
-- relies on it.
use Rattle.model.proofs.Kit.{◌≡◌, refl, sym, ap, subst, ◌∙◌, Bool, false, List, [], ◌∷◌, ◌++◌, append-nil}
use Rattle.model.proofs.Kit.{append_assoc, ℕ, ◌+◌, ◌-◌, ◌≤◌, ◌<◌, length, drop, length-drop, get_or, w8, Fits}
use Rattle.model.proofs.Kit.{length-append, drop-drop, arith}
use Rattle.model.specs.Bytes.{byte, Each}
use Rattle.model.specs.Show.{text, text_from, decimal}
use Rattle.model.specs.Forms.{found, digit, number_in, round_in}
use Rattle.model.specs.Grammar.{written_list, written_round}
use Rattle.model.proofs.Basics.Tests.{clash}
use Rattle.model.proofs.Sheet.Readers.{Always}
use Rattle.model.proofs.Sheet.Numbers.{decimal_begins}
use Rattle.model.proofs.Sheet.NumbersBack.{Stood}
use Rattle.model.proofs.Sheet.Lists.{Stations, station_read, list_stops, round_regrouped, round_stood}
use Rattle.lexer.specs.declared.At.{At}
use Rattle.lexer.specs.Known.{NumberStands, KnownIs}
use Rattle.lexer.proofs.Laws.Given.{found_one}
use Rattle.lexer.proofs.Laws.Known.{stands_there, known_found}
use Rattle.lexer.proofs.Laws.Places.{first_byte, behind_first, some_byte}
use Rattle.rounds.specs.Suspended.{Suspends, Adds}
use Rattle.rounds.proofs.Laws.Suspended.{suspends_more}
use Rattle.line_rounds.specs.LineRounds.{RoundStands, RoundRead, RoundIs}

-- ---- a round and its text

-- a round that is read stands there as it is written, its numbers in their range
round_text : (l round rest : List ℕ) → round_in l ≡ found round rest
    → (l ≡ written_round round ++ rest) × Stations round
unfolding Always Stood found
round_text l round rest e = subst (Always (Stood written_round Stations l)) e (round_stood l)

not_closing : digit 41 ≡ false
unfolding digit
not_closing = refl

-- the stations that are left: one byte before each, and then the closing bracket
abbrev Left : List ℕ → (left rest : List ℕ) → Type 0
Left l [] rest = l ≡ 41 ∷ rest
Left l (i ∷ is) rest = (s : ℕ) × (s ≡ 41 → ⊥) × (l ≡ s ∷ (decimal i ++ (written_list decimal is ++ (41 ∷ rest))))

-- behind a station's number
left_behind : (is rest : List ℕ) → Left (written_list decimal is ++ (41 ∷ rest)) is rest
unfolding written_list text text_from
left_behind [] rest = refl
left_behind (i ∷ is) rest =
    (32, λ e. omega arith, ap (λ (l : List ℕ). 32 ∷ l) (append_assoc (decimal i) (written_list decimal is) (41 ∷ rest)))

-- the byte behind one
second_byte : (line : List ℕ) (at : ℕ) → get_or line (at + 1) 0 ≡ byte (drop 1 (drop at line)) 0
second_byte line at = sym (first_byte line (at + 1)) ∙ ap (λ (l : List ℕ). byte l 0) (sym (behind_first line at))

module _ (line : List ℕ) (at : ℕ) where
  round_long : (round rest : List ℕ) → drop at line ≡ written_round round ++ rest → at + 1 < length line
  unfolding written_round text text_from
  round_long [] rest e = omega (arith, length-drop at line, ap length e)
  round_long (i ∷ is) rest e =
      omega (
        arith,
        length-drop at line,
        ap length (e ∙ round_regrouped i is rest),
        length-append (decimal i) (written_list decimal is ++ (41 ∷ rest)),
        length-append (written_list decimal is) (41 ∷ rest),
      )

  pub second_inside : RoundStands line at → at + 1 < length line
  second_inside h = round_long h.round h.rest (round_text _ _ _ h.read).0

  -- `()`
  pub round_empty : get_or line (at + 1) 0 ≡ 41 → (halted : List Bool) → Suspends halted []
      → RoundIs line at (record { value = halted; next = at + 2 })
  unfolding RoundIs
  round_empty q halted none_yet round rest e = by round (round_text (drop at line) round rest e).0
    where
      by : (round : List ℕ) → drop at line ≡ written_round round ++ rest
          → RoundRead line at round rest (record { value = halted; next = at + 2 })
      by [] t = unfold written_round text text_from in record {
        set = none_yet;
        follows = sym (drop-drop 2 at line) ∙ ap (drop 2) t;
        behind = omega arith;
        inside = omega (arith, round_long [] rest t);
      }
      by (i ∷ is) t =
          clash (sym (decimal_begins i (written_list decimal is ++ (41 ∷ rest)))
          ∙ ap (λ (l : List ℕ). digit (byte (drop 1 l) 0)) (sym (t ∙ round_regrouped i is rest))
          ∙ ap digit (sym (second_byte line at) ∙ q) ∙ not_closing)

-- ---- the loop over its stations

pub record Along (line : List ℕ) (at : ℕ) (halted : List Bool) (place : ℕ) : Type 0 where
  pub round : List ℕ
  pub rest : List ℕ
  pub past : List ℕ
  pub left : List ℕ
  pub read : round_in (drop at line) ≡ found round rest
  pub is : round ≡ past ++ left
  pub set : Suspends halted past
  pub here : Left (drop place line) left rest
  pub numbers : Stations left
  pub behind : at ≤ place

module _ (line : List ℕ) (at : ℕ) where
  pub begun : RoundStands line at → (get_or line (at + 1) 0 ≡ 41 → ⊥) → (halted : List Bool) → Suspends halted []
      → Along line at halted at
  begun h some-station halted none_yet = by h.round h.read (round_text _ _ _ h.read)
    where
      by : (round : List ℕ) → round_in (drop at line) ≡ found round h.rest
          → (drop at line ≡ written_round round ++ h.rest) × Stations round → Along line at halted at
      by [] e t = unfold written_round text text_from in
          absurd (some-station (second_byte line at ∙ ap (λ (l : List ℕ). byte (drop 1 l) 0) t.0))
      by (i ∷ is) e t = record {
        round = i ∷ is;
        rest = h.rest;
        past = [];
        left = i ∷ is;
        read = e;
        is = refl;
        set = none_yet;
        here = (40, λ e. omega arith, t.0 ∙ round_regrouped i is h.rest);
        numbers = t.1;
        behind = omega arith;
      }

module _ (line : List ℕ) (at : ℕ) (halted : List Bool) (place : ℕ) (along : Along line at halted place) where
  pub place_inside : place < length line
  place_inside = by along.left along.here
    where
      by : (left : List ℕ) → Left (drop place line) left along.rest → place < length line
      by [] h = some_byte line place 41 _ h
      by (i ∷ is) h = some_byte line place h.0 _ h.2

  pub set_size : length halted ≡ 16
  set_size = along.set.size

  -- the closing bracket: no station is left
  pub closed : get_or line place 0 ≡ 41 → RoundIs line at (record { value = halted; next = place + 1 })
  unfolding RoundIs
  closed q round rest e = by along.left along.here along.is
    where
      same : (along.round ≡ round) × (along.rest ≡ rest)
      same = found_one _ _ _ _ (sym along.read ∙ e)

      by : (left : List ℕ) → Left (drop place line) left along.rest → along.round ≡ along.past ++ left
          → RoundRead line at round rest (record { value = halted; next = place + 1 })
      by [] h is = record {
        set = subst (Suspends halted) (sym (append-nil along.past) ∙ sym is ∙ same.0) along.set;
        follows = sym (behind_first line place) ∙ ap (drop 1) h ∙ same.1;
        behind = omega (arith, along.behind);
        inside = omega (arith, place_inside);
      }
      by (i ∷ is) h e = absurd (h.1 (ap (λ (l : List ℕ). byte l 0) (sym h.2) ∙ first_byte line place ∙ q))

  module _ (more : get_or line place 0 ≡ 41 → ⊥) where
    -- the next station, the ones behind it, and the text behind its number
    record Next : Type 0 where
      station : ℕ
      later : List ℕ
      is : along.round ≡ along.past ++ (station ∷ later)
      number : number_in 0 99 (drop (place + 1) line) ≡ found station (written_list decimal later ++ (41 ∷ along.rest))
      small : station ≤ 99
      numbers : Stations later

    next : Next
    unfolding Each
    next = by along.left along.here along.is along.numbers
      where
        by : (left : List ℕ) → Left (drop place line) left along.rest → along.round ≡ along.past ++ left
            → Stations left → Next
        by [] h e r = absurd (more (sym (first_byte line place) ∙ ap (λ (l : List ℕ). byte l 0) h))
        by (i ∷ is) h e r = record {
          station = i;
          later = is;
          is = e;
          number =
              ap (number_in 0 99) (sym (behind_first line place) ∙ ap (drop 1) h.2)
              ∙ station_read i r.0 _ (list_stops decimal is along.rest);
          small = r.0;
          numbers = r.1;
        }

    pub station_stands : NumberStands line (place + 1)
    unfolding found
    station_stands = stands_there line (place + 1) 0 99 (omega arith) _ next.number

    module _ (n : At ℕ) (known : KnownIs line (place + 1) n) where
      read_there : (n.value ≡ next.station)
          × (drop n.next line ≡ written_list decimal next.later ++ (41 ∷ along.rest))
      unfolding found
      read_there =
          found_one _ _ _ _
          (sym (known_found line (place + 1) 0 99 (omega arith) _ next.number n known) ∙ next.number)

      pub station-fits : Fits w8 n.value
      station-fits = record { fits = omega (arith, read_there.0, next.small) }

      pub less : length line - n.next < length line - place
      less = omega (arith, known.inside.0, known.inside.1)

      pub again : (now : List Bool) → Adds halted n.value now → Along line at now n.next
      again now adds = record {
        round = along.round;
        rest = along.rest;
        past = along.past ++ (next.station ∷ []);
        left = next.later;
        read = along.read;
        is = next.is ∙ sym (append_assoc along.past (next.station ∷ []) next.later);
        set =
            suspends_more halted now along.past next.station along.set
            (subst (λ (j : ℕ). Adds halted j now) read_there.0 adds);
        here =
            subst (λ (l : List ℕ). Left l next.later along.rest) (sym read_there.1)
            (left_behind next.later along.rest);
        numbers = next.numbers;
        behind = omega (arith, along.behind, known.inside.0);
      }

-- what the code finds by itself
pub ruleset stations = (place_inside, set_size)
