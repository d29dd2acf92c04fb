-- A line that was read as `rounds`: where its number and its rounds stand, and the answer of its play at each return.
-- Relies on the sheet's Readings, on what a read line holds and on the call by the round; the proof of
-- `play_rounds_line` relies on it.
use Rattle.model.proofs.Kit.{◌≡◌, refl, sym, ap, subst, ◌∙◌, List, [], ◌∷◌, ◌++◌, none, ℕ, ◌+◌, ◌≤◌}
use Rattle.model.proofs.Kit.{length, drop, length-append, arith}
use Rattle.std.specs.Prelude.{Ok, Err}
use Rattle.model.specs.declared.refusal.Refusal.{Refusal}
use Rattle.model.specs.Calls.{board_refusal}
use Rattle.model.specs.Forms as forms
use Rattle.model.specs.Forms.{found, number_in, rounds_in, up_to_stop, first_word, word_place, reads, read_line}
use Rattle.model.specs.Grammar.{written, written_list, written_round, InRange}
use Rattle.model.specs.Rounds.{decided_on}
use Rattle.model.specs.Show.{text, text_from, decimal}
use Rattle.model.proofs.Sheet.Lists.{station_read, list_stops, no_more, rounds_read}
use Rattle.model.proofs.Sheet.WrittenBack.{LineStood, line_stood}
use Rattle.halts.specs.Needs as halts
use Rattle.lexer.specs.declared.At.{At}
use Rattle.lexer.specs.Known.{NumberStands, KnownIs}
use Rattle.lexer.proofs.Laws.Given.{found_one}
use Rattle.lexer.proofs.Laws.Known.{stands_there, known_found, known_inside}
use Rattle.lexer.proofs.Laws.Places.{behind_first}
use Rattle.sheet.specs.declared.form.LineForm.TheVariants.{Rounds}
use Rattle.sheet.specs.LineForms.{line_form}
use Rattle.sheet.proofs.Laws.Readings.{read_as_lem, not_long}
use Rattle.rounds.specs.Asked.{Refuses}
use Rattle.rounds.proofs.Laws.Rounds.{rounds_turned, rounds_passed, passed_sound, left_sound, refused_answer, refused_bytes}
use Rattle.rounds.proofs.Laws.Rounds.{played_answer, played_bytes}
use Rattle.line_rounds.specs.LineRounds.{RoundsStand, RoundsPlay, LineHas, PlaysLine}

-- behind the word stand the number and the rounds, up to the line's last bracket
behind_word : (k : ℕ) (rs : List (List ℕ))
    → drop (word_place (written (forms.rounds k rs))) (written (forms.rounds k rs))
    ≡ 32 ∷ (decimal k ++ (written_list written_round rs ++ (41 ∷ [])))
unfolding word_place first_word up_to_stop written text text_from
behind_word k rs = refl

-- a line that is read has at most 255 bytes, and so fewer rounds
pub few : (line : List ℕ) (k : ℕ) (rs : List (List ℕ)) → read_line line ≡ reads (forms.rounds k rs) → length rs ≤ 255
unfolding LineStood written text text_from
few line k rs e =
    let stood = subst (LineStood line) e (line_stood line) in
    omega (
      arith,
      not_long line _ e,
      no_more written_round rs,
      ap length stood.0,
      length-append (decimal k) (written_list written_round rs ++ (41 ∷ [])),
      length-append (written_list written_round rs) (41 ∷ []),
    )

module _ (line : List ℕ) (at count needs : ℕ) (has : LineHas line at count needs) where
  -- its number and its rounds
  pub record Has : Type 0 where
    pub k : ℕ
    pub rounds : List (List ℕ)
    pub is : read_line line ≡ reads (forms.rounds k rounds)

  pub its : Has
  unfolding LineHas
  its =
      let q = read_as_lem (word_place line) (read_line line) (reads (Rounds at count needs)) has in
      record { k = q.0; rounds = q.1; is = q.2 }

  module _ (k : ℕ) (rs : List (List ℕ)) (e : read_line line ≡ reads (forms.rounds k rs)) where
    pub summed : (word_place line ≡ at) × (count ≡ length rs) × (halts.needs k rs ≡ needs)
    unfolding LineHas line_form
    summed =
        let q : reads (Rounds (word_place line) (length rs) (halts.needs k rs)) ≡ reads (Rounds at count needs) =
        ap (line_form (word_place line)) (sym e) ∙ has in
        let place : word_place line ≡ at = cc in
        let many : count ≡ length rs = cc in
        let most : halts.needs k rs ≡ needs = cc in
        (place, many, most)

    stood : (line ≡ written (forms.rounds k rs)) × InRange (forms.rounds k rs)
    unfolding LineStood
    stood = subst (LineStood line) e (line_stood line)

    number : number_in 0 99 (drop (at + 1) line) ≡ found k (written_list written_round rs ++ (41 ∷ []))
    unfolding InRange
    number =
        let there : drop at line ≡ 32 ∷ (decimal k ++ (written_list written_round rs ++ (41 ∷ []))) =
        ap (λ (p : ℕ). drop p line) (sym summed.0) ∙ ap (λ (l : List ℕ). drop (word_place l) l) stood.0
        ∙ behind_word k rs in
        ap (number_in 0 99) (sym (behind_first line at) ∙ ap (drop 1) there)
        ∙ station_read k stood.1.0 _ (list_stops written_round rs [])

  pub number_stands : NumberStands line (at + 1)
  unfolding found
  number_stands = stands_there line (at + 1) 0 99 (omega arith) _ (number its.k its.rounds its.is)

  pub number_inside : at + 1 ≤ length line
  number_inside = omega (arith, known_inside line (at + 1) number_stands)

  module _ (n : At ℕ) (known : KnownIs line (at + 1) n) where
    pub rounds_there : (k : ℕ) (rs : List (List ℕ)) → read_line line ≡ reads (forms.rounds k rs)
        → rounds_in (drop n.next line) ≡ found rs []
    unfolding found InRange
    rounds_there k rs e =
        let after-number = found_one _ _ _ _
        (sym (known_found line (at + 1) 0 99 (omega arith) _ (number k rs e) n known) ∙ number k rs e) in
        ap rounds_in after-number.1 ∙ rounds_read rs (stood k rs e).1.1 []

    pub rounds_stand : RoundsStand line n.next
    rounds_stand = record { rounds = its.rounds; rest = []; read = rounds_there its.k its.rounds its.is }

    module _ (b : List ℕ) (x : Unit {0}) (h : Refuses needs b (Ok x)) where
      pub line_played : (d : List ℕ) (decided : ℕ) → RoundsPlay line n.next b d → decided ≡ decided_on d
          → PlaysLine line b (Ok (record { rounds = count; decided = decided })) d
      unfolding PlaysLine RoundsPlay
      line_played d decided plays q k rs e =
          let free = rounds_passed needs b k rs (summed k rs e).2 x h in
          let ran = plays rs [] (rounds_there k rs e) in
          (played_answer k rs b d free ran count decided (summed k rs e).1 q, played_bytes k rs b d free ran)

  pub line_refused : (b : List ℕ) (r : Refusal) → Refuses needs b (Err r) → PlaysLine line b (Err r) b
  unfolding PlaysLine
  line_refused b r h k rs e =
      let turned = rounds_turned needs b k rs (summed k rs e).2 r h in
      (refused_answer k rs b r turned, refused_bytes k rs b r turned)

-- the rounds that were played leave a sound board
pub played_sound : (line : List ℕ) (at needs : ℕ) (b : List ℕ) (x : Unit {0}) → Refuses needs b (Ok x)
    → RoundsStand line at
    → (d : List ℕ) → RoundsPlay line at b d → board_refusal d none ≡ none
unfolding RoundsPlay
played_sound line at needs b x h stand d plays =
    left_sound needs b x h stand.rounds d (plays stand.rounds stand.rest stand.read)

-- what the code finds by itself
pub ruleset line = (number_stands, number_inside, passed_sound, rounds_stand, line_refused, line_played)
