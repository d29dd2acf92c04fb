-- The text of each kind of step, an answer as the code finds it.
-- Relies on the model's texts; the proof of `write_kind` relies on it.
use Rattle.model.proofs.Kit.{◌≡◌, ap, ◌∙◌, Bool, true, false, List, [], append_assoc, append-nil, ℕ}
use Prim.Native.String.{String}
use Rattle.model.specs.declared.StepAnswer.{StepAnswer}
use Rattle.model.specs.declared.StepAnswer.TheVariants.{Wrote, Read, Went, Marked, Adopted, Decided, Spent, Refused}
use Rattle.model.specs.Figure.{Figure}
use Rattle.model.specs.Show.{text, text_from, decimal_in, decimal}
use Rattle.model.specs.Tape.{end_text, kind_text}
use Rattle.model.specs.Told.{told}
use Rattle.shown.specs.Texts.{standing_bytes}
use Rattle.tape_writer.specs.Writing.{end_bytes}

-- the model's text, over the word's bytes
end_is : (word : String) (c : ℕ) (x : Figure) (k : ℕ) → end_text word c x k ≡ end_bytes (text word) c x k
unfolding end_text end_bytes standing_bytes
end_is word c x k = simp append_assoc

module _ (a : StepAnswer) where
  abbrev Kind : List ℕ
  Kind = kind_text (told a).did (told a).met

  as_told : (b : StepAnswer) → a ≡ b → Kind ≡ kind_text (told b).did (told b).met
  as_told b e = ap (λ (x : StepAnswer). kind_text (told x).did (told x).met) e

  pub wrote_text : a ≡ Wrote → Kind ≡ text "wrote)"
  unfolding kind_text told
  wrote_text e = as_told Wrote e

  pub filled_text : a ≡ Read true → Kind ≡ text "read 1)"
  unfolding kind_text told text text_from decimal decimal_in
  filled_text e = as_told (Read true) e

  pub empty_text : a ≡ Read false → Kind ≡ text "read 0)"
  unfolding kind_text told text text_from decimal decimal_in
  empty_text e = as_told (Read false) e

  pub refused_text : (number : ℕ) → a ≡ Refused number → Kind ≡ []
  unfolding kind_text told
  refused_text number e = as_told (Refused number) e

  module _ (c k : ℕ) (x : Figure) where
    pub went_text : a ≡ Went c k x → Kind ≡ end_bytes (text "went") c x k
    unfolding kind_text told
    went_text e = as_told (Went c k x) e ∙ end_is "went" c x k

    pub marked_text : a ≡ Marked c k x → Kind ≡ end_bytes (text "marked") c x k
    unfolding kind_text told
    marked_text e = as_told (Marked c k x) e ∙ end_is "marked" c x k

    pub adopted_text : a ≡ Adopted c k x → Kind ≡ end_bytes (text "adopted") c x k
    unfolding kind_text told
    adopted_text e = as_told (Adopted c k x) e ∙ end_is "adopted" c x k

    pub decided_text : a ≡ Decided c k x → Kind ≡ end_bytes (text "decided") c x k
    unfolding kind_text told
    decided_text e = as_told (Decided c k x) e ∙ end_is "decided" c x k

    pub spent_text : a ≡ Spent c k x → Kind ≡ end_bytes (text "spent") c x k
    unfolding kind_text told
    spent_text e = as_told (Spent c k x) e ∙ end_is "spent" c x k

pub ruleset collect_ends = (went_text, marked_text, adopted_text, decided_text, spent_text)

pub ruleset kinds = (append-nil, wrote_text, filled_text, empty_text, refused_text, collect_ends)
