-- A line of pairs: what is printed, and what is left of the memory, at each return of its player.
-- Relies on a call on the board that was laid and on the proposals of a line's pairs; the proof of
-- `line::play_proposals` relies on it.
use Rattle.model.proofs.Kit.{◌≡◌, refl, sym, ap, subst, ◌∙◌, List, ◌++◌, ℕ, ◌<◌, length, drop, take, w32, Fits, arith}
use Prim.Native.Nat.{min}
use Rattle.std.specs.Prelude.{Ok, Err}
use Rattle.std.specs.declared.result.Result.{Result}
use Rattle.model.specs.declared.refusal.Refusal as refusals
use Rattle.model.specs.declared.refusal.Refusal.TheVariants.{NoBoardLaid}
use Rattle.model.specs.Proposals.{Proposal, propose_all}
use Rattle.model.specs.Told.{number, verdict}
use Rattle.model.specs.Forms.{word_place, read_line, reads, proposals}
use Rattle.model.specs.Sheet.{or_refused, together_text, play_form}
use Rattle.answer_writer.proofs.Bounds.{refused_short, together_short}
use Rattle.sheet.specs.declared.form.LineForm.TheVariants.{Proposals}
use Rattle.sheet.proofs.Laws.Readings.{read_as_lem}
use Rattle.proposing.specs.Answers.{ProposesAll}
use Rattle.line_proposals.specs.LinePairs.{LineCounts, LineHas, ProposesLine}
use Rattle.line_proposals.proofs.Laws.WholeLine.{few_pairs, counted}
use Rattle.player.specs.Played.{printed, Prints, PlaysProposals}
use Rattle.player.proofs.Laws.Parts.{part_inside}
use Rattle.player.proofs.Laws.Playing.{Answer, five, on_part}

module _ (line : List ℕ) (at count : ℕ) (has : LineCounts line at count) where
  pub pairs_counted : LineHas line at
  unfolding LineHas
  pairs_counted = (count, has)

  -- a line is too short for more pairs than a number of 32 bits tells
  pub pairs_fit : Fits w32 count
  unfolding LineCounts
  pairs_fit =
      let q = read_as_lem (word_place line) (read_line line) (reads (Proposals at count)) has in
      record { fits = omega (arith, few_pairs line q.0 q.1, q.2) }

module _ (line : List ℕ) (laid : ℕ) (m : List ℕ) where
  pub pairs_five : (k : refusals.Refusal) → (laid ≡ 0) × (k ≡ NoBoardLaid) → PlaysProposals line laid m (Err k) m
  unfolding PlaysProposals play_form
  pairs_five k e = λ ps q. five laid m _ _ k e

  module _ (part : ℕ) (d : List ℕ) (lent : (laid ≡ 0 → ⊥) × (part ≡ min laid (length m))) where
    printed_on : (w : Result (Unit {0}) refusals.Refusal) → ProposesLine line (take part m) w d → (ps : List Proposal)
        → read_line line ≡ reads (proposals ps) → (r : Answer)
        → or_refused (verdict w) (together_text (length ps)) ≡ printed r → length (printed r) < 512
        → Prints (play_form laid m (proposals ps)) laid r (d ++ drop part m)
    unfolding ProposesLine ProposesAll play_form
    printed_on w proposes ps q r says short =
        on_part laid m (λ a. or_refused a (together_text (length ps))) (propose_all ps) part (verdict w) d lent
        (proposes ps q).0 (proposes ps q).1 r says short

    pub pairs_turned : (k : refusals.Refusal) → ProposesLine line (take part m) (Err k) d
        → PlaysProposals line laid m (Err k) (d ++ drop part m)
    unfolding PlaysProposals or_refused verdict
    pairs_turned k proposes ps q = printed_on (Err k) proposes ps q (Err k) refl (refused_short (number k))

    pub pairs_play : (at count : ℕ) → LineCounts line at count → (x : Unit {0}) → ProposesLine line (take part m) (Ok x) d
        → (l : List ℕ) → l ≡ together_text count → PlaysProposals line laid m (Ok l) (d ++ drop part m)
    unfolding PlaysProposals or_refused verdict
    pairs_play at count has x proposes l h ps q =
        printed_on (Ok x) proposes ps q (Ok l)
        (ap together_text (sym (counted line at count has ps q)) ∙ sym h)
        (subst (λ (x : List ℕ). length x < 512) (sym h) (together_short count))

pub ruleset pairs = (part_inside, pairs_five, pairs_counted, pairs_fit, pairs_turned, pairs_play)
