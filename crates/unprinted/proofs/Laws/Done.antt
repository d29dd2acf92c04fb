-- What is left of the memory is what the player of the line leaves: its laws, without the line that it would print.
-- Relies on the player's laws; the proofs of the functions here and of the tape of a line rely on it.
use Rattle.model.proofs.Kit.{◌≡◌, refl, sym, subst, true, false, eqb, eqb-true, eqb-false, take-append-drop, List, ◌++◌}
use Rattle.model.proofs.Kit.{ℕ, length, take, drop}
use Prim.Native.Nat.{min}
use Rattle.std.specs.Prelude.{Ok, Err}
use Rattle.std.specs.declared.result.Result.{Result}
use Rattle.model.specs.declared.refusal.Refusal as refusals
use Rattle.model.specs.declared.refusal.Refusal.TheVariants.{NoBoardLaid}
use Rattle.model.specs.Figure.{Figure}
use Rattle.model.specs.Layout.{board_length}
use Rattle.model.specs.Calls as calls
use Rattle.model.specs.Told.{verdict}
use Rattle.model.specs.Forms as forms
use Rattle.model.specs.Sheet as model
use Rattle.model.specs.Sheet.{laid_text, proposed_text, together_text, play_form, turned_down}
use Rattle.model.proofs.Basics.Tests.{by_test}
use Rattle.model.proofs.Sheet.PlayedLines.{no_board, on_board_lem}
use Rattle.line_proposals.specs.LinePairs.{LineHas, ProposesLine}
use Rattle.player.specs.Played.{printed, Prints, PlaysForm, PlaysProposals}
use Rattle.player.proofs.Laws.Playing.{Answer, board_turned, board_plays, propose_five, propose_turned, propose_plays}
use Rattle.player.proofs.Laws.PlayingPairs.{pairs_five, pairs_turned, pairs_play}
use Rattle.unprinted.specs.Done.{Done, PairsDone}

done : {p : model.Played} {laid : ℕ} {r : Answer} {d : List ℕ} → Prints p laid r d → Done p laid d
done h = record { laid = h.stays; memory = h.memory }

-- ---- laying

module _ (laid : ℕ) (m : List ℕ) (n K need part : ℕ) (v : Result (Unit {0}) refusals.Refusal) (d : List ℕ)
    (whole : need ≡ board_length n K) (lent : part ≡ min need (length m))
    (answered : (verdict v ≡ (calls.lay n K (take part m)).answer) × (d ≡ (calls.lay n K (take part m)).bytes)) where
  pub board_not_laid : (k : refusals.Refusal) → v ≡ Err k
      → Done (play_form laid m (forms.board n K)) laid (d ++ drop part m)
  board_not_laid k e =
      let h =
      board_turned laid m n K need part d whole lent v answered k e (record { line = printed (Err k); laid = laid }) refl refl in
      record { laid = h.laid; memory = h.memory }

  pub board_laid : (x : Unit {0}) → v ≡ Ok x → Done (play_form laid m (forms.board n K)) need (d ++ drop part m)
  board_laid x e =
      let h = board_plays laid m n K need part d whole lent v answered x e (laid_text n K) refl in
      record { laid = h.laid; memory = h.memory }

-- ---- proposing

module _ (laid : ℕ) (m : List ℕ) (i : ℕ) (v : Figure) where
  pub nothing_proposed : laid ≡ 0 → Done (play_form laid m (forms.propose i v)) laid m
  unfolding PlaysForm
  nothing_proposed e = done (propose_five laid m i v NoBoardLaid (e, refl))

  module _ (part : ℕ) (w : Result (Unit {0}) refusals.Refusal) (d : List ℕ) (f : laid ≡ 0 → ⊥)
      (lent : part ≡ min laid (length m))
      (answered : (verdict w ≡ (calls.propose i v (take part m)).answer)
      × (d ≡ (calls.propose i v (take part m)).bytes)) where
    pub one_proposed : Done (play_form laid m (forms.propose i v)) laid (d ++ drop part m)
    unfolding PlaysForm
    one_proposed = go w answered
      where
        go : (x : Result (Unit {0}) refusals.Refusal)
            → (verdict x ≡ (calls.propose i v (take part m)).answer) × (d ≡ (calls.propose i v (take part m)).bytes)
            → Done (play_form laid m (forms.propose i v)) laid (d ++ drop part m)
        go (Err k) a = done (propose_turned laid m i v part d (f, lent) k a)
        go (Ok x) a = done (propose_plays laid m i v part d (f, lent) x a (proposed_text i v) refl)

-- a figure that is passed is the figure
pub same_proposed : (laid : ℕ) (m : List ℕ) (i : ℕ) (z v : Figure) (d : List ℕ) → z ≡ v
    → Done (play_form laid m (forms.propose i z)) laid d → Done (play_form laid m (forms.propose i v)) laid d
same_proposed laid m i z v d e h = subst (λ (x : Figure). Done (play_form laid m (forms.propose i x)) laid d) e h

-- ---- the pairs of a line

module _ (line : List ℕ) (laid : ℕ) (m : List ℕ) where
  pub no_pairs_put : laid ≡ 0 → PairsDone line laid m m
  unfolding PairsDone PlaysProposals
  no_pairs_put e = λ ps q. done (pairs_five line laid m NoBoardLaid (e, refl) ps q)

  module _ (at part : ℕ) (has : LineHas line at) (w : Result (Unit {0}) refusals.Refusal) (d : List ℕ) (f : laid ≡ 0 → ⊥)
      (lent : part ≡ min laid (length m)) (proposes : ProposesLine line (take part m) w d) where
    pub pairs_put : PairsDone line laid m (d ++ drop part m)
    unfolding PairsDone PlaysProposals LineHas
    pairs_put = go w proposes
      where
        go : (x : Result (Unit {0}) refusals.Refusal) → ProposesLine line (take part m) x d
            → PairsDone line laid m (d ++ drop part m)
        go (Err k) a ps q = done (pairs_turned line laid m part d (f, lent) k a ps q)
        go (Ok x) a ps q =
            done (pairs_play line laid m part d (f, lent) at has.0 has.1 x a (together_text has.0) refl ps q)

-- ---- a show, which does nothing

pub show_done : (laid : ℕ) (m : List ℕ) → Done (play_form laid m forms.show) laid m
unfolding play_form turned_down
show_done laid m = by_test (eqb laid 0) none_laid shown
  where
    none_laid : eqb laid 0 ≡ true → Done (play_form laid m forms.show) laid m
    none_laid e =
        subst (λ (p : model.Played). Done p laid m) (sym (no_board laid m _ _ (eqb-true laid 0 e)))
        (record { laid = refl; memory = refl })

    shown : eqb laid 0 ≡ false → Done (play_form laid m forms.show) laid m
    shown e =
        subst (λ (p : model.Played). Done p laid m) (sym (on_board_lem laid m (eqb-false laid 0 e) _ _))
        (record { laid = refl; memory = sym (take-append-drop laid m) })
