-- Fields of a record changed where it stands on a board: their bytes put in are the bytes of the changed record.
-- Relies on the layout and on Splices; what a step puts back relies on it.
use Rattle.model.proofs.Kit.{◌≡◌, refl, sym, ap, ◌∙◌, List, [], ◌∷◌, ◌++◌, ℕ, ◌+◌, ◌≤◌, lit≤, length, drop}
use Rattle.model.proofs.Kit.{take-append-drop}
use lib.Seq.{take-add}
use Rattle.model.specs.declared.Record.{Record}
use Rattle.model.specs.Bytes.{part, splice, digits}
use Rattle.model.specs.Figure.{figure_bytes}
use Rattle.model.specs.Layout.{lay_record, Change, phase_is, position_is, island_is, seen_is, highest_is, flag_is}
use Rattle.model.specs.Layout.{proposal_is, carried_is, best_is, steps_is, met_is, steps_at, met_at, stored, change}
use Rattle.model.specs.Layout.{changed, store, put_changes}
use Rattle.model.proofs.Basics.Splices.{length_part, splice_inside}

module _ (at : ℕ) (b : List ℕ) (h : at + 24 ≤ length b) where
  one_put : (c : Change) (f : Record)
      → store (stored c) at (splice at (lay_record f) b) ≡ splice at (lay_record (change (stored c) f)) b
  unfolding lay_record splice figure_bytes digits
  one_put (phase_is x) f = splice_inside at 0 (x ∷ []) (lay_record f) b (lit≤ tt) h
  one_put (position_is x) f = splice_inside at 1 (x ∷ []) (lay_record f) b (lit≤ tt) h
  one_put (island_is x) f = splice_inside at 2 (x ∷ []) (lay_record f) b (lit≤ tt) h
  one_put (seen_is x) f = splice_inside at 3 (x ∷ []) (lay_record f) b (lit≤ tt) h
  one_put (highest_is x) f = splice_inside at 4 (x ∷ []) (lay_record f) b (lit≤ tt) h
  one_put (flag_is x) f = splice_inside at 5 (x ∷ []) (lay_record f) b (lit≤ tt) h
  one_put (proposal_is v) f = splice_inside at 8 (figure_bytes v) (lay_record f) b (lit≤ tt) h
  one_put (carried_is v) f = splice_inside at 12 (figure_bytes v) (lay_record f) b (lit≤ tt) h
  one_put (best_is v) f = splice_inside at 16 (figure_bytes v) (lay_record f) b (lit≤ tt) h
  one_put (steps_is x) f = splice_inside at steps_at (digits 2 x) (lay_record f) b (lit≤ tt) h
  one_put (met_is x) f = splice_inside at met_at (x ∷ []) (lay_record f) b (lit≤ tt) h

  -- over a record that was just put there
  pub all_put : (cs : List Change) (f : Record)
      → put_changes cs at (splice at (lay_record f) b) ≡ splice at (lay_record (changed cs f)) b
  unfolding put_changes changed
  all_put [] f = refl
  all_put (c ∷ cs) f = ap (put_changes cs at) (one_put c f) ∙ all_put cs (change (stored c) f)

  -- over a record that stands there
  pub put_back : (cs : List Change) (f r : Record) → part at 24 b ≡ lay_record f → changed cs f ≡ r
      → put_changes cs at b ≡ splice at (lay_record r) b
  unfolding part splice
  put_back cs f r e q = ap (put_changes cs at) stands ∙ all_put cs f ∙ ap (λ (g : Record). splice at (lay_record g) b) q
    where
      stands : b ≡ splice at (lay_record f) b
      stands =
          sym (take-append-drop (at + 24) b) ∙ (λ k. take-add at 24 b k ++ drop (at + sym (length_part at 24 b h) k) b)
          ∙ ap (λ (v : List ℕ). splice at v b) e
