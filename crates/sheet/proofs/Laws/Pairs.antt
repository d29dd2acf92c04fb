-- The two forms of `propose`: which of them a line is, and the pairs of one up to the line's end.
-- Relies on the laws of lists and forms and the lists of pairs that are read; the proofs of src/form.rt rely on it.
use Rattle.model.proofs.Kit.{◌≡◌, sym, ap, ◌∙◌, Bool, true, false, List, [], ℕ, ◌+◌, ◌≤◌, ◌<◌, eqb, length, drop, arith}
use Rattle.model.specs.Bytes.{byte}
use Rattle.model.specs.Proposals.{Proposal}
use Rattle.model.specs.Forms as forms
use Rattle.model.specs.Forms.{found, pair_in, pairs_in, single_in, together_in, propose_row, Reading, reads, unread, or_four}
use Rattle.list_laws.specs.declared.Listed.{Listed}
use Rattle.std.specs.Prelude.{Ok, Err}
use Rattle.std.specs.declared.result.Result.{Result}
use Rattle.model.specs.declared.refusal.Refusal.{Refusal}
use Rattle.lexer.specs.declared.At.{At}
use Rattle.lexer.specs.Placed.{placed}
use Rattle.lexer.proofs.Laws.Answers.{missed, there}
use Rattle.list_laws.specs.Lists.{read_as, summary, ListIs}
use Rattle.list_laws.proofs.Laws.Lists.{as_none, as_found}
use Rattle.pair_reader.specs.Pairs.{need_nothing}
use Rattle.sheet.specs.declared.form.LineForm.{LineForm}
use Rattle.sheet.specs.declared.form.LineForm.TheVariants.{Proposals}
use Rattle.sheet.specs.LineForms.{line_form}
use Rattle.sheet.proofs.Laws.Forms.{up_to_end, end_missing, end_behind, end_read}

-- ---- the form

module _ (line : List ℕ) (at : ℕ) (r : Result (At Listed) Refusal) (list : ListIs pair_in need_nothing [] line at r)
  where
    read_list : placed line r ≡ or_four (read_as (summary need_nothing) (pairs_in (drop at line)))
    unfolding pairs_in
    read_list = list.reads (length (drop at line) + 1) (omega arith)

    pub together_missing : (k : Refusal) → r ≡ Err k → unread 4 ≡ line_form at (or_four (together_in (drop at line)))
    unfolding together_in up_to_end
    together_missing k e =
        end_missing forms.proposals at _ (as_none _ _ (missed (λ v. v) line r _ read_list k e))

    module _ (a : At Listed) (e : r ≡ Ok a) where
      listed : (ps : List Proposal) × (pairs_in (drop at line) ≡ found ps (drop a.next line))
          × (summary need_nothing ps ≡ a.value)
      listed = as_found _ _ _ _ (there (λ v. v) line r _ read_list a e)

      pub together_behind : a.next < length line → unread 4 ≡ line_form at (or_four (together_in (drop at line)))
      unfolding together_in up_to_end
      together_behind h = end_behind forms.proposals at _ line listed.0 a.next listed.1 h

      pub together_read : length line ≤ a.next
          → reads (Proposals at a.value.count) ≡ line_form at (or_four (together_in (drop at line)))
      unfolding together_in up_to_end summary line_form
      together_read h =
          ap (λ (s : Listed). reads (Proposals at s.count)) (sym listed.2)
          ∙ end_read forms.proposals at _ line listed.0 a.next listed.1 h

-- ---- which of the two forms of the word it is

module _ (line : List ℕ) (at : ℕ) where
  module _ (t : Bool) (opens : t ≡ eqb (byte (drop at line) 1) 40) (x : Reading LineForm) where
    pub pairs_form : t ≡ true → x ≡ line_form at (or_four (together_in (drop at line)))
        → x ≡ line_form at (or_four (propose_row.reader (drop at line)))
    unfolding propose_row
    pairs_form e h = h ∙ rw (sym opens ∙ e)

    pub single_form : t ≡ false → x ≡ line_form at (or_four (single_in (drop at line)))
        → x ≡ line_form at (or_four (propose_row.reader (drop at line)))
    unfolding propose_row
    single_form e h = h ∙ rw (sym opens ∙ e)
